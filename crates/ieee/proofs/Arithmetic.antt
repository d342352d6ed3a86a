-- Products commute; a number less itself is neither above nor below zero; a sum of squares has no sign and is never below zero. Assumes nothing.
use mathlib.Core.Path.{◌≡◌, refl, sym, ap, ap₂, ◌∙◌, subst}
use mathlib.Core.Bool.{Bool, true, false, not, cond}
use Prim.Native.Nat.{ℕ, zero, suc, ◌+◌, ◌-◌, ◌*◌, ◌/◌, ◌%◌, ◌^◌, ◌<◌, compare, zero-le}
use native.Mathlib.Nat.{mul_comm, mul-pos, zero-mul, sub_self}
use lib.Dec.{T, ltb, eqb, lit<}
use lib.IntN.{ℤ}
use lib.Ieee.{Float, nan, inf, fin, binary64, up, down, low, prec, emax, size, unlike, add, sub, mul, neg, sum, round, units, odd, nearest, lt, of_bits}
use lib.Ieee.Fits.{down_pos, up_pos}
use lib.Ieee.Exact.{HasValue, round_exact}
use borrow.Author.Tests.{le-ltb}
use Rattle.ieee.specs.Consts.{zero_f}
use Rattle.ieee.specs.Operators.{◌⊕◌, ◌⊖◌, ◌⊗◌}

-- ---- products commute
unlike-comm : (s t : Bool) → unlike s t ≡ unlike t s
unlike-comm true true = refl
unlike-comm true false = refl
unlike-comm false true = refl
unlike-comm false false = refl

pub product-comm : (x y : Float) → x ⊗ y ≡ y ⊗ x
unfolding mul
product-comm nan nan = refl
product-comm nan (inf t) = refl
product-comm nan (fin t n d) = refl
product-comm (inf s) nan = refl
product-comm (inf s) (inf t) = ap inf (unlike-comm s t)
product-comm (inf s) (fin t n d) = ap (λ (b : Bool). cond (eqb n 0) nan (inf b)) (unlike-comm s t)
product-comm (fin s m e) nan = refl
product-comm (fin s m e) (inf t) = ap (λ (b : Bool). cond (eqb m 0) nan (inf b)) (unlike-comm s t)
product-comm (fin s m e) (fin t n d) =
    ap (λ (b : Bool). round binary64 b (m * up e * (n * up d)) (down e * down d)) (unlike-comm s t)
    ∙ ap₂ (λ (a c : ℕ). round binary64 (unlike t s) a c) (mul_comm (m * up e) (n * up d)) (mul_comm (down e) (down d))

-- ---- neither above nor below zero: a NaN, or a zero
pub record Level (x : Float) : Type 0 where
  pub not_above : lt zero_f x ≡ false
  pub not_below : lt x zero_f ≡ false

level_nan : Level nan
unfolding lt of_bits
level_nan = record { not_above = refl; not_below = refl }

no_more : (a b : ℕ) → b ≡ 0 → ltb a b ≡ false
no_more a b h = le-ltb a b (subst (λ (z : ℕ). Prim.Native.Nat.◌≤◌ z a) (sym h) zero-le)

level_zero : (m : ℕ) (e : ℤ) → m ≡ 0 → Level (fin false m e)
unfolding lt of_bits
level_zero m e h = record {
  not_above = no_more (0 * 1 * down e) (m * up e * 1) (ap (λ (k : ℕ). k * up e * 1) h ∙ simp zero-mul);
  not_below = no_more (m * up e * 1) (0 * 1 * down e) (simp zero-mul);
}

level_value : (x : Float) (c : ℕ) → 0 < c → HasValue x false 0 c → Level x
level_value nan c p h = absurd h
level_value (inf s) c p h = absurd h
level_value (fin true m e) c p h = absurd (mathlib.Core.Bool.true≢false h.0)
level_value (fin false m e) c p h = level_zero m e (none m (h.1 ∙ zero-mul (down e)))
  where
    none : (k : ℕ) → k * up e * c ≡ 0 → k ≡ 0
    none zero g = refl
    none (suc k) g = absurd (native.Mathlib.Nat.lt_irrefl 0 (subst (λ (z : ℕ). 0 < z) g (mul-pos (mul-pos (native.Mathlib.Nat.zero-lt-suc k) (up_pos e)) p)))

round_zero : (c : ℕ) → 0 < c → Level (round binary64 false 0 c)
round_zero c p = level_value (round binary64 false 0 c) c p (round_exact binary64 false 0 c 0 0 p (lit< tt) (lit< tt) (zero-mul (2 ^ low binary64) ∙ sym (zero-mul c)))

-- ±a / c less itself
no_less : (a c : ℕ) → 0 < c → (s : Bool) → Level (sum binary64 s a (not s) a c)
unfolding sum
no_less a c p true = rw (le-ltb a a (native.Mathlib.Nat.le_refl a), sub_self a) (round_zero c p)
no_less a c p false = rw (le-ltb a a (native.Mathlib.Nat.le_refl a), sub_self a) (round_zero c p)

pub less-itself : (x : Float) → Level (x ⊖ x)
unfolding sub add neg
less-itself nan = level_nan
less-itself (inf true) = level_nan
less-itself (inf false) = level_nan
less-itself (fin s m e) = no_less (m * up e * down e) (down e * down e) (mul-pos (down_pos e) (down_pos e)) s

-- ---- a value with no sign: a NaN, or one from 0.0 up, 0.0 without its minus
abbrev pub unsigned : Float → Bool
unsigned nan = true
unsigned (inf s) = not s
unsigned (fin s m e) = not s

cond-unsigned : (b : Bool) (x y : Float) → T (unsigned x) → T (unsigned y) → T (unsigned (cond b x y))
cond-unsigned true x y h k = h
cond-unsigned false x y h k = k

odd_unsigned : (d q k l : ℕ) → T (unsigned (odd d false q k l))
unfolding odd
odd_unsigned d zero k l = tt
odd_unsigned d (suc q) k l = tt

units_unsigned : (q k : ℕ) → T (unsigned (units binary64 false q k))
unfolding units
units_unsigned q k =
    cond-unsigned (ltb (q * 2 ^ k) (2 ^ (low binary64 + suc (emax binary64)))) (odd (suc (prec binary64)) false q k (low binary64)) (inf false)
    (odd_unsigned (suc (prec binary64)) q k (low binary64)) tt

round_unsigned : (a c : ℕ) → T (unsigned (round binary64 false a c))
unfolding round
round_unsigned a c =
    let n = a * 2 ^ low binary64 in
    let k = size (n / c) - prec binary64 in
    let u = c * 2 ^ k in
    units_unsigned (nearest (n / u) (compare (n % u * 2) u)) k

square-unsigned : (x : Float) → T (unsigned (x ⊗ x))
unfolding mul
square-unsigned nan = tt
square-unsigned (inf true) = tt
square-unsigned (inf false) = tt
square-unsigned (fin true m e) = round_unsigned (m * up e * (m * up e)) (down e * down e)
square-unsigned (fin false m e) = round_unsigned (m * up e * (m * up e)) (down e * down e)

sum-unsigned : (x y : Float) → T (unsigned x) → T (unsigned y) → T (unsigned (x ⊕ y))
unfolding add sum
sum-unsigned nan y h k = tt
sum-unsigned (inf true) y h k = absurd h
sum-unsigned (inf false) nan h k = tt
sum-unsigned (inf false) (inf true) h k = absurd k
sum-unsigned (inf false) (inf false) h k = tt
sum-unsigned (inf false) (fin t n d) h k = tt
sum-unsigned (fin true m e) y h k = absurd h
sum-unsigned (fin false m e) nan h k = tt
sum-unsigned (fin false m e) (inf true) h k = absurd k
sum-unsigned (fin false m e) (inf false) h k = tt
sum-unsigned (fin false m e) (fin true n d) h k = absurd k
sum-unsigned (fin false m e) (fin false n d) h k = round_unsigned (m * up e * down d + n * up d * down e) (down e * down d)

pub squares-unsigned : (x y : Float) → T (unsigned (x ⊗ x ⊕ y ⊗ y))
squares-unsigned x y = sum-unsigned (x ⊗ x) (y ⊗ y) (square-unsigned x) (square-unsigned y)

unsigned-not_below : (x : Float) → T (unsigned x) → lt x zero_f ≡ false
unfolding lt of_bits
unsigned-not_below nan h = refl
unsigned-not_below (inf true) h = absurd h
unsigned-not_below (inf false) h = refl
unsigned-not_below (fin true m e) h = absurd h
unsigned-not_below (fin false m e) h = no_more (m * up e * 1) (0 * 1 * down e) (simp zero-mul)

pub squares-not_below : (x y : Float) → lt (x ⊗ x ⊕ y ⊗ y) zero_f ≡ false
squares-not_below x y = unsigned-not_below (x ⊗ x ⊕ y ⊗ y) (squares-unsigned x y)
