-- What the bit patterns of binary64 stand for, and the root of each kind. Assumes nothing.
use mathlib.Core.Path.{◌≡◌, refl, sym, ap, ◌∙◌, subst}
use mathlib.Core.Bool.{Bool, true, false, not, cond, true≢false}
use Prim.Native.Nat.{ℕ, zero, suc, ◌+◌, ◌-◌, ◌*◌, ◌/◌, ◌%◌, ◌^◌, ◌≤◌, ◌<◌}
use native.Mathlib.Nat.{lt_irrefl, mul-pos, mod-eq_of_lt, zero-lt-suc}
use native.Mathlib.Omega.{arith}
use lib.Dec.{T, leb, eqb, leb→le, eqb→eq, not_T}
use lib.Pow.{pow_pos}
use lib.IntN.{ℤ}
use lib.Ieee.{Float, nan, inf, fin, binary64, up, odd, of_fields, of_bits, fits}
use lib.Ieee.Fits.{down_pos}
use lib.Ieee.Bits.{cond_no}
use lib.Ieee.Exact.{HasValue, odd_sign}
use borrow.Author.Tests.{eq-eqb, ne_eqb, lt-leb}
use Rattle.ieee.specs.Root.{root_of, rooted, in_units}
use Rattle.ieee.proofs.Values.{is-nan, from-pattern}
use Rattle.ieee.proofs.Units.{Counts, units_of}

pub of_bits_is : (b : ℕ) → of_bits binary64 b ≡ of_fields binary64 (leb 9223372036854775808 b) (b % 9223372036854775808 / 4503599627370496) (b % 4503599627370496)
unfolding of_bits
of_bits_is b = refl

-- a field below the highest one, of a number that is not negative
pub fields : (s : Bool) (x t : ℕ) → x < 2047 → HasValue (of_fields binary64 s x t) s ((cond (eqb x 0) 0 4503599627370496 + t) * 2 ^ (x - 1)) (2 ^ 1074)
unfolding of_fields
fields s zero t h = subst (λ (z : ℕ). HasValue (odd 53 s t 0 1074) s (z * 2 ^ 0) (2 ^ 1074)) (sym (native.Mathlib.Nat.zero-add t)) (odd_sign 53 s t 0 1074)
fields s (suc x) t h =
    subst (λ (v : Float). HasValue v s ((cond (eqb (suc x) 0) 0 4503599627370496 + t) * 2 ^ (suc x - 1)) (2 ^ 1074))
    (sym (cond_no (eqb (suc x) 2047) (cond (eqb t 0) (inf s) nan) (odd 53 s (4503599627370496 + t) x 1074) (not_T (eqb (suc x) 2047) (λ (u : T (eqb (suc x) 2047)). lt_irrefl 2047 (subst (λ (z : ℕ). z < 2047) (eqb→eq (suc x) 2047 u) h)))))
    (subst (λ (z : ℕ). HasValue (odd 53 s (4503599627370496 + t) x 1074) s (z * 2 ^ (suc x - 1)) (2 ^ 1074)) (ap (λ (b : Bool). cond b 0 4503599627370496 + t) (sym (ne_eqb (suc x) 0 (λ (q : suc x ≡ 0). nz x q))))
    (subst (λ (z : ℕ). HasValue (odd 53 s (4503599627370496 + t) x 1074) s ((4503599627370496 + t) * 2 ^ z) (2 ^ 1074)) (pr x) (odd_sign 53 s (4503599627370496 + t) x 1074)))
  where
    nz : (y : ℕ) → suc y ≡ 0 → ⊥
    nz y q = omega arith

    pr : (y : ℕ) → y ≡ suc y - 1
    pr y = omega arith

-- the exponent and the significand of a pattern below the infinity's
abbrev pub expo : ℕ → ℕ
expo b = b / 4503599627370496 - 1

abbrev pub signif : ℕ → ℕ
signif b = b - expo b * 4503599627370496

signif-is : (b : ℕ) → cond (eqb (b / 4503599627370496) 0) 0 4503599627370496 + b % 4503599627370496 ≡ signif b
signif-is b = go (b / 4503599627370496) refl
  where
    e : b / 4503599627370496 * 4503599627370496 + b % 4503599627370496 ≡ b
    e = native.Mathlib.Nat.div-add-mod' b 4503599627370496

    go : (x : ℕ) → b / 4503599627370496 ≡ x → cond (eqb (b / 4503599627370496) 0) 0 4503599627370496 + b % 4503599627370496 ≡ signif b
    go zero q = ap (λ (u : Bool). cond u 0 4503599627370496 + b % 4503599627370496) (eq-eqb (b / 4503599627370496) 0 q) ∙ low b q
      where
        low : (z : ℕ) → z / 4503599627370496 ≡ 0 → 0 + z % 4503599627370496 ≡ z - (z / 4503599627370496 - 1) * 4503599627370496
        low z h = omega arith
    go (suc x) q = ap (λ (u : Bool). cond u 0 4503599627370496 + b % 4503599627370496) (ne_eqb (b / 4503599627370496) 0 (λ r. nz (b / 4503599627370496) x q r)) ∙ high b x q
      where
        nz : (z y : ℕ) → z ≡ suc y → z ≡ 0 → ⊥
        nz z y h k = omega arith

        high : (z y : ℕ) → z / 4503599627370496 ≡ suc y → 4503599627370496 + z % 4503599627370496 ≡ z - (z / 4503599627370496 - 1) * 4503599627370496
        high z y h = omega arith

-- 0x7ff0_0000_0000_0000 is the infinity's pattern
pub counts : (b : ℕ) → b < 0x7ff0_0000_0000_0000 → Counts (of_bits binary64 b) (signif b * 2 ^ expo b)
counts b h =
    let small : b < 9223372036854775808 = omega arith in
    let f : b / 4503599627370496 < 2047 = omega arith in
    subst (λ (v : Float). Counts v (signif b * 2 ^ expo b))
    (sym (of_bits_is b
    ∙ ap (λ (s : Bool). of_fields binary64 s (b % 9223372036854775808 / 4503599627370496) (b % 4503599627370496)) (lt-leb 9223372036854775808 b small)
    ∙ ap (λ (x : ℕ). of_fields binary64 false (x / 4503599627370496) (b % 4503599627370496)) (mod-eq_of_lt small)))
    (subst (λ (z : ℕ). HasValue (of_fields binary64 false (b / 4503599627370496) (b % 4503599627370496)) false (z * 2 ^ expo b) (2 ^ 1074)) (signif-is b) (fields false (b / 4503599627370496) (b % 4503599627370496) f))

-- ---- the root of a number above zero, and of one below
above : (m : ℕ) (e : ℤ) → 0 < m → root_of (fin false m e) ≡ rooted (in_units (fin false m e))
unfolding root_of
above zero e h = absurd (lt_irrefl 0 h)
above (suc m) e h = refl

pub root_above : (x : Float) (a : ℕ) → Counts x a → 0 < a → root_of x ≡ rooted a
root_above nan a h p = absurd h
root_above (inf s) a h p = absurd h
root_above (fin true m e) a h p = absurd (true≢false h.0)
root_above (fin false m e) a h p = above m e (lib.Ieee.Positive.first_pos m (up e) (lib.Ieee.Positive.first_pos (m * up e) (2 ^ 1074) (subst (λ (z : ℕ). 0 < z) (sym h.1) (mul-pos p (down_pos e))))) ∙ ap rooted (units_of (fin false m e) a h)

below : (m : ℕ) (e : ℤ) → 0 < m → root_of (fin true m e) ≡ nan
unfolding root_of
below zero e h = absurd (lt_irrefl 0 h)
below (suc m) e h = refl

pub root_below : (x : Float) (a c : ℕ) → HasValue x true a c → 0 < a → root_of x ≡ nan
root_below nan a c h p = absurd h
root_below (inf s) a c h p = absurd h
root_below (fin false m e) a c h p = absurd (true≢false (sym h.0))
root_below (fin true m e) a c h p = below m e (lib.Ieee.Positive.first_pos m (up e) (lib.Ieee.Positive.first_pos (m * up e) c (subst (λ (z : ℕ). 0 < z) (sym h.1) (mul-pos p (down_pos e)))))

-- ---- the patterns above the infinity's: NaNs, and the numbers below zero
root_nan : root_of nan ≡ nan
unfolding root_of
root_nan = refl

top_field : (s t : Bool) → cond s (s ≡ true) (t ≡ false) → root_of (cond t (inf s) nan) ≡ nan
unfolding root_of
top_field true true h = refl
top_field true false h = refl
top_field false true h = absurd (true≢false h)
top_field false false h = refl

at_top : (s : Bool) (t : ℕ) → cond s (s ≡ true) (eqb t 0 ≡ false) → root_of (of_fields binary64 s 2047 t) ≡ nan
unfolding of_fields
at_top s t h = top_field s (eqb t 0) h

not_both : (b : ℕ) → 9223372036854775808 ≤ b → b < 2 ^ 64 → (b ≡ 9223372036854775808 → ⊥) → 0 < cond (eqb (b % 9223372036854775808 / 4503599627370496) 0) 0 4503599627370496 + b % 4503599627370496
not_both b h k n = go (eqb (b % 9223372036854775808 / 4503599627370496) 0) (eqb→eq (b % 9223372036854775808 / 4503599627370496) 0)
  where
    go : (u : Bool) → (T u → b % 9223372036854775808 / 4503599627370496 ≡ 0) → 0 < cond u 0 4503599627370496 + b % 4503599627370496
    go true q = let z = q tt in omega arith
    go false q = omega arith

pub root_nothing : (b : ℕ) → 0x7ff0_0000_0000_0000 < b → b < 2 ^ 64 → (b ≡ 9223372036854775808 → ⊥) → root_of (of_bits binary64 b) ≡ nan
root_nothing b h k n = ap root_of (of_bits_is b) ∙ go (leb 9223372036854775808 b) (leb→le 9223372036854775808 b) (lib.Dec.nleb→lt 9223372036854775808 b)
  where
    go : (s : Bool) → (T s → 9223372036854775808 ≤ b) → (T (not s) → b < 9223372036854775808) → root_of (of_fields binary64 s (b % 9223372036854775808 / 4503599627370496) (b % 4503599627370496)) ≡ nan
    go false p q =
        let g : b < 9223372036854775808 = q tt in
        let x : b % 9223372036854775808 / 4503599627370496 ≡ 2047 = omega arith in
        let z : b % 4503599627370496 ≡ 0 → ⊥ = omega arith in
        ap (λ (w : ℕ). root_of (of_fields binary64 false w (b % 4503599627370496))) x ∙ at_top false (b % 4503599627370496) (ne_eqb (b % 4503599627370496) 0 z)
    go true p q = cases (eqb (b % 9223372036854775808 / 4503599627370496) 2047) (eqb→eq (b % 9223372036854775808 / 4503599627370496) 2047) (λ (e : b % 9223372036854775808 / 4503599627370496 ≡ 2047). subst T (sym (eq-eqb (b % 9223372036854775808 / 4503599627370496) 2047 e)) tt)
      where
        cases : (u : Bool) → (T u → b % 9223372036854775808 / 4503599627370496 ≡ 2047) → (b % 9223372036854775808 / 4503599627370496 ≡ 2047 → T u) → root_of (of_fields binary64 true (b % 9223372036854775808 / 4503599627370496) (b % 4503599627370496)) ≡ nan
        cases true c d = ap (λ (w : ℕ). root_of (of_fields binary64 true w (b % 4503599627370496))) (c tt) ∙ at_top true (b % 4503599627370496) refl
        cases false c d =
            let x = b % 9223372036854775808 / 4503599627370496 in
            let t = b % 4503599627370496 in
            root_below (of_fields binary64 true x t) ((cond (eqb x 0) 0 4503599627370496 + t) * 2 ^ (x - 1)) (2 ^ 1074) (fields true x t (omega (arith, d))) (mul-pos (not_both b (p tt) k n) (pow_pos (x - 1)))

-- ---- the four values that are their own roots
pub nan_root : (x : Float) → lib.Ieee.ne x x ≡ true → x ≡ root_of x
nan_root x h = let e = is-nan x h in e ∙ sym root_nan ∙ ap root_of (sym e)

pub zero_root : of_bits binary64 0 ≡ root_of (of_bits binary64 0)
unfolding of_bits root_of
zero_root = refl

pub minus-zero_root : of_bits binary64 0x8000_0000_0000_0000 ≡ root_of (of_bits binary64 0x8000_0000_0000_0000)
unfolding of_bits root_of
minus-zero_root = refl

pub infinity_root : of_bits binary64 0x7ff0_0000_0000_0000 ≡ root_of (of_bits binary64 0x7ff0_0000_0000_0000)
unfolding of_bits root_of
infinity_root = refl

pub own_root : (x : Float) (b : ℕ) → T (fits binary64 x) → lib.Ieee.to_bits binary64 x ≡ b → of_bits binary64 b ≡ root_of (of_bits binary64 b) → x ≡ root_of x
own_root x b h e r = from-pattern x b h e ∙ r ∙ ap root_of (sym (from-pattern x b h e))

none-units : (s t : Bool) → in_units (cond t (inf s) nan) ≡ 0
none-units s true = refl
none-units s false = refl

pub at-top-units : (s : Bool) (t : ℕ) → in_units (of_fields binary64 s 2047 t) ≡ 0
unfolding of_fields
at-top-units s t = none-units s (eqb t 0)

-- ---- the patterns of the numbers above zero
none-positive : (s t : Bool) → T (lib.Ieee.Positive.positive (cond t (inf s) nan)) → ⊥
none-positive s true h = h
none-positive s false h = h

top-not_positive : (s : Bool) (t : ℕ) → T (lib.Ieee.Positive.positive (of_fields binary64 s 2047 t)) → ⊥
unfolding of_fields
top-not_positive s t h = none-positive s (eqb t 0) h

minus-not_positive : (x : Float) (a c : ℕ) → HasValue x true a c → T (lib.Ieee.Positive.positive x) → ⊥
minus-not_positive nan a c v h = h
minus-not_positive (inf s) a c v h = h
minus-not_positive (fin true m e) a c v h = h
minus-not_positive (fin false m e) a c v h = true≢false (sym v.0)

zero_not_positive : T (lib.Ieee.Positive.positive (of_bits binary64 0)) → ⊥
unfolding of_bits
zero_not_positive h = h

high-not_positive : (b : ℕ) → 0x7ff0_0000_0000_0000 ≤ b → b < 2 ^ 64 → T (lib.Ieee.Positive.positive (of_bits binary64 b)) → ⊥
high-not_positive b h k w = go (leb 9223372036854775808 b) (leb→le 9223372036854775808 b) (lib.Dec.nleb→lt 9223372036854775808 b) (subst (λ (v : Float). T (lib.Ieee.Positive.positive v)) (of_bits_is b) w)
  where
    x : ℕ
    x = b % 9223372036854775808 / 4503599627370496

    t : ℕ
    t = b % 4503599627370496

    go : (s : Bool) → (T s → 9223372036854775808 ≤ b) → (T (not s) → b < 9223372036854775808) → T (lib.Ieee.Positive.positive (of_fields binary64 s x t)) → ⊥
    go false p q g =
        let l : b < 9223372036854775808 = q tt in
        let e : x ≡ 2047 = omega arith in
        top-not_positive false t (subst (λ (z : ℕ). T (lib.Ieee.Positive.positive (of_fields binary64 false z t))) e g)
    go true p q g = cases (eqb x 2047) (eqb→eq x 2047) (λ (e : x ≡ 2047). subst T (sym (eq-eqb x 2047 e)) tt)
      where
        cases : (u : Bool) → (T u → x ≡ 2047) → (x ≡ 2047 → T u) → ⊥
        cases true c d = top-not_positive true t (subst (λ (z : ℕ). T (lib.Ieee.Positive.positive (of_fields binary64 true z t))) (c tt) g)
        cases false c d = minus-not_positive (of_fields binary64 true x t) _ (2 ^ 1074) (fields true x t (omega (arith, d))) g

pub positive_pattern : (b : ℕ) → b < 2 ^ 64 → T (lib.Ieee.Positive.positive (of_bits binary64 b)) → (0 < b) × (b < 0x7ff0_0000_0000_0000)
positive_pattern b k w = (low b w, native.Mathlib.Nat.lt_of_not-le (λ (g : 0x7ff0_0000_0000_0000 ≤ b). high-not_positive b g k w))
  where
    low : (z : ℕ) → T (lib.Ieee.Positive.positive (of_bits binary64 z)) → 0 < z
    low zero h = absurd (zero_not_positive h)
    low (suc z) h = zero-lt-suc z

pub rooted-of : (x : Float) → T (lib.Ieee.Positive.positive x) → root_of x ≡ rooted (in_units x)
unfolding root_of
rooted-of nan h = absurd h
rooted-of (inf s) h = absurd h
rooted-of (fin true m e) h = absurd h
rooted-of (fin false zero e) h = absurd h
rooted-of (fin false (suc m) e) h = refl
