-- The least of the roots is the root of the least, bit for bit, over values with no sign: sums of squares are such. Assumes nothing.
use mathlib.Core.Path.{◌≡◌, refl, sym, ap, ◌∙◌, subst}
use mathlib.Core.Bool.{Bool, true, false, not, cond, ◌||◌}
use mathlib.Core.Logic.{◌⊎◌, inl, inr}
use mathlib.Core.List.{List, [], ◌∷◌}
use Prim.Native.Nat.{ℕ, zero, suc, ◌+◌, ◌-◌, ◌*◌, ◌/◌, ◌^◌, zero-le}
use native.Mathlib.Nat.{zero-mul, mul_right_comm, zero-lt-suc}
use native.Mathlib.Omega.{arith}
use borrow.Author.Tests.{lt-ltb, le-ltb}
use lib.IntN.{ℤ, pos}
use lib.Dec.{T, ltb, eqb, eqb→eq, T_not}
use lib.Ieee.{Float, nan, inf, fin, binary64, up, down, low, prec, size, fits, to_bits, of_bits, lt, eq, le, is_nan, below, level}
use lib.Ieee.Fits.{down_pos, and_l, add-fits}
use lib.Ieee.Bits.{of_bits-to_bits}
use lib.Ieee.Nearest.{div_same}
use lib.Ieee.Positive.{positive}
use Rattle.laws.specs.Floats.{Numeric}
use Rattle.laws.specs.Lists.{foldl}
use Rattle.laws.proofs.Choice.{holds, is_false, or_l, or_r, or_cases}
use Rattle.laws.proofs.Order.{lt_asym, lt_not_eq, trichotomy, eq-sym, lt_left, lt_right, eq-left}
use Rattle.ieee.specs.Consts.{zero_f, infinity_f}
use Rattle.ieee.specs.Num.{abs_of, max_of, min_of}
use Rattle.ieee.specs.Operators.{◌⊕◌, ◌⊗◌}
use Rattle.ieee.specs.Root.{root_of}
use Rattle.ieee.proofs.Arithmetic.{unsigned, squares-unsigned}
use Rattle.ieee.proofs.Monotone.{root_monotone}
use Rattle.ieee.proofs.RootLaws.{root_nearest}

-- ---- a double with no sign
pub record Plain (x : Float) : Type 0 where
  pub held : T (fits binary64 x)
  pub no_sign : T (unsigned x)

-- ---- the same number is the same value
same_size : (m : ℕ) (e : ℤ) (n : ℕ) (d : ℤ) → m * up e * down d ≡ n * up d * down e → m * up e * 2 ^ low binary64 / down e ≡ n * up d * 2 ^ low binary64 / down d
same_size m e n d h = div_same (m * up e * 2 ^ low binary64) (down e) (n * up d * 2 ^ low binary64) (down d) (down_pos e) (down_pos d) (moved (m * up e) (down d) (n * up d) (down e) (2 ^ low binary64) h)
  where
    moved : (a b c d k : ℕ) → a * b ≡ c * d → a * k * b ≡ c * k * d
    moved a b c d k h = mul_right_comm a k b ∙ ap (λ (z : ℕ). z * k) h ∙ mul_right_comm c d k

same_bits : (m : ℕ) (e : ℤ) (n : ℕ) (d : ℤ) → m * up e * down d ≡ n * up d * down e → to_bits binary64 (fin false m e) ≡ to_bits binary64 (fin false n d)
unfolding to_bits
same_bits m e n d h = ap (λ (n : ℕ). let k = size n - prec binary64 in cond false (lib.Ieee.top binary64) 0 + k * lib.Ieee.hid binary64 + n / 2 ^ k) (same_size m e n d h)

pub same-value : (x y : Float) → Plain x → Plain y → T (eq x y) → x ≡ y
unfolding eq
same-value nan y p q h = absurd h
same-value (inf true) y p q h = absurd p.no_sign
same-value (inf false) nan p q h = absurd h
same-value (inf false) (inf true) p q h = absurd h
same-value (inf false) (inf false) p q h = refl
same-value (inf false) (fin t n d) p q h = absurd h
same-value (fin true m e) y p q h = absurd p.no_sign
same-value (fin false m e) nan p q h = absurd h
same-value (fin false m e) (inf t) p q h = absurd h
same-value (fin false m e) (fin true n d) p q h = absurd q.no_sign
same-value (fin false m e) (fin false n d) p q h =
    sym (of_bits-to_bits binary64 (fin false m e) p.held)
    ∙ ap (of_bits binary64) (same_bits m e n d (eqb→eq (m * up e * down d) (n * up d * down e) (and_l (eqb (m * up e * down d) (n * up d * down e)) true h)))
    ∙ of_bits-to_bits binary64 (fin false n d) q.held

-- ---- a sum of squares is such, and so is the infinity
pub squares-plain : (x y : Float) → Plain (x ⊗ x ⊕ y ⊗ y)
squares-plain x y = record { held = add-fits binary64 (x ⊗ x) (y ⊗ y); no_sign = squares-unsigned x y }

pub infinity_plain : Plain infinity_f
unfolding fits of_bits
infinity_plain = record { held = tt; no_sign = tt }

-- ---- the root of a value with no sign has none
positive_unsigned : (x : Float) → T (positive x) → T (unsigned x)
positive_unsigned nan h = tt
positive_unsigned (inf s) h = absurd h
positive_unsigned (fin true m e) h = absurd h
positive_unsigned (fin false m e) h = tt

own : (m : ℕ) (e : ℤ) → T (positive (fin false (suc m) e))
own m e = lib.Dec.lt→ltb 0 (suc m) (zero-lt-suc m)

pub root_plain : (x : Float) → Plain x → Plain (root_of x)
unfolding root_of
root_plain nan p = p
root_plain (inf true) p = absurd p.no_sign
root_plain (inf false) p = p
root_plain (fin s zero e) p = p
root_plain (fin true (suc m) e) p = absurd p.no_sign
root_plain (fin false (suc m) e) p =
    let r = root_nearest (fin false (suc m) e) p.held (own m e) in
    record { held = r.held; no_sign = positive_unsigned (root_of (fin false (suc m) e)) r.above_zero }

-- ---- from zero up
zero_is : (A B : ℕ) → A ≡ 0 → (below false A false B || level false A false B) ≡ true
zero_is A zero h = rw h
zero_is A (suc B) h = rw (lt-ltb A (suc B) (omega arith))

zero_first : (A B : ℕ) → A ≡ 0 → T (below false A false B || level false A false B)
zero_first A B h = subst T (sym (zero_is A B h)) tt

from_zero : (x : Float) → Plain x → Numeric x → T (le (fin false 0 (pos 0)) x)
unfolding le is_nan
from_zero nan p n = absurd n
from_zero (inf true) p n = absurd p.no_sign
from_zero (inf false) p n = tt
from_zero (fin true m e) p n = absurd p.no_sign
from_zero (fin false m e) p n = zero_first (0 * up (pos 0) * down e) (m * up e * down (pos 0)) (simp zero-mul)

pub lt_le : (x y : Float) → T (lt x y) → T (le x y)
unfolding le
lt_le x y h = or_l (lt x y) (eq x y) h

pub eq-le : (x y : Float) → T (eq x y) → T (le x y)
unfolding le
eq-le x y h = or_r (lt x y) (eq x y) h

pub le_cases : (x y : Float) → T (le x y) → T (lt x y) ⊎ T (eq x y)
unfolding le
le_cases x y h = or_cases (lt x y) (eq x y) h

pub le_not_lt : (x y : Float) → T (le x y) → T (lt y x) → ⊥
le_not_lt x y h k = elim (le_cases x y h) [ inl l ↦ lt_asym x y l k | inr e ↦ lt_not_eq y x k (eq-sym x y e) ]

pub not_nan : (x : Float) → Numeric x → is_nan x ≡ false
not_nan x n = is_false (is_nan x) (λ t. T_not (is_nan x) n t)

pub numeric-of : (x : Float) → is_nan x ≡ false → Numeric x
numeric-of x e = subst (λ (b : Bool). T (not b)) (sym e) tt

le_numeric : (x y : Float) → T (le x y) → Numeric x
le_numeric x y h = elim (le_cases x y h) [ inl l ↦ lt_left x y l | inr e ↦ eq-left x y e ]

-- ---- min of two numbers
pub min_numbers : (x y : Float) → is_nan x ≡ false → min_of x y ≡ cond (lt y x) y x
min_numbers x y e = ap (λ (b : Bool). cond b y (cond (lt y x) y x)) e

pub self-le : (x : Float) → Numeric x → T (le x x)
self-le x n = elim (trichotomy x x n n) [ inl l ↦ lt_le x x l | inr r ↦ elim r [ inl e ↦ eq-le x x e | inr l ↦ lt_le x x l ] ]

root_keeps : (x y : Float) → Plain x → Plain y → T (le x y) → T (le (root_of x) (root_of y))
root_keeps x y p q h = root_monotone x y p.held q.held (from_zero x p (le_numeric x y h)) h

pub root_number : (x : Float) → Plain x → is_nan x ≡ false → is_nan (root_of x) ≡ false
root_number x p e = not_nan (root_of x) (le_numeric (root_of x) (root_of x) (root_keeps x x p p (self-le x (numeric-of x e))))

module _ (x y : Float) (p : Plain x) (q : Plain y) (nx : is_nan x ≡ false) (ny : is_nan y ≡ false) where
  later : T (le (root_of y) (root_of x)) → (c : Bool) → lt (root_of y) (root_of x) ≡ c → cond c (root_of y) (root_of x) ≡ root_of y
  later h true e = refl
  later h false e = elim (le_cases (root_of y) (root_of x) h) [
    | inl l ↦ absurd (subst T e l)
    | inr k ↦ sym (same-value (root_of y) (root_of x) (root_plain y q) (root_plain x p) k)
  ]

  first : T (le (root_of x) (root_of y)) → cond (lt (root_of y) (root_of x)) (root_of y) (root_of x) ≡ root_of x
  first h = ap (λ (b : Bool). cond b (root_of y) (root_of x)) (is_false (lt (root_of y) (root_of x)) (le_not_lt (root_of x) (root_of y) h))

  keeps : lt y x ≡ false → T (le x y)
  keeps e = elim (trichotomy x y (numeric-of x nx) (numeric-of y ny)) [
    | inl l ↦ lt_le x y l
    | inr r ↦ elim r [ inl k ↦ eq-le x y k | inr l ↦ absurd (subst T e l) ]
  ]

  by_order : (b : Bool) → lt y x ≡ b → cond (lt (root_of y) (root_of x)) (root_of y) (root_of x) ≡ root_of (cond b y x)
  by_order true e = later (root_keeps y x q p (lt_le y x (holds e))) (lt (root_of y) (root_of x)) refl
  by_order false e = first (root_keeps x y p q (keeps e))

  numbers : min_of (root_of x) (root_of y) ≡ root_of (min_of x y)
  numbers = min_numbers (root_of x) (root_of y) (root_number x p nx) ∙ by_order (lt y x) refl ∙ ap root_of (sym (min_numbers x y nx))

-- beside a NaN the number stays, and so does its root
nan_last : (x : Float) → is_nan x ≡ false → min_of x nan ≡ x
unfolding lt
nan_last x e = min_numbers x nan e

-- THE LAW: the least of two roots is the root of the least
pub min_root : (x y : Float) → Plain x → Plain y → min_of (root_of x) (root_of y) ≡ root_of (min_of x y)
unfolding root_of is_nan lt
min_root nan y p q = refl
min_root (inf s) nan p q = nan_last (root_of (inf s)) (root_number (inf s) p refl)
min_root (inf s) (inf t) p q = numbers (inf s) (inf t) p q refl refl
min_root (inf s) (fin t n d) p q = numbers (inf s) (fin t n d) p q refl refl
min_root (fin s m e) nan p q = nan_last (root_of (fin s m e)) (root_number (fin s m e) p refl)
min_root (fin s m e) (inf t) p q = numbers (fin s m e) (inf t) p q refl refl
min_root (fin s m e) (fin t n d) p q = numbers (fin s m e) (fin t n d) p q refl refl

-- the least stays without a sign
pub min_plain : (x y : Float) → Plain x → Plain y → Plain (min_of x y)
min_plain x y p q = go (is_nan x) (lt y x)
  where
    go : (a b : Bool) → Plain (cond a y (cond b y x))
    go true b = q
    go false true = q
    go false false = p

-- a number stays one
pub min_number : (x y : Float) → is_nan x ≡ false → is_nan (min_of x y) ≡ false
min_number x y e = ap is_nan (min_numbers x y e) ∙ go (lt y x) refl
  where
    go : (b : Bool) → lt y x ≡ b → is_nan (cond b y x) ≡ false
    go true h = not_nan y (lt_left y x (holds h))
    go false h = e

-- over any list: the squares f e of the elements e are taken into a, roots first or root last
pub fold_root : {E : Type 0} (f : E → Float) → ((e : E) → Plain (f e)) → (l : List E) (a : Float) → Plain a
    → foldl (λ x e. min_of x (root_of (f e))) (root_of a) l ≡ root_of (foldl (λ x e. min_of x (f e)) a l)
unfolding foldl
fold_root f p [] a h = refl
fold_root {E} f p (e ∷ l) a h =
    ap (λ (x : Float). foldl (λ (x : Float) (e : E). min_of x (root_of (f e))) x l) (min_root a (f e) h (p e))
    ∙ fold_root f p l (min_of a (f e)) (min_plain a (f e) h (p e))

-- from infinity, which is its own root
pub least_root : {E : Type 0} (f : E → Float) → ((e : E) → Plain (f e)) → (l : List E)
    → foldl (λ x e. min_of x (root_of (f e))) infinity_f l ≡ root_of (foldl (λ x e. min_of x (f e)) infinity_f l)
unfolding root_of of_bits
least_root f p l = fold_root f p l infinity_f infinity_plain

-- ---- max of a number, and a difference that is not zero
pub max_numbers : (x y : Float) → is_nan x ≡ false → max_of x y ≡ cond (lt x y) y x
max_numbers x y e = ap (λ (b : Bool). cond b y (cond (lt x y) y x)) e

pub max_number : (x y : Float) → is_nan x ≡ false → is_nan (max_of x y) ≡ false
max_number x y e = ap is_nan (max_numbers x y e) ∙ go (lt x y) refl
  where
    go : (b : Bool) → lt x y ≡ b → is_nan (cond b y x) ≡ false
    go true h = not_nan y (lt_right x y (holds h))
    go false h = e

or_none : (a b : Bool) → b ≡ false → (a || b) ≡ a
or_none true b e = refl
or_none false b e = e

pub not_zero : (x : Float) → (lt zero_f x || lt x zero_f) ≡ lt zero_f (abs_of x)
unfolding lt of_bits
not_zero nan = refl
not_zero (inf true) = refl
not_zero (inf false) = refl
not_zero (fin true m e) = simp (zero-mul, native.Mathlib.Nat.add-zero)
not_zero (fin false m e) = or_none (ltb (0 * 1 * down e) (m * up e * 1)) (ltb (m * up e * 1) (0 * 1 * down e)) (simp zero-mul (le-ltb (m * up e * 1) 0 zero-le))
