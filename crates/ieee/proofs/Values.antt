-- What the code's tests on a float tell, by cases on the float. Assumes nothing.
use mathlib.Core.Path.{◌≡◌, refl, sym, ap, ◌∙◌, subst}
use mathlib.Core.Bool.{Bool, true, false, not, cond, true≢false, ◌&&◌}
use Prim.Native.Nat.{ℕ, zero, suc, ◌*◌, ◌%◌, ◌^◌, ◌<◌, ◌≤◌, zero-le}
use native.Mathlib.Nat.{zero-mul, mul-one, one-mul, mul-pos, lt_irrefl, zero-lt-suc, add-zero, two-pow-succ}
use native.Mathlib.Omega.{arith}
use lib.Pow.{pow_pos}
use lib.IntN.{ℤ, pos, negsuc}
use lib.Dec.{T, eqb, eqb→eq}
use lib.Ieee.{Float, nan, inf, fin, binary64, up, down, lt, le, eq, ne, neg, div, is_nan, fits, of_bits, to_bits, nan_bits}
use lib.Ieee.Fits.{up_pos}
use lib.Ieee.Bits.{of_bits-to_bits, nan_bits_is, nan_bits_above}
use lib.Ieee.Compare.{differs_from_itself}
use borrow.Author.Tests.{eq-eqb, ne_eqb, lt-ltb, le-ltb}
use Rattle.ieee.specs.Consts.{infinity_f}
use Rattle.ieee.specs.Num.{finite, abs_of}
use Rattle.ieee.specs.TotalOrder.{is_zero}

-- ---- NaN
pub nan_test : (x : Float) → ne x x ≡ is_nan x
unfolding ne is_nan
nan_test nan = refl
nan_test (inf true) = refl
nan_test (inf false) = refl
nan_test (fin true m e) = rw (eq-eqb (m * up e * down e) (m * up e * down e) refl)
nan_test (fin false m e) = rw (eq-eqb (m * up e * down e) (m * up e * down e) refl)

pub is-nan : (x : Float) → ne x x ≡ true → x ≡ nan
is-nan x h = differs_from_itself x (subst T (sym h) tt)

pub no_nan : (x : Float) → ne x x ≡ false → T (not (is_nan x))
no_nan x h = subst (λ (b : Bool). T (not b)) (sym h ∙ nan_test x) tt

-- what is at least some number is no NaN
le_nan : (x : Float) → le x nan ≡ false
unfolding le
le_nan nan = refl
le_nan (inf s) = refl
le_nan (fin s m e) = refl

pub le_no_nan : (x y : Float) → le x y ≡ true → T (not (is_nan y))
unfolding is_nan
le_no_nan x nan h = true≢false (sym h ∙ le_nan x)
le_no_nan x (inf s) h = tt
le_no_nan x (fin s m e) h = tt

pub the_nan : of_bits binary64 0x7ff8_0000_0000_0000 ≡ nan
unfolding of_bits
the_nan = refl

pub zero_over_zero : div binary64 (of_bits binary64 0) (of_bits binary64 0) ≡ nan
unfolding of_bits div
zero_over_zero = refl

-- ---- bit patterns
pub from-pattern : (x : Float) (b : ℕ) → T (fits binary64 x) → to_bits binary64 x ≡ b → x ≡ of_bits binary64 b
from-pattern x b h e = sym (of_bits-to_bits binary64 x h) ∙ ap (of_bits binary64) e

of_nan : (x : Float) → is_nan x ≡ true → x ≡ nan
unfolding is_nan
of_nan nan h = refl
of_nan (inf s) h = absurd (true≢false (sym h))
of_nan (fin s m e) h = absurd (true≢false (sym h))

pub nan_pattern : (b : ℕ) → 0x7ff0_0000_0000_0000 < b % 0x8000_0000_0000_0000 → of_bits binary64 b ≡ nan
nan_pattern b h = of_nan (of_bits binary64 b) (sym (nan_bits_is binary64 b) ∙ nan_bits_above binary64 b ∙ lt-ltb 0x7ff0_0000_0000_0000 (b % 0x8000_0000_0000_0000) h)

pub no_nan_pattern : (b : ℕ) → b % 0x8000_0000_0000_0000 ≤ 0x7ff0_0000_0000_0000 → T (not (nan_bits binary64 b))
no_nan_pattern b h = subst (λ (t : Bool). T (not t)) (sym (nan_bits_above binary64 b ∙ le-ltb 0x7ff0_0000_0000_0000 (b % 0x8000_0000_0000_0000) h)) tt

pub nan_bits_lem : 0x7ff8_0000_0000_0000 ≡ to_bits binary64 nan
unfolding to_bits
nan_bits_lem = refl

-- ---- infinities
pub finite_test : (x : Float) → (lt x infinity_f && lt (neg infinity_f) x) ≡ finite x
unfolding lt neg of_bits
finite_test nan = refl
finite_test (inf true) = refl
finite_test (inf false) = refl
finite_test (fin s m e) = refl

-- ---- zeros
above_zero : (m : ℕ) (e : ℤ) → 0 < suc m * up e * 1
above_zero m e = rw mul-one (mul-pos (zero-lt-suc m) (up_pos e))

not_zero : (m : ℕ) (e : ℤ) → suc m * up e * 1 ≡ 0 → ⊥
not_zero m e h = lt_irrefl 0 (subst (λ (z : ℕ). 0 < z) h (above_zero m e))

pub minus_zero_test : (x : Float) → (eq x (of_bits binary64 0) && lt (div binary64 (of_bits binary64 0x3ff0_0000_0000_0000) x) (of_bits binary64 0)) ≡ is_zero true x
unfolding eq lt div of_bits
minus_zero_test nan = refl
minus_zero_test (inf s) = refl
minus_zero_test (fin true zero e) = simp zero-mul
minus_zero_test (fin false zero e) = simp zero-mul
minus_zero_test (fin s (suc m) e) = simp (zero-mul, ne_eqb (suc m * up e * 1) 0 (not_zero m e))

pub plus_zero_test : (x : Float) → (eq x (of_bits binary64 0) && lt (of_bits binary64 0) (div binary64 (of_bits binary64 0x3ff0_0000_0000_0000) x)) ≡ is_zero false x
unfolding eq lt div of_bits
plus_zero_test nan = refl
plus_zero_test (inf s) = refl
plus_zero_test (fin true zero e) = simp zero-mul
plus_zero_test (fin false zero e) = simp zero-mul
plus_zero_test (fin s (suc m) e) = simp (zero-mul, ne_eqb (suc m * up e * 1) 0 (not_zero m e))

-- a zero that fits is written with the exponent 0
too_big : (k : ℕ) → 2 ^ suc k ≡ 1 → ⊥
too_big k e = let p = pow_pos k in let q = two-pow-succ k in omega arith

zero_exponent : (e : ℤ) → T (eqb (up e * down e) 1) → e ≡ pos 0
zero_exponent (pos zero) h = refl
zero_exponent (pos (suc k)) h = absurd (too_big k (sym (mul-one (2 ^ suc k)) ∙ eqb→eq (2 ^ suc k * 1) 1 h))
zero_exponent (negsuc k) h = absurd (too_big k (sym (one-mul (2 ^ suc k)) ∙ eqb→eq (1 * 2 ^ suc k) 1 h))

pub abs_test : (x : Float) → T (fits binary64 x) → cond (lt x (of_bits binary64 0)) (neg x) (cond (eq x (of_bits binary64 0)) (of_bits binary64 0) x) ≡ abs_of x
unfolding eq lt neg of_bits fits
abs_test nan f = refl
abs_test (inf true) f = refl
abs_test (inf false) f = refl
abs_test (fin true zero e) f = simp zero-mul (ap (fin false 0) (sym (zero_exponent e f)))
abs_test (fin false zero e) f = simp zero-mul (ap (fin false 0) (sym (zero_exponent e f)))
abs_test (fin true (suc m) e) f = simp (zero-mul, add-zero, lt-ltb 0 (suc m * up e * 1) (above_zero m e))
abs_test (fin false (suc m) e) f = simp (zero-mul, le-ltb (suc m * up e * 1) 0 zero-le, ne_eqb (suc m * up e * 1) 0 (not_zero m e))

pub abs_is : (x : Float) → fits binary64 x ≡ true → abs_of x ≡ cond (lt x (of_bits binary64 0)) (neg x) (cond (eq x (of_bits binary64 0)) (of_bits binary64 0) x)
abs_is x h = sym (abs_test x (subst T (sym h) tt))

-- floats and their patterns
pub ruleset patterns = (nan_bits_lem, is-nan, no_nan, the_nan, nan_pattern, no_nan_pattern)
