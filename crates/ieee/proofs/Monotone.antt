-- The root keeps the order of all values from zero up, the zeros and the infinity among them. Assumes nothing.
use mathlib.Core.Path.{◌≡◌, sym, subst}
use mathlib.Core.Bool.{Bool, true, false, ◌||◌}
use Prim.Native.Nat.{ℕ, zero, suc, ◌+◌, ◌*◌, ◌<◌}
use native.Mathlib.Nat.{zero-mul, mul-pos, zero-lt-suc}
use native.Mathlib.Omega.{arith}
use lib.IntN.{ℤ, pos}
use lib.Dec.{T, lt→ltb, ltb→lt}
use lib.Ieee.{Float, nan, inf, fin, binary64, up, down, fits, le, below, level}
use lib.Ieee.Fits.{up_pos, down_pos}
use lib.Ieee.Positive.{positive, above_of_le}
use borrow.Author.Tests.{le-ltb, lt-ltb, ne_eqb}
use Rattle.ieee.specs.Root.{root_of}
use Rattle.ieee.proofs.RootLaws.{root_nearest, root_mono}

is_false : (s : Bool) (A B : ℕ) → A ≡ 0 → 0 < B → (below s A true B || level s A true B) ≡ false
is_false true A B a b = rw (le-ltb B A (omega arith), ne_eqb A B (omega arith))
is_false false A B a b = rw (ne_eqb A B (omega arith))

no_zero_le : (s : Bool) (e : ℤ) (n : ℕ) (d : ℤ) → T (le (fin s 0 e) (fin true (suc n) d)) → ⊥
unfolding le
no_zero_le s e n d h = subst T (is_false s (0 * up e * down d) (suc n * up d * down e) (simp zero-mul) (mul-pos (mul-pos (zero-lt-suc n) (up_pos d)) (down_pos e))) h

is_true : (s : Bool) (A B : ℕ) → A ≡ 0 → 0 < B → (below s A false B || level s A false B) ≡ true
is_true true A B a b = rw (lt-ltb 0 (A + B) (omega arith))
is_true false A B a b = rw (lt-ltb A B (omega arith))

zero_le_above : (s : Bool) (e : ℤ) (r : Float) → T (positive r) → T (le (fin s 0 e) r)
unfolding le
zero_le_above s e nan p = absurd p
zero_le_above s e (inf t) p = absurd p
zero_le_above s e (fin true m d) p = absurd p
zero_le_above s e (fin false m d) p = subst T (sym (is_true s (0 * up e * down d) (m * up d * down e) (simp zero-mul) (mul-pos (mul-pos (ltb→lt 0 m p) (up_pos d)) (down_pos e)))) tt

le_infinity : (r : Float) → T (positive r) → T (le r (inf false))
unfolding le
le_infinity nan p = absurd p
le_infinity (inf t) p = absurd p
le_infinity (fin s m d) p = tt

own : (m : ℕ) (e : ℤ) → T (positive (fin false (suc m) e))
own m e = lt→ltb 0 (suc m) (zero-lt-suc m)

pub root_monotone : (x y : Float) → T (fits binary64 x) → T (fits binary64 y) → T (le (fin false 0 (pos 0)) x) → T (le x y) → T (le (root_of x) (root_of y))
unfolding le root_of
root_monotone nan y f g z h = absurd z
root_monotone (inf true) y f g z h = absurd z
root_monotone (inf false) nan f g z h = absurd h
root_monotone (inf false) (inf true) f g z h = absurd h
root_monotone (inf false) (inf false) f g z h = tt
root_monotone (inf false) (fin t n d) f g z h = absurd h
root_monotone (fin s zero e) nan f g z h = absurd h
root_monotone (fin s zero e) (inf true) f g z h = absurd h
root_monotone (fin s zero e) (inf false) f g z h = tt
root_monotone (fin s zero e) (fin t zero d) f g z h = h
root_monotone (fin s zero e) (fin true (suc n) d) f g z h = absurd (no_zero_le s e n d h)
root_monotone (fin s zero e) (fin false (suc n) d) f g z h = zero_le_above s e (root_of (fin false (suc n) d)) (root_nearest (fin false (suc n) d) g (own n d)).above_zero
root_monotone (fin true (suc m) e) y f g z h = absurd (no_zero_le false (pos 0) m e z)
root_monotone (fin false (suc m) e) nan f g z h = absurd h
root_monotone (fin false (suc m) e) (inf true) f g z h = absurd h
root_monotone (fin false (suc m) e) (inf false) f g z h = le_infinity (root_of (fin false (suc m) e)) (root_nearest (fin false (suc m) e) f (own m e)).above_zero
root_monotone (fin false (suc m) e) (fin true zero d) f g z h = absurd (above_of_le (fin false (suc m) e) (fin true 0 d) (own m e) h)
root_monotone (fin false (suc m) e) (fin false zero d) f g z h = absurd (above_of_le (fin false (suc m) e) (fin false 0 d) (own m e) h)
root_monotone (fin false (suc m) e) (fin true (suc n) d) f g z h = absurd (above_of_le (fin false (suc m) e) (fin true (suc n) d) (own m e) h)
root_monotone (fin false (suc m) e) (fin false (suc n) d) f g z h = root_mono (fin false (suc m) e) (fin false (suc n) d) f g (own m e) (own n d) h
