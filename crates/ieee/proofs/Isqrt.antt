-- The whole part of a root: what `isqrt` gives. Assumes nothing.
use mathlib.Core.Path.{◌≡◌, subst}
use mathlib.Core.Bool.{Bool, true, false, not, cond}
use Prim.Native.Nat.{ℕ, zero, suc, ◌+◌, ◌*◌, ◌/◌, ◌^◌, ◌≤◌, ◌<◌, zero-le}
use native.Mathlib.Nat.{div-lt_iff_lt-mul, pow-suc}
use native.Mathlib.Omega.{arith}
use lib.Dec.{T, leb, leb→le, nleb→lt, lit<}
use Rattle.ieee.specs.Root.{digit, isqrt}
use Rattle.ieee.proofs.Squares.{sq_suc, sq_even, sq_odd}

-- ---- isqrt
abbrev pub Root : ℕ → ℕ → Type 0
Root n s = (s * s ≤ n) × (n < (s + 1) * (s + 1))

one-digit : (n h : ℕ) → Root (n / 4) h → Root n (digit n h)
one-digit n h r = go (leb ((2 * h + 1) * (2 * h + 1)) n) (leb→le ((2 * h + 1) * (2 * h + 1)) n) (nleb→lt ((2 * h + 1) * (2 * h + 1)) n)
  where
    e1 : (2 * h + 1) * (2 * h + 1) ≡ 4 * (h * h) + 4 * h + 1
    e1 = sq_odd h

    e2 : (h + 1) * (h + 1) ≡ h * h + 2 * h + 1
    e2 = sq_suc h

    e3 : (2 * h) * (2 * h) ≡ 4 * (h * h)
    e3 = sq_even h

    e4 : (2 * h + 1 + 1) * (2 * h + 1 + 1) ≡ (2 * h + 1) * (2 * h + 1) + 2 * (2 * h + 1) + 1
    e4 = sq_suc (2 * h + 1)

    go : (b : Bool) → (T b → (2 * h + 1) * (2 * h + 1) ≤ n) → (T (not b) → n < (2 * h + 1) * (2 * h + 1)) → Root n (cond b (2 * h + 1) (2 * h))
    go true p q = (p tt, omega (arith, e1, e2, e4, r.1))
    go false p q = (omega (arith, e3, r.0), q tt)

pub isqrt-root : (k n : ℕ) → n < 4 ^ k → Root n (isqrt k n)
unfolding isqrt
isqrt-root zero n h = (zero-le, h)
isqrt-root (suc k) n h = one-digit n (isqrt k (n / 4)) (isqrt-root k (n / 4) ((div-lt_iff_lt-mul (lit< tt)).1 (subst (λ (x : ℕ). n < x) (pow-suc 4 k) h)))
