-- The lesser of two numbers. Assumes nothing.
use Prim.Native.Nat.{ℕ, ◌≤◌}
use native.Mathlib.Omega.{arith}
use mathlib.Core.Path.{◌≡◌, refl}
use mathlib.Core.Bool.{Bool, true, false, cond}
use lib.Dec.{ltb}
use borrow.Author.Tests.{ltb-true, ltb-false}
use Rattle.governing.specs.Governing.{lesser}

-- it is no more than either
pub lesser-le : (a b : ℕ) → (lesser a b ≤ a) × (lesser a b ≤ b)
lesser-le a b = go (ltb a b) refl
  where
    go : (t : Bool) → ltb a b ≡ t → (cond t a b ≤ a) × (cond t a b ≤ b)
    go true e = let h = ltb-true a b e in (omega arith, omega arith)
    go false e = let h = ltb-false a b e in (omega arith, omega arith)
