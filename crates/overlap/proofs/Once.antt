-- The owners whose samples are taken: in order, none twice. Assumes nothing.
use Prim.Native.Nat.{ℕ}
use mathlib.Core.Bool.{Bool}
use Rattle.laws.specs.Loops.{Rising}
use Rattle.laws.proofs.Finite.{filter-rising}
use Rattle.overlap.specs.Overlap.{owners_once}

pub each-once : (owner : ℕ → Bool) (n : ℕ) → Rising 0 (owners_once owner n)
each-once owner n = filter-rising owner n 0
