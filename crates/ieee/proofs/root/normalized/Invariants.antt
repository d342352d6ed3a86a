-- `root::scaled` meets its contract. The invariant: n * 4 ^ k is m * 4 ^ j. The measure: what n lacks of 2 ^ 54. Assumes nothing.
use mathlib.Core.Path.{◌≡◌}
use Prim.Native.Nat.{◌-◌, ◌*◌, ◌^◌, ◌≤◌, ◌<◌}
use Rattle.ieee.proofs.root.normalized.Given as goal

abbrev pub invariant-loop-n : goal.invariant-loop-n
invariant-loop-n l = (l.n * (2 ^ l.k * 2 ^ l.k) ≡ l.m * (2 ^ l.j * 2 ^ l.j)) × (0 < l.n) × (l.n ≤ 2 ^ 54 - 2) × (l.k ≤ l.j)

abbrev pub decreases-loop-n : goal.decreases-loop-n
decreases-loop-n l = 2 ^ 54 - l.n
