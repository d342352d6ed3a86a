use Prim.Native.Nat.{◌-◌}
use mathlib.Core.Path.{◌≡◌}
use lib.ListN.{length}
use Rattle.laws.specs.Lists.{list_in, foldl}
use Rattle.material.specs.Range.{range_with, range_of}
use Rattle.material.proofs.Parts.{row_point}
use Rattle.material.proofs.y_range.Given as goal

abbrev pub invariant-loop-v : goal.invariant-loop-v
invariant-loop-v l = foldl range_with (record { lo = l.lo; hi = l.hi }) (list_in (row_point l.points) (length l.points - l.v-index) l.v-index) ≡ range_of l.points
