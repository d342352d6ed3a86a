use Prim.Native.Nat.{◌-◌}
use mathlib.Core.Path.{◌≡◌}
use mathlib.Core.Bool.{◌&&◌}
use lib.Dec.{eqb}
use Rattle.laws.specs.Loops.{any_in}
use Rattle.mechanism.specs.Description.{part_at}
use Rattle.overlap.specs.Overlap.{owner_at}
use Rattle.overlap.proofs.any_on.Given as goal

abbrev pub invariant-loop-j : goal.invariant-loop-j
invariant-loop-j l =
    any_in (λ i. owner_at l.w i && eqb (part_at l.ps i).body l.body) (l.ps.count - l.j) l.j ≡ any_in (λ i. owner_at l.w i && eqb (part_at l.ps i).body l.body) l.ps.count 0
