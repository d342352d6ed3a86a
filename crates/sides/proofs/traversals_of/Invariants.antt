use mathlib.Core.Path.{◌≡◌}
use mathlib.Core.List.{map}
use lib.ListN.{length, take}
use Rattle.sides.specs.Features as F
use Rattle.sides.proofs.traversals_of.Given as goal

abbrev pub invariant-loop-k : goal.invariant-loop-k
invariant-loop-k l = (length l.all ≡ 4) × (map F.run_of (take l.k l.all) ≡ map (F.traversal_of l.ps l.o) (take l.k l.u.range))
