use Prim.Native.Nat.{◌-◌}
use mathlib.Core.List.{map}
use Rattle.laws.specs.Fill.{Filling, range}
use Rattle.silhouette.specs.Silhouette.{segs_in}
use Rattle.sides.specs.Features as F
use Rattle.sides.proofs.forward_steps.Given as goal

abbrev pub invariant-loop-i : goal.invariant-loop-i
invariant-loop-i l = Filling 12 (map (F.forward_step (segs_in l.sil)) (range l.first l.past)) l.all (l.i - l.first) (map (F.forward_step (segs_in l.sil)) (range l.i l.past))
