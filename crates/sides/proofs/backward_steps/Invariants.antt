use Prim.Native.Nat.{◌-◌}
use mathlib.Core.List.{map, reverse}
use Rattle.laws.specs.Fill.{Filling, range}
use Rattle.silhouette.specs.Silhouette.{segs_in}
use Rattle.sides.specs.Features as F
use Rattle.sides.proofs.backward_steps.Given as goal

abbrev pub invariant-loop-k : goal.invariant-loop-k
invariant-loop-k l = Filling 12 (map (F.backward_step (segs_in l.sil)) (reverse (range l.first l.past))) l.all l.k (map (F.backward_step (segs_in l.sil)) (reverse (range l.first (l.past - l.k))))
