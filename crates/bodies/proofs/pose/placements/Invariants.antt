use Prim.Native.Nat.{◌-◌}
use mathlib.Core.Path.{◌≡◌}
use lib.ListN.{length, replicate}
use Rattle.laws.specs.Loops.{fold_in}
use Rattle.bodies.specs.Pose.{world, place_next}
use Rattle.bodies.proofs.pose.placements.Given as goal

abbrev pub invariant-loop-i : goal.invariant-loop-i
invariant-loop-i l = (length l.placement ≡ 16) × (fold_in (place_next l.b l.q) l.placement (l.b.count - l.i) l.i ≡ fold_in (place_next l.b l.q) (replicate 16 world) l.b.count 0)
