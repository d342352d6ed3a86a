use mathlib.Core.Path.{sym, ap, ◌∙◌}
use Prim.Native.Nat.{◌+◌}
use lib.ListN.{set, length-set}
use Rattle.laws.proofs.Loops.{fold_on}
use Rattle.bodies.proofs.pose.placements.Goals as goal

pub loop-i-preserved : goal.loop-i-preserved
loop-i-preserved c = (simp length-set c.loop-i.invariant.0, fold_on _ _ c.loop-i.i c.loop-i-test.true (ap (set c.loop-i.placement (c.loop-i.i + 1)) (sym c.place.ensures)) ∙ c.loop-i.invariant.1)
