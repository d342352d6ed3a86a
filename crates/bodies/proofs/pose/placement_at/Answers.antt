use mathlib.Core.Path.{sym}
use native.Mathlib.Omega.{arith}
use lib.ListN.{get_or-eq_default}
use Rattle.ieee.proofs.Values.{the_nan}
use Rattle.bodies.specs.Pose.{no_placement}
use Rattle.bodies.proofs.Known.{pose-long}
use Rattle.bodies.proofs.pose.placement_at.Goals as goal

pub returns : goal.returns
returns c =
    let l = pose-long c.args.q _ c.well_formed.0 in
    simp the_nan (sym (get_or-eq_default c.args.q.placement no_placement (omega (arith, c.if-body-lt16.false))))
