use mathlib.Core.Path.{sym, ap, ◌∙◌}
use mathlib.Core.Bool.{true}
use Rattle.bodies.specs.Pose.{pose_fits}
use Rattle.mechanism.specs.Rows.{lists_of}
use Rattle.mechanism.proofs.Checks.{call_accepted}
use Rattle.shown_rows.specs.Rows.{rows_of, grads_of, slips_of}
use Rattle.shown_rows.proofs.Answer.{has_room, rows-over}
use Rattle.shown_rows.proofs.rows_in_numbers.Goals as goal
use Rattle.std.proofs.Common.{Ok}

pub put_rows-requires : goal.put_rows-requires
put_rows-requires c =
    let s = c.args in
    let a = call_accepted s.m (pose_fits s.m.bodies s.q) true _ (sym c.rows_checked.ensures ∙ c.in_ok-rows_checked.was) in
    (a.0, has_room s.m (lists_of s.rows.now) a.3)

pub returns : goal.returns
returns c =
    let s = c.args in
    let e = sym c.rows_checked.ensures ∙ c.in_ok-rows_checked.was in
    let a = rows-over s.m.bodies.coords (rows_of s.m s.q s.margin) (grads_of s.m s.q s.margin) (slips_of s.m s.q s.margin) c.put_rows.ensures.written in
    record { value = rw e (ap (λ k. Ok k) a.0); after = rw e a.1; same = c.put_rows.ensures.same }
