use mathlib.Core.Path.{sym, ◌∙◌}
use native.Mathlib.Omega.{arith}
use lib.Seq.{length-take-le}
use Rattle.sheet.proofs.Lents.{posed_first, posed_all}
use Rattle.sheet.proofs.posed.posed.Goals as goal

pub slice_bounds-pose-end : goal.slice_bounds-pose-end
slice_bounds-pose-end c = sym (length-take-le c.args.e.count c.lent-q.result (omega arith))

pub returns-then-e-lt16 : goal.returns-then-e-lt16
returns-then-e-lt16 c =
    posed_first c.args.m c.args.e (sym c.call_checked.ensures ∙ c.in_ok-call_checked.was) c.lent-q.ensures (omega arith) c.if-e-lt16.true c.pose.ensures

pub returns : goal.returns
returns c =
    posed_all c.args.m c.args.e (sym c.call_checked.ensures ∙ c.in_ok-call_checked.was) c.lent-q.ensures (omega arith) c.if-e-lt16.false c.pose-2.ensures
