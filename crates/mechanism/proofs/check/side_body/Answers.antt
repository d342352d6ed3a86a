use mathlib.Core.Path.{sym}
use Rattle.std.proofs.lemmas.Result.{err_from_is_err_and}
use Rattle.mechanism.proofs.Walks.{range-missing, range-drawn, range-astray}
use Rattle.mechanism.proofs.check.side_body.Goals as goal

pub returns-then-not-range_drawn : goal.returns-then-not-range_drawn
returns-then-not-range_drawn c = range-missing _ _ _ _ c.loop-i-test.true _ c.loop-i.invariant (sym c.if-not-range_drawn.ensures)

pub returns-in_err-body : goal.returns-in_err-body
returns-in_err-body c =
    let p = err_from_is_err_and c.from_residual.result c.from_residual.ensures.1 in
    rw (p.1, p.2) (range-astray _ _ _ _ c.loop-i-test.true _ c.loop-i.invariant (sym c.if-not-range_drawn.ensures) c.in_err-body.ensures)

pub loop-i-preserved : goal.loop-i-preserved
loop-i-preserved c =
    range-drawn c.args.ps c.args.pair c.args.u _ c.loop-i-test.true c.loop-i.body c.loop-i.invariant (sym c.if-not-range_drawn.ensures) c.in_ok-body.ensures
