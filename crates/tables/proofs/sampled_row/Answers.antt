use native.Mathlib.Omega.{arith}
use Rattle.laws.proofs.Fill.{fill_put}
use Rattle.laws.proofs.Lists.{list_done}
use Rattle.tables.proofs.Written.{sampled_at, sampled_at_lem, turn-as, filled-whole}
use Rattle.tables.proofs.sampled_row.Goals as goal

pub loop-i-preserved : goal.loop-i-preserved
loop-i-preserved c =
    let s = c in
    fill_put c.loop-i-test.true
    (turn-as (sampled_at s.args.ps s.args.u) 32 c.loop-i.i (omega arith) (sampled_at_lem s.args.ps s.args.u c.loop-i.i c.from.ensures c.is_own.ensures c.is_sampled.ensures))
    c.loop-i.invariant

pub returns : goal.returns
returns c =
    let s = c in
    filled-whole c.loop-i-test.false (list_done (sampled_at s.args.ps s.args.u) 32 c.loop-i.i (omega arith)) c.loop-i.invariant
