use Rattle.governing.proofs.Gaps.{compared-start, compared-more, compared-ends}
use Rattle.governing.proofs.least_gap.Goals as goal

pub loop-k-init : goal.loop-k-init
loop-k-init c = compared-start c.least-k-end.ensures

pub loop-k-preserved : goal.loop-k-preserved
loop-k-preserved c = compared-more c.loop-k.invariant c.loop-k-test.true c.lesser_gap-b.ensures

pub returns : goal.returns
returns c = compared-ends c.loop-k.invariant c.loop-k-test.false
