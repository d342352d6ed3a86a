use Rattle.silhouette.proofs.BySegment.{left-none, left-min}
use Rattle.silhouette.proofs.rows.left_of.Goals as goal

pub returns-then-segs-first : goal.returns-then-segs-first
returns-then-segs-first c = left-none c.args.segs.now c.args.first c.args.n c.if-segs-first.true

pub returns : goal.returns
returns c = left-min c.args.segs.now c.args.first c.args.n c.min.ensures
