use mathlib.Core.Path.{◌∙◌}
use Rattle.silhouette.proofs.BySegment.{plain_here}
use Rattle.silhouette.proofs.rows.plain_seg.Goals as goal

pub returns-then-k-n : goal.returns-then-k-n
returns-then-k-n c = let s = c in c.seg_at.ensures ∙ plain_here s.args.segs.now s.args.first s.args.n s.args.k s.requires c.if-k-n.true
