use mathlib.Core.Path.{◌∙◌}
use Rattle.silhouette.proofs.BySegment.{turned-first, turned-second, turned_none}
use Rattle.silhouette.proofs.rows.turned_seg.Goals as goal

pub returns-then-k-m : goal.returns-then-k-m
returns-then-k-m c = let s = c in turned-first s.args.segs.now s.args.first s.args.n s.args.k s.requires.0 s.args.x c.if-k-m.true c.chain_seg.ensures c.about_axis.ensures

pub returns-then-back-m : goal.returns-then-back-m
returns-then-back-m c = let s = c in turned-second s.args.segs.now s.args.first s.args.n s.args.k s.requires.0 s.args.x c.if-k-m.false c.if-back-m.true c.chain_seg-then-back-m.ensures c.about_axis-then-back-m.ensures c.reversed.ensures

pub returns : goal.returns
returns c = let s = c in c.no_seg.ensures ∙ turned_none s.args.segs.now s.args.first s.args.n s.args.k s.requires.0 s.args.x c.if-k-m.false c.if-back-m.false
