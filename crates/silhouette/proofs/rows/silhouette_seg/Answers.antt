use mathlib.Core.Path.{refl, ◌∙◌}
use Rattle.mechanism.specs.Segments.{outlines_in}
use Rattle.silhouette.proofs.BySegment.{seg-plain, seg-few, seg-turned}
use Rattle.silhouette.proofs.rows.silhouette_seg.Goals as goal

pub returns-in-None : goal.returns-in-None
returns-in-None c =
    let s = c in
    c.plain_seg.ensures ∙ seg-plain (outlines_in s.args.segs.now) s.args.first s.args.p s.args.k c.left_of-n.ensures.0 c.in-None.ensures refl

pub returns-then-n-lt2 : goal.returns-then-n-lt2
returns-then-n-lt2 c =
    let s = c in
    c.no_seg.ensures ∙ seg-few (outlines_in s.args.segs.now) s.args.first s.args.p s.args.k c.left_of-n.ensures.0 c.in-Some.ensures refl c.if-n-lt2.true

pub returns-else-n-lt2 : goal.returns-else-n-lt2
returns-else-n-lt2 c =
    let s = c in
    c.turned_seg.ensures ∙ seg-turned (outlines_in s.args.segs.now) s.args.first s.args.p s.args.k c.left_of-n.ensures.0 c.in-Some.ensures refl c.if-n-lt2.false
