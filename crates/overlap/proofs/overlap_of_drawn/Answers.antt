use Rattle.laws.proofs.Choice.{both}
use Rattle.mechanism.specs.Check.{side_drawn}
use Rattle.mechanism.specs.Segments.{outlines_in}
use Rattle.overlap.proofs.Pairwise.{by_features_lem, by_center_lem}
use Rattle.overlap.proofs.overlap_of_drawn.Goals as goal

pub center_overlap-requires : goal.center_overlap-requires
center_overlap-requires c =
    let ps = c.args.s.now.parts.now in
    ((both (side_drawn ps c.args.p.a) (side_drawn ps c.args.p.b) c.requires.0).1, c.requires.1)

pub returns-in-Features : goal.returns-in-Features
returns-in-Features c = let s = c.args.s.now in by_features_lem s.parts.now (outlines_in s.segs.now) s.q c.args.p c.in-Features.is c.features_overlap.ensures

pub returns-in-CenterBearing : goal.returns-in-CenterBearing
returns-in-CenterBearing c = let s = c.args.s.now in by_center_lem s.parts.now (outlines_in s.segs.now) s.q c.args.p c.in-CenterBearing.is c.center_overlap.ensures
