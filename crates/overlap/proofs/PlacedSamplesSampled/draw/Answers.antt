use Rattle.drawing.proofs.Held.{held-chosen}
use Rattle.overlap.proofs.PlacedSamplesSampled.draw.Goals as goal

pub returns : goal.returns
returns c m =
    let s = c.args.self.now.posed in
    held-chosen s.parts.now s.segs.now s.q c.args.c s.few s.there c.args.points.now c.args.starts.now c.requires.0 c.requires.1 c.draw_from.ensures m
