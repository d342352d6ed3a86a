use Rattle.candidates.proofs.Drawn.{held-chosen}
use Rattle.candidates.proofs.DescribedDrawing.draw_a.Goals as goal

pub returns : goal.returns
returns c =
    let s = c.args in
    let d = s.self.now in
    held-chosen d.parts.now d.outlines.now d.q d.a d.few s.points.now s.starts.now c.requires.1 c.requires.2 c.draw.ensures
