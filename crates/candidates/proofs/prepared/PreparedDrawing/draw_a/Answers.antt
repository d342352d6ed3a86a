use Rattle.strips.specs.Strips.{table_rows}
use Rattle.candidates.proofs.Drawn.{held-or}
use Rattle.candidates.proofs.prepared.PreparedDrawing.draw_a.Goals as goal

pub returns : goal.returns
returns c =
    let s = c.args in
    let p = s.self.now in
    held-or (table_rows p.tables.now) p.q p.a s.points.now s.starts.now c.requires.0 c.requires.1 c.requires.2 c.draw_in.ensures
