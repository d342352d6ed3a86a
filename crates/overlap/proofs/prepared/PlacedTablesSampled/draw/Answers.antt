use Rattle.strips.specs.Strips.{table_rows}
use Rattle.drawing.proofs.Held.{held-in}
use Rattle.overlap.proofs.prepared.PlacedTablesSampled.draw.Goals as goal

pub returns : goal.returns
returns c m =
    let s = c.args.self.now in
    held-in (table_rows s.tables.now) s.q c.args.c c.args.points.now c.args.starts.now c.requires.0 c.requires.1 c.draw_in.ensures m
