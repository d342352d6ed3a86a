use mathlib.Core.Path.{refl, sym, ◌∙◌}
use lib.ListN.{replicate}
use Rattle.ieee.specs.Consts.{zero_f}
use Rattle.mechanism.proofs.Known.{outlines-long}
use Rattle.drawing.proofs.Draws.{none-drawn}
use Rattle.drawing.proofs.Same.{drawn-put}
use Rattle.drawing.proofs.draw.Goals as goal

pub returns-then-room_for : goal.returns-then-room_for
returns-then-room_for c =
    let s = c in
    drawn-put s.args.ps s.args.o s.args.q s.args.c s.args.points.now s.args.starts.now (replicate 384 (replicate 8 zero_f))
    (outlines-long s.args.o _ s.well_formed.1.1.1.0) refl c.segs_counted.ensures c.put_segs.ensures (sym c.room_for.ensures ∙ c.if-room_for.true) c.draw_from.ensures

pub returns : goal.returns
returns c =
    let s = c.args in
    none-drawn _ s.points.now s.starts.now _ _ (sym c.room_for.ensures ∙ c.if-room_for.false) c.no_polygons.ensures
