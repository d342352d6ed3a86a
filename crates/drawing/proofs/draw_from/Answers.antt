use mathlib.Core.Path.{sym, ◌∙◌}
use Rattle.mechanism.specs.Segments.{outlines_in}
use Rattle.drawing.proofs.Draws.{some-drawn, none-drawn}
use Rattle.drawing.proofs.Rooms.{has_room-from, rows_fit}
use Rattle.drawing.proofs.draw_from.Goals as goal

pub invariant_of-placed : goal.invariant_of-placed
invariant_of-placed c =
    let s = c.args in
    let r = has_room-from s.ps.now _ _ _ (sym c.room_from.ensures ∙ c.if-room_from.true) in
    record { begun = c.part_starts.ensures; few = r.0; there = r.3 }

pub draw_chosen-requires : goal.draw_chosen-requires
draw_chosen-requires c =
    let s = c.args in
    let r = has_room-from s.ps.now _ _ _ (sym c.room_from.ensures ∙ c.if-room_from.true) in
    (rows_fit s.ps.now (outlines_in s.segs.now) s.q s.c s.points.now r.0 r.1, r.2)

pub returns-then-room_from : goal.returns-then-room_from
returns-then-room_from c =
    let s = c.args in
    some-drawn _ s.points.now s.starts.now _ _ (sym c.room_from.ensures ∙ c.if-room_from.true) c.draw_chosen.ensures

pub returns : goal.returns
returns c =
    let s = c.args in
    none-drawn _ s.points.now s.starts.now _ _ (sym c.room_from.ensures ∙ c.if-room_from.false) c.no_polygons.ensures
