use native.Mathlib.Omega.{arith}
use mathlib.Core.Path.{sym, ◌∙◌}
use Rattle.strips.specs.Strips.{table_rows}
use Rattle.drawing.proofs.Draws.{some-drawn, none-drawn}
use Rattle.drawing.proofs.Lays.{points_fit, room-known}
use Rattle.drawing.proofs.prepared.draw_in.Goals as goal

pub draw_chosen-requires : goal.draw_chosen-requires
draw_chosen-requires c =
    let s = c.args in
    let r = room-known (table_rows s.t.now) _ _ (sym c.room_in.ensures ∙ c.if-room_in.true) in
    let f = points_fit (table_rows s.t.now) s.q s.c in
    (omega (arith, r.0, f), r.1)

pub returns-then-room_in : goal.returns-then-room_in
returns-then-room_in c =
    let s = c.args in
    some-drawn _ s.points.now s.starts.now _ _ (sym c.room_in.ensures ∙ c.if-room_in.true) c.draw_chosen.ensures

pub returns : goal.returns
returns c =
    let s = c.args in
    none-drawn _ s.points.now s.starts.now _ _ (sym c.room_in.ensures ∙ c.if-room_in.false) c.no_polygons.ensures
