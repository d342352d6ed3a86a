use Rattle.drawing.specs.Drawing.{chosen_polygons}
use native.Mathlib.Omega.{arith}
use Rattle.drawing.proofs.Draws.{polygons-within, first-asks, second-asks, all-drawn}
use Rattle.drawing.proofs.outlined.draw_chosen.Goals as goal

pub draw_all-solids-requires : goal.draw_all-solids-requires
draw_all-solids-requires g c =
    let s = c.args in
    let n = g.O.Outlined.count s.o.now in
    let poly = g.O.Outlined.polygon s.o.now in
    let h = g.met.O.Outlined.few s.o.now in
    let w = polygons-within n poly s.c in
    first-asks (chosen_polygons poly n s.c 1) (chosen_polygons poly n s.c 2) s.points.now s.starts.now (omega (arith, h, w)) c.requires.0 c.requires.1

pub draw_all-all-requires : goal.draw_all-all-requires
draw_all-all-requires g c =
    let s = c.args in
    let n = g.O.Outlined.count s.o.now in
    let poly = g.O.Outlined.polygon s.o.now in
    let h = g.met.O.Outlined.few s.o.now in
    let w = polygons-within n poly s.c in
    second-asks (chosen_polygons poly n s.c 1) (chosen_polygons poly n s.c 2) s.points.now s.starts.now (omega (arith, h, w)) c.requires.0 c.requires.1 c.draw_all-solids.ensures

pub returns : goal.returns
returns g c =
    let s = c.args in
    let n = g.O.Outlined.count s.o.now in
    let poly = g.O.Outlined.polygon s.o.now in
    let h = g.met.O.Outlined.few s.o.now in
    let w = polygons-within n poly s.c in
    all-drawn (chosen_polygons poly n s.c 1) (chosen_polygons poly n s.c 2) s.points.now s.starts.now (omega (arith, h, w)) c.requires.0 c.requires.1 c.draw_all-solids.ensures c.draw_all-all.ensures
