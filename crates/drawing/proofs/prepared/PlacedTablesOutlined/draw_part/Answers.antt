use native.Mathlib.Omega.{arith}
use mathlib.Core.Path.{ap}
use Rattle.strips.specs.Strips.{table_rows}
use Rattle.drawing.proofs.Lays.{polygon_long, part-drawn}
use Rattle.drawing.proofs.prepared.PlacedTablesOutlined.draw_part.Goals as goal

pub place_points-requires : goal.place_points-requires
place_points-requires c =
    let s = c.args.self.now in
    let x = c.part-p.ensures in
    let e = ap (λ p. p.points) x.0 in
    let l = polygon_long (table_rows s.tables.now) s.q c.args.i in
    let r = c.requires.1 in
    let a = x.1.drawn_small in
    let b = x.1.points_few in
    (omega (arith, e, l, r), a, b)

pub returns : goal.returns
returns c =
    let s = c.args.self.now in
    part-drawn (table_rows s.tables.now) s.q c.args.i c.args.at c.args.points.now c.part-p.ensures.0 c.placement_at-place.ensures c.place_points.ensures
