use Rattle.std.proofs.Common.{rules}
use Rattle.bodies.specs.Pose.{world_of}
use Rattle.drawing.proofs.Rooms.{asks_polygon, polygon_drawn}
use Rattle.drawing.proofs.Starts.{part-starts}
use Rattle.drawing.proofs.PlacedPartsOutlined.draw_part.Goals as goal

pub draw_polygon-requires-clause-room : goal.draw_polygon-requires-clause-room
draw_polygon-requires-clause-room c =
    let s = c.args.self.now in
    let h = c.requires.0 in
    asks_polygon s.segs.now s.parts.now s.q s.few h (part-starts s.parts.now s.few c.args.i h s.begun) c.args.at c.args.points.now s.there c.requires.1

pub returns : goal.returns
returns c =
    let s = c.args.self.now in
    let h = c.requires.0 in
    let w = c.draw_polygon.ensures in
    polygon_drawn s.segs.now s.parts.now s.q s.few h (part-starts s.parts.now s.few c.args.i h s.begun) c.args.at c.args.points.now _
    c.placement_at-place.ensures (w.next, w.written (world_of c.placement_at-place.result) (λ x r k. search rules))
