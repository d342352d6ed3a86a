use native.Mathlib.Omega.{arith}
use Rattle.std.proofs.Common.{rules}
use Rattle.mechanism.specs.Segments.{outlines_in}
use Rattle.drawing.specs.Samples.{mouths_in}
use Rattle.drawing.proofs.Segments.{from-part}
use Rattle.drawing.proofs.Puts.{self, asks_drawn, asks_sampled, of-drawn, of-sampled, of_none}
use Rattle.drawing.proofs.points.put_part_points.Goals as goal

pub draw_polygon-to-requires-clause-room : goal.draw_polygon-to-requires-clause-room
draw_polygon-to-requires-clause-room c =
    let r = c.requires.room in
    asks_drawn c.args.segs.now c.args.ps r.0 r.1 r.2 r.3 c.requires.places.0 (omega arith)

pub put_sampled-end-requires : goal.put_sampled-end-requires
put_sampled-end-requires c =
    let r = c.requires.room in
    asks_sampled c.args.segs.now c.args.ps r.0 r.1 r.2 r.3 c.requires.places.1 (omega arith)

pub returns-then-is_sampled : goal.returns-then-is_sampled
returns-then-is_sampled c =
    let s = c.args in
    let r = c.requires.room in
    let o = outlines_in s.segs.now in
    let e = from-part s.ps o s.i r.0 r.1 r.2 in
    let w = c.draw_polygon-to.ensures in
    record {
      drawn = of-drawn s.ps o s.i _ _ e w.next (w.written self (λ x r p. search rules));
      sampled = of-sampled s.ps o s.i _ _ e (mouths_in s.mouths.now) c.requires.mouths c.is_sampled.ensures c.if-is_sampled.true c.put_sampled-end.ensures;
    }

pub returns-else-is_sampled : goal.returns-else-is_sampled
returns-else-is_sampled c =
    let s = c.args in
    let r = c.requires.room in
    let o = outlines_in s.segs.now in
    let w = c.draw_polygon-to.ensures in
    record {
      drawn = of-drawn s.ps o s.i _ _ (from-part s.ps o s.i r.0 r.1 r.2) w.next (w.written self (λ x r p. search rules));
      sampled = of_none s.ps o s.i _ _ c.is_sampled.ensures c.if-is_sampled.false;
    }
