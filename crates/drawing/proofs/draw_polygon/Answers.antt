use native.Mathlib.Omega.{arith}
use mathlib.Core.Path.{refl}
use Rattle.laws.proofs.Writing.{starts}
use Rattle.mechanism.specs.Segments.{outlines_in}
use Rattle.silhouette.specs.Silhouette.{silhouette_from}
use Rattle.drawing.specs.Drawing.{drawn_points}
use Rattle.drawing.proofs.Segments.{places_start, places_room, places_more, places_end, placed_more, placed_end, drawn-short, rows-count}
use Rattle.drawing.proofs.draw_polygon.Goals as goal

pub loop-i-init : goal.loop-i-init
loop-i-init f c = (places_start 8 drawn_points _ _, λ g h. starts refl)

pub draw_seg-to-requires-clause-room : goal.draw_seg-to-requires-clause-room
draw_seg-to-requires-clause-room f c =
    let s = c in
    let e = c.silhouette_count-i-end.ensures.0 in
    let r = s.requires.room in
    let k = rows-count s.args.segs.now s.args.first s.args.p r.0 r.1 in
    places_room c.loop-i.invariant.0 (omega arith) c.silhouette_seg.ensures c.loop-i.auto.points r.2

pub loop-i-preserved : goal.loop-i-preserved
loop-i-preserved f c =
    let s = c in
    let e = c.silhouette_count-i-end.ensures.0 in
    let r = s.requires.room in
    let k = rows-count s.args.segs.now s.args.first s.args.p r.0 r.1 in
    let sil = silhouette_from (outlines_in s.args.segs.now) s.args.first s.args.p in (
      places_more c.loop-i.invariant.0 (omega arith) c.silhouette_seg.ensures drawn-short c.draw_seg-to.ensures.next,
      λ g h. placed_more drawn_points g sil (c.loop-i.invariant.1 g h) (omega (arith, e, k)) c.silhouette_seg.ensures c.draw_seg-to.ensures.next (c.draw_seg-to.ensures.written g h),
    )

pub returns-clause-next : goal.returns-clause-next
returns-clause-next f c =
    let s = c in
    let e = c.silhouette_count-i-end.ensures.0 in
    let k = rows-count s.args.segs.now s.args.first s.args.p s.requires.room.0 s.requires.room.1 in
    places_end c.loop-i.invariant.0 (omega arith)

pub returns-clause-written : goal.returns-clause-written
returns-clause-written f c =
    let s = c in
    let e = c.silhouette_count-i-end.ensures.0 in
    let k = rows-count s.args.segs.now s.args.first s.args.p s.requires.room.0 s.requires.room.1 in
    let sil = silhouette_from (outlines_in s.args.segs.now) s.args.first s.args.p in
    λ g h. placed_end drawn_points g sil (c.loop-i.invariant.1 g h) (omega (arith, e, k))
