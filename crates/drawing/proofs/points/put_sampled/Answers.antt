use native.Mathlib.Omega.{arith}
use mathlib.Core.Path.{refl, ap, ◌∙◌}
use mathlib.Core.List.{List, map}
use lib.Seq.{sets}
use Rattle.std.proofs.Common.{rules}
use Rattle.laws.specs.Lists.{flat}
use Rattle.laws.proofs.Writing.{starts}
use Rattle.geometry.specs.declared.Point.{Point}
use Rattle.mechanism.specs.Segments.{outlines_in}
use Rattle.silhouette.specs.Silhouette.{silhouette_from}
use Rattle.drawing.specs.Drawing.{row_of}
use Rattle.drawing.specs.Samples.{mouths_in, samples_of}
use Rattle.drawing.proofs.Mouths.{samples_short}
use Rattle.drawing.proofs.Puts.{self, map-self}
use Rattle.drawing.proofs.Segments.{places_start, places_more, places_end, placed_more, placed_end, rows-count}
use Rattle.drawing.proofs.points.put_sampled.Goals as goal

pub loop-i-init : goal.loop-i-init
loop-i-init c = (places_start 17 _ _ _, starts refl)

pub loop-i-preserved : goal.loop-i-preserved
loop-i-preserved c =
    let s = c in
    let e = c.silhouette_count-i-end.ensures.0 in
    let k = rows-count s.args.segs.now s.args.first s.args.p s.requires.0 s.requires.1 in
    let sil = silhouette_from (outlines_in s.args.segs.now) s.args.first s.args.p in
    let f = samples_of (mouths_in s.args.mouths.now) in
    let w = c.put_seg-to.ensures in (
      places_more c.loop-i.invariant.0 (omega arith) c.silhouette_seg-s.ensures (samples_short _) w.next,
      placed_more f self sil c.loop-i.invariant.1 (omega arith) c.silhouette_seg-s.ensures w.next (w.written self (λ x r p. search rules)),
    )

pub returns : goal.returns
returns c =
    let s = c in
    let e = c.silhouette_count-i-end.ensures.0 in
    let k = rows-count s.args.segs.now s.args.first s.args.p s.requires.0 s.requires.1 in
    let sil = silhouette_from (outlines_in s.args.segs.now) s.args.first s.args.p in
    let f = samples_of (mouths_in s.args.mouths.now) in (
      places_end c.loop-i.invariant.0 (omega arith),
      placed_end f self sil c.loop-i.invariant.1 (omega arith) ∙ ap (λ (l : List Point). sets s.args.out.now s.args.at (map row_of l)) (map-self (flat f sil)),
    )
