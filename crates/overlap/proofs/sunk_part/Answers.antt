use native.Mathlib.Omega.{arith}
use mathlib.Core.Path.{refl, sym, ap, ◌∙◌}
use mathlib.Core.List.{map}
use lib.ListN.{length-map}
use lib.Seq.{length-take-le}
use Rattle.mechanism.specs.Segments.{outlines_in}
use Rattle.bodies.specs.Pose.{world_of}
use Rattle.silhouette.specs.Silhouette.{silhouette_from}
use Rattle.material.specs.Material.{drawn_material, deepest_square}
use Rattle.drawing.specs.Drawing.{row_of}
use Rattle.drawing.specs.Samples.{mouths_in, samples_of}
use Rattle.drawing.proofs.Segments.{rows-count}
use Rattle.overlap.proofs.Deepest.{segs_more, segs_end}
use Rattle.overlap.proofs.Lent.{points_lent, written-long}
use Rattle.overlap.proofs.sunk_part.Goals as goal

pub loop-k-init : goal.loop-k-init
loop-k-init c = record { long = refl; deep = refl }

pub slice_bounds-deepest_in-end : goal.slice_bounds-deepest_in-end
slice_bounds-deepest_in-end c =
    let m = c.seg_samples-n.ensures in
    let w = m.2 in
    let a = c in
    let k = written-long c.loop-k.samples (map row_of (map (world_of a.args.place) (samples_of (mouths_in a.args.mouths.now) c.silhouette_seg-s.result))) m.1 c.loop-k.invariant.long in
    sym (length-take-le _ _ (omega (arith, w, k)))

pub loop-k-preserved : goal.loop-k-preserved
loop-k-preserved c =
    let a = c in
    let s = a.args in
    let e = c.silhouette_count-k-end.ensures.0 in
    let t = c.loop-k-test.true in
    let made = c.seg_samples-n.ensures in
    let k = rows-count s.segs.now s.first s.p a.requires.0 a.requires.1 in
    let seg = c.silhouette_seg-s.result in
    let xs = map (world_of s.place) (samples_of (mouths_in s.mouths.now) seg) in
    let n = length-map (samples_of (mouths_in s.mouths.now) seg) (world_of s.place) in
    let w = made.2 in
    let z = made.0 in
    let x = points_lent xs c.loop-k.samples (made.0 ∙ sym n) made.1 (let y = c.loop-k.invariant.long in omega (arith, n, w, y, z)) in
    let m = drawn_material s.m.now.material in
    record {
      long = written-long c.loop-k.samples (map row_of xs) made.1 c.loop-k.invariant.long;
      deep = segs_more m (world_of s.place) (samples_of (mouths_in s.mouths.now)) _ c.loop-k.d c.loop-k.k (omega (arith, e, t, k))
          c.silhouette_seg-s.ensures (c.deepest_in-d.ensures ∙ ap (deepest_square m c.loop-k.d) x) ∙ c.loop-k.invariant.deep;
    }

pub returns : goal.returns
returns c =
    let a = c in
    let s = a.args in
    let e = c.silhouette_count-k-end.ensures.0 in
    let t = c.loop-k-test.false in
    let k = rows-count s.segs.now s.first s.p a.requires.0 a.requires.1 in
    let m = drawn_material s.m.now.material in
    sym (segs_end m (world_of s.place) (samples_of (mouths_in s.mouths.now)) (silhouette_from (outlines_in s.segs.now) s.first s.p) c.loop-k.d c.loop-k.k (omega (arith, e, t, k)))
    ∙ c.loop-k.invariant.deep
