use mathlib.Core.Path.{refl, sym, ap, ◌∙◌}
use Rattle.geometry.specs.Geometry.{start_of}
use Rattle.mechanism.specs.Segments.{outlines_in}
use Rattle.silhouette.specs.Silhouette.{silhouette_from}
use Rattle.sides.proofs.Walked.{cross_hit, cross_miss, cross_none}
use Rattle.sides.proofs.crossing.Goals as goal

pub loop-i-init : goal.loop-i-init
loop-i-init c = refl

pub returns-then-same : goal.returns-then-same
returns-then-same c =
    let s = c.args in
    let q = c.start-q.ensures ∙ ap start_of c.silhouette_seg.ensures in
    cross_hit s.axis (silhouette_from (outlines_in s.segs.now) s.first s.p) c.loop-i.i s.past c.loop-i-test.true q (sym c.same.ensures ∙ c.if-same.true) ∙ c.loop-i.invariant

pub loop-i-preserved : goal.loop-i-preserved
loop-i-preserved c =
    let s = c.args in
    let q = c.start-q.ensures ∙ ap start_of c.silhouette_seg.ensures in
    cross_miss s.axis (silhouette_from (outlines_in s.segs.now) s.first s.p) c.loop-i.i s.past c.loop-i-test.true q (sym c.same.ensures ∙ c.if-same.false) ∙ c.loop-i.invariant

pub returns : goal.returns
returns c =
    let s = c.args in
    cross_none s.axis (silhouette_from (outlines_in s.segs.now) s.first s.p) c.loop-i.i s.past c.loop-i-test.false ∙ c.loop-i.invariant
