use native.Mathlib.Omega.{arith}
use mathlib.Core.Path.{ap, ◌∙◌}
use lib.ListN.{replicate}
use Rattle.mechanism.specs.Segments.{outlines_in}
use Rattle.material.specs.Material.{Material, depth_of}
use Rattle.drawing.proofs.Held.{held-chosen}
use Rattle.overlap.proofs.Pairwise.{center_depth}
use Rattle.overlap.proofs.center_overlap.Goals as goal

pub returns : goal.returns
returns c =
    let s = c.args.s.now in
    let ps = s.parts.now in
    let m = held-chosen ps s.segs.now s.q c.side_chosen-w.result s.few s.there c.args.points.now (replicate 33 0) c.requires.1
    (omega arith) c.draw_from-n.ensures c.held.result c.held.ensures in
    let d = c.depth.ensures ∙ ap (λ (m : Material). depth_of m c.world.result) m in
    center_depth ps (outlines_in s.segs.now) s.q s.few c.args.a c.args.b c.requires.0 d c.side_chosen-w.ensures c.world.ensures c.placement_at-place.ensures c.center_of-c.ensures
