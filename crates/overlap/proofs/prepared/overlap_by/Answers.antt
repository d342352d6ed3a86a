use native.Mathlib.Omega.{arith}
use mathlib.Core.Path.{ap, ◌∙◌}
use lib.ListN.{replicate}
use Rattle.material.specs.Material.{Material, depth_of}
use Rattle.strips.specs.Strips.{table_rows}
use Rattle.drawing.proofs.Held.{held-in}
use Rattle.overlap.proofs.PairRows.{pair-features, pair-center}
use Rattle.overlap.proofs.prepared.overlap_by.Goals as goal

pub returns-then-facts-eq0 : goal.returns-then-facts-eq0
returns-then-facts-eq0 c =
    let s = c in
    pair-features (table_rows s.args.t.now) s.args.q s.args.pair s.requires.1 c.row_a-a.ensures c.row_b-b.ensures c.facts.ensures.0 c.if-facts-eq0.true c.sunk_sides.ensures

pub returns : goal.returns
returns c =
    let s = c in
    let t = table_rows s.args.t.now in
    let m = held-in t s.args.q c.choice_at-c.result s.args.points.now (replicate 33 0) s.requires.0 (omega arith) c.draw_in-n.ensures c.held.result c.held.ensures in
    let d = c.depth.ensures ∙ ap (λ (m : Material). depth_of m c.world.result) m in
    pair-center t s.args.q s.args.pair s.requires.1 c.row_a-a.ensures c.row_b-b.ensures c.facts.ensures.0 c.if-facts-eq0.false d c.choice_at-c.ensures c.row_of_material.ensures
    c.world.ensures c.center.ensures c.placement_at-place.ensures c.facts-2.ensures.0
