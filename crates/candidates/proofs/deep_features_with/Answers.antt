use mathlib.Core.Path.{ap}
use Rattle.material.specs.Material.{Material}
use Rattle.proximities.specs.Proximities.{read_ab, read_ba, each}
use Rattle.proximities.proofs.Wrote.{wrote_same, wrote_both}
use Rattle.sides.specs.Features.{faces_in, discs_in}
use Rattle.candidates.proofs.deep_features_with.Goals as goal

pub returns : goal.returns
returns g c =
    let a = c.args.s.now.a.now in
    let b = c.args.s.now.b.now in
    let eb = c.draw_b-n.ensures c.held.result c.held.ensures in
    let ea = c.draw_a-n.ensures c.held-2.result c.held-2.ensures in
    wrote_both (wrote_same (ap (λ (m : Material). each (read_ab m) (discs_in a) (faces_in b)) eb) c.discs_on_b-i.ensures.written)
    (wrote_both (wrote_same (ap (λ (m : Material). each (read_ba m) (discs_in b) (faces_in a)) ea) c.discs_on_a-j.ensures.written) c.discs_on_discs.ensures)
