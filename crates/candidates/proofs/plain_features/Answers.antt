use mathlib.Core.Path.{ap}
use Rattle.material.specs.Material.{Material}
use Rattle.proximities.specs.Proximities.{read_ab, read_ba, each}
use Rattle.proximities.proofs.Wrote.{wrote_same, wrote_both}
use Rattle.sides.specs.Features.{faces_in, discs_in}
use Rattle.candidates.proofs.plain_features.Goals as goal

pub returns : goal.returns
returns c =
    let a = c.args.s.now.a.now in
    let b = c.args.s.now.b.now in
    let e = c.nothing-m.ensures in
    wrote_both (wrote_same (ap (λ (m : Material). each (read_ab m) (discs_in a) (faces_in b)) e) c.discs_on_b-i.ensures.written)
    (wrote_both (wrote_same (ap (λ (m : Material). each (read_ba m) (discs_in b) (faces_in a)) e) c.discs_on_a-j.ensures.written) c.discs_on_discs.ensures)
