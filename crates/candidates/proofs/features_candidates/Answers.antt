use mathlib.Core.Path.{sym, ◌∙◌}
use Rattle.proximities.proofs.Wrote.{wrote_same}
use Rattle.candidates.specs.Candidates.{no_material}
use Rattle.candidates.proofs.Deep.{placed_same}
use Rattle.candidates.proofs.features_candidates.Goals as goal

pub returns : goal.returns
returns g c =
    let from = c.args.from.now in
    let ab = sym c.any_deep.ensures ∙ c.if-any_deep.false in
    let ba = sym c.any_deep-else-any_deep.ensures ∙ c.if-any_deep-2.false in
    wrote_same (placed_same no_material (g.D.Drawing.material_a from) no_material (g.D.Drawing.material_b from) c.args.s.now ab ba) c.plain_features.ensures
