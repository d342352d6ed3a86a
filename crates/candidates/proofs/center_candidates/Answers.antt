use mathlib.Core.Path.{sym, ◌∙◌}
use Rattle.proximities.proofs.Wrote.{wrote_same}
use Rattle.candidates.specs.Candidates.{no_material}
use Rattle.candidates.proofs.Deep.{flat-center_same}
use Rattle.candidates.proofs.center_candidates.Goals as goal

pub returns : goal.returns
returns g c =
    let s = c.args in
    wrote_same (flat-center_same no_material (g.D.Drawing.material_a s.from.now) s.c.piece s.c.point s.faces.now (sym c.center_deep.ensures ∙ c.if-center_deep.false)) c.plain_center.ensures
