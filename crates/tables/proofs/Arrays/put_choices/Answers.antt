use Prim.Native.Nat.{ℕ, ◌*◌}
use mathlib.Core.Bool.{Bool}
use mathlib.Core.List.{List}
use mathlib.Core.Path.{ap, ◌∙◌}
use Rattle.drawing.specs.Drawing.{side_chosen}
use Rattle.drawing.specs.declared.Chosen.{Chosen}
use Rattle.tables.specs.declared.Arrays.{Arrays}
use Rattle.tables.proofs.Written.{set-four}
use Rattle.tables.proofs.Arrays.put_choices.Goals as goal

pub returns : goal.returns
returns c =
    let s = c.args in
    let a : Arrays = s.self.now in
    let cuts = c.less_cuts-cuts.ensures in
    let what = λ (x : Chosen). x.what in
    ap (λ (x : List (List ℕ)). record a { choices = x })
    (set-four a.choices (4 * s.i)
    (ap what (c.side_chosen.ensures ∙ ap (λ (b : Bool). side_chosen s.ps s.p.a b) cuts)) c.sampled_row.ensures
    (ap what (c.side_chosen-2.ensures ∙ ap (λ (b : Bool). side_chosen s.ps s.p.b b) cuts)) c.sampled_row-2.ensures)
