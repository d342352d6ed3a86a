use mathlib.Core.Path.{sym, ap, ◌∙◌}
use Rattle.laws.proofs.Choice.{cond_yes, cond_no}
use Rattle.ieee.specs.Num.{max_of}
use Rattle.material.proofs.Serves.{serves_max}
use Rattle.material.proofs.DrawnMaterial.deeper_square.Goals as goal

pub returns-then-is_outside : goal.returns-then-is_outside
returns-then-is_outside c = c.max.ensures ∙ ap (max_of c.args.d) (sym (cond_yes _ _ (sym c.is_outside.ensures ∙ c.if-is_outside.true)))

pub returns-else-is_outside : goal.returns-else-is_outside
returns-else-is_outside c =
    let s = c.args in
    c.max-else-is_outside.ensures ∙ serves_max s.d _ _ c.square_depth.ensures ∙ ap (max_of s.d) (sym (cond_no _ _ (sym c.is_outside.ensures ∙ c.if-is_outside.false)))
