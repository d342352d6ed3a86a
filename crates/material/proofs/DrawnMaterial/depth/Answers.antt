use mathlib.Core.Path.{ap, subst, ◌∙◌}
use lib.Ieee.{Float}
use Rattle.ieee.specs.Root.{root_of}
use Rattle.material.specs.Material.{drawn_material, square_depth, Serves}
use Rattle.ieee.proofs.Values.{zero_over_zero}
use Rattle.material.proofs.Serves.{serves_nan}
use Rattle.material.proofs.Squares.{square-root}
use Rattle.material.proofs.DrawnMaterial.depth.Goals as goal

pub returns : goal.returns
returns c =
    let s = c.args in
    let m = drawn_material s.self.now in
    let e = serves_nan _ _ (subst (λ (d : Float). Serves d c.square_depth.result (square_depth m s.p)) zero_over_zero c.square_depth.ensures) in
    c.root.ensures.value ∙ ap root_of e ∙ square-root m s.p
