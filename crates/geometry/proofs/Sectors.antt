-- A sector whose two directions are equal holds nothing, whatever is asked about. Assumes nothing.
use mathlib.Core.Path.{◌≡◌, ap, ◌∙◌}
use mathlib.Core.Bool.{false}
use lib.Ieee.{Float, lt}
use Rattle.laws.proofs.Choice.{cond_no}
use Rattle.ieee.specs.Consts.{zero_f}
use Rattle.ieee.specs.Operators.{◌⊖◌, ◌⊗◌}
use Rattle.ieee.proofs.Arithmetic.{product-comm, less-itself, squares-not_below}
use Rattle.geometry.specs.Geometry.{vector_of}
use Rattle.geometry.specs.Signed.{cross_of, in_sector}
use Rattle.geometry.specs.declared.Point.{Point}
use Rattle.geometry.specs.declared.Dir.{Dir}

-- the cross product of a direction with itself
cross_itself : (d : Dir) → cross_of (vector_of d) (vector_of d) ≡ d.x ⊗ d.y ⊖ d.x ⊗ d.y
cross_itself d = ap (λ (z : Float). d.x ⊗ d.y ⊖ z) (product-comm d.y d.x)

pub equal_holds_nothing : (u : Point) (d : Dir) → in_sector u d d ≡ false
unfolding in_sector
equal_holds_nothing u d =
    let l = less-itself (d.x ⊗ d.y) in
    cond_no _ _ (ap (λ (z : Float). lt zero_f z) (cross_itself d) ∙ l.not_above)
    ∙ cond_no _ _ (ap (λ (z : Float). lt z zero_f) (cross_itself d) ∙ l.not_below)
    ∙ cond_no _ _ (squares-not_below d.x d.y)
