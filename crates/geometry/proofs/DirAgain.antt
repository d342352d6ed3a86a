-- What `Dir::new` has answered, it answers again: the two floats of a direction that it gave have a length that is finite and above zero. Nothing is asked of the floats. Assumes nothing.
use mathlib.Core.Path.{◌≡◌, refl, ap, subst}
use mathlib.Core.Bool.{Bool, true, false, false≢true, cond, ◌&&◌}
use lib.Ieee.{Float, lt}
use Rattle.laws.proofs.Choice.{cond_yes, both, holds}
use Rattle.ieee.specs.Consts.{zero_f}
use Rattle.ieee.specs.Num.{finite}
use Rattle.ieee.specs.Operators.{◌⊕◌, ◌⊗◌, ◌⊘◌}
use Rattle.ieee.specs.Root.{root_of}
use Rattle.ieee.proofs.Bounds.{length-again, finite-of, over_zero}
use Rattle.geometry.specs.Geometry.{dir_of}
use Rattle.geometry.specs.declared.Dir.{Dir}
use Rattle.std.proofs.Common.{Option, Some, None, is_some, unwrap_or}

-- a direction was answered: the test passed, and it is the one that stands there
answered : (b : Bool) (c d : Dir) → cond b (Some c) None ≡ Some d → (b ≡ true) × (c ≡ d)
answered true c d h = (refl, ap (λ (m : Option Dir). unwrap_or m c) h)
answered false c d h = absurd (false≢true (ap is_some h))

abbrev length_of : Float → Float → Float
length_of x y = root_of (x ⊗ x ⊕ y ⊗ y)

abbrev over : Float → Float → Dir
over x y = record { x = x ⊘ length_of x y; y = y ⊘ length_of x y }

pub dir_again : (x y : Float) (d : Dir) → dir_of x y ≡ Some d → (e : Dir) × (dir_of d.x d.y ≡ Some e)
unfolding dir_of
dir_again x y d h =
    let l = length_of x y in
    let a = answered (finite l && lt zero_f l) (over x y) d h in
    let t = both (finite l) (lt zero_f l) a.0 in
    subst (λ (c : Dir). (e : Dir) × (dir_of c.x c.y ≡ Some e)) a.1
    (over (x ⊘ l) (y ⊘ l), cond_yes (Some (over (x ⊘ l) (y ⊘ l))) None (over_zero (length_of (x ⊘ l) (y ⊘ l)) (length-again x y (finite-of l t.0) (holds t.1))))
