-- Document 01's corners of bearing.rs, computed from the definitions. Assumes nothing.
use mathlib.Core.Path.{◌≡◌, refl}
use mathlib.Core.Bool.{true, false}
use lib.Ieee.{Float, add, sub, mul, div, le, of_bits}
use Rattle.ieee.specs.Consts.{zero_f, one_f, half_f}
use Rattle.geometry.specs.declared.Point.{Point}
use Rattle.geometry.specs.declared.signed.Face.{Face}
use Rattle.bodies.specs.declared.pose.Placement.{Placement}
use Rattle.bearings.specs.Bearing.{spans}

abbrev at : Float → Float → Point
at x y = record { x = x; y = y }

abbrev placed : Placement
placed = record { origin = at zero_f zero_f; cos = one_f; sin = zero_f }

abbrev face : Point → Point → Face
face a b = record { a = a; b = b; normal = record { x = zero_f; y = one_f } }

-- a face from 0 to 1 spans its ends and its middle; one of zero placed length spans nothing, not even its own end
start-spanned : spans placed (face (at zero_f zero_f) (at one_f zero_f)) (at zero_f one_f) ≡ true
unfolding add sub mul div le of_bits
start-spanned = refl

middle_spanned : spans placed (face (at zero_f zero_f) (at one_f zero_f)) (at half_f one_f) ≡ true
unfolding add sub mul div le of_bits
middle_spanned = refl

end-spanned : spans placed (face (at zero_f zero_f) (at one_f zero_f)) (at one_f one_f) ≡ true
unfolding add sub mul div le of_bits
end-spanned = refl

no_length-spans-nothing : spans placed (face (at one_f one_f) (at one_f one_f)) (at one_f one_f) ≡ false
unfolding add sub mul div le of_bits
no_length-spans-nothing = refl
