-- Small faces, computed from the definitions. Side A's face runs from (0, 0) to (1, 0) and looks down, so its material lies above it. Assumes nothing.
use mathlib.Core.Path.{◌≡◌, refl}
use mathlib.Core.Bool.{true, false}
use mathlib.Core.List.{[], ◌∷◌}
use lib.Ieee.{Float, binary64, of_bits, to_bits, add, sub, mul, div, lt, le, eq, neg, is_nan, nan}
use Rattle.laws.specs.Lists.{foldl}
use Rattle.ieee.specs.Consts.{zero_f, one_f, two_f}
use Rattle.ieee.specs.Num.{same_of}
use Rattle.geometry.specs.declared.Point.{Point}
use Rattle.geometry.specs.declared.signed.Face.{Face}
use Rattle.bodies.specs.declared.pose.Placement.{Placement}
use Rattle.faces.specs.Faces.{within_of, over_of, faces_overlap, same_overlap}

abbrev quarter_f : Float
quarter_f = of_bits binary64 0x3fd0_0000_0000_0000

abbrev three_quarters_f : Float
three_quarters_f = of_bits binary64 0x3fe8_0000_0000_0000

abbrev three_f : Float
three_f = of_bits binary64 0x4008_0000_0000_0000

abbrev point : Float → Float → Point
point x y = record { x = x; y = y }

-- a body that is not turned, its origin at the height y
abbrev raised : Float → Placement
raised y = record { origin = point zero_f y; cos = one_f; sin = zero_f }

abbrev under : Float → Face
under x = record { a = point zero_f zero_f; b = point x zero_f; normal = record { x = zero_f; y = neg one_f } }

-- side B's face, on the line y = 0 of its body, looks up
abbrev over : Float → Float → Face
over x y = record { a = point x zero_f; b = point y zero_f; normal = record { x = zero_f; y = one_f } }

-- within the span, and a quarter past the line
pub past : faces_overlap (under one_f ∷ []) (raised zero_f) (over three_quarters_f quarter_f ∷ []) (raised quarter_f) ≡ quarter_f
unfolding faces_overlap over_of within_of foldl of_bits add sub mul div lt le neg is_nan
past = refl

-- as far past the line, but beside the span
pub beside : faces_overlap (under one_f ∷ []) (raised zero_f) (over three_f two_f ∷ []) (raised quarter_f) ≡ zero_f
unfolding faces_overlap over_of within_of foldl of_bits add sub mul div lt le neg is_nan
beside = refl

-- within the span, and a quarter short of the line
pub apart : faces_overlap (under one_f ∷ []) (raised zero_f) (over three_quarters_f quarter_f ∷ []) (raised (neg quarter_f)) ≡ zero_f
unfolding faces_overlap over_of within_of foldl of_bits add sub mul div lt le neg is_nan
apart = refl

-- a face of side A that has no length is passed over
pub no_length : faces_overlap (under zero_f ∷ []) (raised zero_f) (over three_quarters_f quarter_f ∷ []) (raised quarter_f) ≡ zero_f
unfolding faces_overlap foldl of_bits add sub mul le is_nan
no_length = refl

-- in a comparison both zeros are alike, which bit for bit they are not, and so are two NaNs
pub zeros-alike : (same_overlap zero_f (neg zero_f) ≡ true) × (same_of zero_f (neg zero_f) ≡ false) × (same_overlap nan nan ≡ true) × (same_overlap zero_f one_f ≡ false)
unfolding of_bits to_bits neg eq
zeros-alike = (refl, refl, refl, refl)
