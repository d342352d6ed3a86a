-- Document 01's corners of geometry/mod.rs and geometry/signed.rs, computed from the definitions. Assumes nothing.
use mathlib.Core.Path.{◌≡◌, refl}
use mathlib.Core.Bool.{false}
use Prim.Native.Nat.{ℕ}
use lib.Ieee.{Float, binary64, of_bits, add, sub, mul, div, lt, le, neg}
use Rattle.ieee.specs.Consts.{zero_f, one_f, two_f, half_f}
use Rattle.ieee.specs.Root.{root_of}
use Rattle.geometry.specs.Geometry.{dir_of, halfway_of}
use Rattle.geometry.specs.Signed.{along_of, center_on_face, disc_on_disc}
use Rattle.geometry.specs.declared.Point.{Point}
use Rattle.geometry.specs.declared.Dir.{Dir}
use Rattle.geometry.specs.declared.signed.Disc.{Disc}
use Rattle.geometry.specs.declared.signed.Face.{Face}
use Rattle.std.proofs.Common.{Some, None, is_some}

abbrev bits : ℕ → Float
bits b = of_bits binary64 b

abbrev at : Float → Float → Point
at x y = record { x = x; y = y }

abbrev to : Float → Float → Dir
to x y = record { x = x; y = y }

abbrev right : Dir
right = to one_f zero_f

abbrev up : Dir
up = to zero_f one_f

abbrev left : Dir
left = to (neg one_f) zero_f

-- the face (1,1) to (0,1) with normal (0,1), and a corner that looks down on it through a half turn
abbrev top : Face
top = record { a = at one_f one_f; b = at zero_f one_f; normal = up }

abbrev corner : Float → Float → Disc
corner x y = record { center = at x y; radius = zero_f; from = left; to = right }

-- ---- corners
tiny : dir_of (bits 0x1a70_0000_0000_0000) zero_f ≡ None
unfolding dir_of root_of of_bits add mul div lt
tiny = refl

halfway_equal : halfway_of right right ≡ right
unfolding halfway_of of_bits add sub mul lt neg
halfway_equal = refl

halfway_opposite : halfway_of right left ≡ to (neg zero_f) one_f
unfolding halfway_of of_bits add sub mul lt neg
halfway_opposite = refl

-- a quarter turn, and what is left of the whole turn
halfway_quarter : halfway_of right up ≡ to (bits 0x3fe6_a09e_667f_3bcc) (bits 0x3fe6_a09e_667f_3bcc)
unfolding halfway_of dir_of root_of of_bits add sub mul div lt neg
halfway_quarter = refl

halfway_over : halfway_of up right ≡ to (neg (bits 0x3fe6_a09e_667f_3bcc)) (neg (bits 0x3fe6_a09e_667f_3bcc))
unfolding halfway_of dir_of root_of of_bits add sub mul div lt neg
halfway_over = refl

-- coincident centres give no reading; a negative radius is taken as it is
coincident : is_some (disc_on_disc (corner half_f two_f) (corner half_f two_f)) ≡ false
unfolding disc_on_disc dir_of root_of of_bits add sub mul div lt neg
coincident = refl

center_reads : center_on_face (at half_f two_f) top ≡ Some (record { gap = one_f; normal = to (neg zero_f) (neg one_f); point = at half_f (bits 0x3ff8_0000_0000_0000) })
unfolding center_on_face along_of dir_of root_of of_bits add sub mul div lt le neg
center_reads = refl
