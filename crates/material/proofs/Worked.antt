-- Worked examples, and why abscissas have no range as ordinates have (Outside.antt): by rounding, a point past every vertex can be inside. Assumes nothing.
use mathlib.Core.Path.{◌≡◌, refl}
use mathlib.Core.Bool.{true, false}
use mathlib.Core.List.{List, [], ◌∷◌}
use Prim.Native.Nat.{ℕ}
use lib.Ieee.{binary64, of_bits, lt, le, add, sub, mul, div}
use Rattle.laws.specs.Lists.{list_in, foldl, any, flat}
use Rattle.ieee.specs.Root.{root_of}
use Rattle.geometry.specs.declared.Point.{Point}
use Rattle.material.specs.Material.{Material, inside_of, cross_of, square_of, depth_of}

abbrev pub at : ℕ → ℕ → Point
at x y = record { x = of_bits binary64 x; y = of_bits binary64 y }

-- ---- a triangle whose largest abscissa is 3fe2f3bf180416ca, and a point at the next one up
abbrev pub triangle : List Point
triangle = at 0xbfe642b7f593e1d2 0xbfefe5d66f017874 ∷ at 0xbfeff96c074b9aac 0xbfcdc31147ec67a8 ∷ at 0x3fe2f3bf180416ca 0xbfad5f597f6c5580 ∷ []

abbrev pub beside : Point
beside = at 0x3fe2f3bf180416cb 0xbfad5f597f6c5581

pub past-every_vertex : any (λ v. le beside.x v.x) triangle ≡ false
unfolding any of_bits le
past-every_vertex = refl

pub inside-all-the_same : inside_of beside triangle ≡ true
unfolding inside_of cross_of foldl list_in of_bits lt add sub mul div
inside-all-the_same = refl

-- ---- the unit square less a cut from (0.25, 0.25) to (0.5, 0.5)
abbrev pub quarter : ℕ
quarter = 0x3fd0_0000_0000_0000

abbrev pub half : ℕ
half = 0x3fe0_0000_0000_0000

abbrev pub unit : ℕ
unit = 0x3ff0_0000_0000_0000

abbrev pub board : Material
board = record {
  solids = (at 0 0 ∷ at unit 0 ∷ at unit unit ∷ at 0 unit ∷ []) ∷ [];
  cuts = (at quarter quarter ∷ at half quarter ∷ at half half ∷ at quarter half ∷ []) ∷ [];
}

-- (0.75, 0.5) is 0.25 from the right edge, and from the cut's
pub deep : depth_of board (at 0x3fe8_0000_0000_0000 half) ≡ of_bits binary64 quarter
unfolding depth_of inside_of cross_of square_of any flat foldl list_in of_bits lt add sub mul div root_of lib.Ieee.is_nan
deep = refl

-- (0.375, 0.375) is in the cut
pub in_the_cut : depth_of board (at 0x3fd8_0000_0000_0000 0x3fd8_0000_0000_0000) ≡ of_bits binary64 0
unfolding depth_of inside_of cross_of any foldl list_in of_bits lt add sub mul div
in_the_cut = refl
