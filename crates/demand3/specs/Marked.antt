-- Document 01, "Marked for proof": its table as one statement about the definitions.
use Rattle.std.specs.Prelude.{ℕ, ◌^◌, ◌≡◌, Bool, true, false, List, [], ◌∷◌, get_or, Float, Option, Some, None}
use Rattle.std.specs.Float.{nan, binary64}
use Rattle.std.specs.Float.Ieee.{neg, round}
use Rattle.ieee.specs.Consts.{zero_f, one_f, two_f, half_f}
use Rattle.ieee.specs.Root.{root_of}
use Rattle.geometry.specs.Geometry.{dir_of}
use Rattle.geometry.specs.Signed.{in_sector, disc_on_face, center_on_face}
use Rattle.geometry.specs.declared.Dir.{Dir}
use Rattle.geometry.specs.declared.Point.{Point}
use Rattle.geometry.specs.declared.signed.Disc.{Disc}
use Rattle.geometry.specs.declared.signed.Face.{Face}
use Rattle.showing.specs.Showing.{shown}
use Rattle.governing.specs.Governing.{governing_of}
use Rattle.geometry.specs.declared.signed.Proximity.{Proximity}

-- the double nearest to n / d, or to -n / d
abbrev pub decimal : ℕ → ℕ → Float
decimal n d = round binary64 false n d

abbrev pub minus : ℕ → ℕ → Float
minus n d = round binary64 true n d

abbrev pub at : Float → Float → Point
at x y = record { x = x; y = y }

abbrev pub toward : Float → Float → Dir
toward x y = record { x = x; y = y }

-- the face (1,1) to (0,1) with normal (0,1), and a corner that looks down on it through a half turn
abbrev pub top : Face
top = record { a = at one_f one_f; b = at zero_f one_f; normal = toward zero_f one_f }

abbrev pub corner : Float → Float → Disc
corner x y = record { center = at x y; radius = zero_f; from = toward (neg one_f) zero_f; to = toward one_f zero_f }

abbrev pub reads : Option Proximity → Bool
reads (Some p) = true
reads None = false

-- the candidates of one piece that are shown at the margin 1, by their gaps
abbrev pub left : List Float → ℕ → List ℕ
left gaps n = shown (λ k. get_or gaps k nan) (λ k. true) (λ k l. true) n one_f

pub record Marked : Type 0 where
  -- direction (3,4) is (0.6,0.8) rounded; (0,0) and (2^600,0) none
  pub three_four : dir_of (decimal 3 1) (decimal 4 1) ≡ Some (toward (decimal 6 10) (decimal 8 10))
  pub no_length : dir_of zero_f zero_f ≡ None
  pub too_long : dir_of (decimal (2 ^ 600) 1) zero_f ≡ None
  -- root of 2^-1074 is 2^-537; of -0.0, -0.0
  pub least_root : root_of (decimal 1 (2 ^ 1074)) ≡ decimal 1 (2 ^ 537)
  pub zero_root : root_of (neg zero_f) ≡ neg zero_f
  -- in the sector (1,0) to (-1,0): (0,1) yes, (0,-1) no; sector (1,0) to (1,0): nothing
  pub half_turn_in : in_sector (at zero_f one_f) (toward one_f zero_f) (toward (neg one_f) zero_f) ≡ true
  pub half_turn_out : in_sector (at zero_f (neg one_f)) (toward one_f zero_f) (toward (neg one_f) zero_f) ≡ false
  pub no_sweep : (u : Point) → in_sector u (toward one_f zero_f) (toward one_f zero_f) ≡ false
  -- on the face: centre (0.5,2): gap 1, point (0.5,1.5); centre (0,2) reads, (-0.5,2) does not; read as a bearing's centre, whose row has the face's normal turned round
  pub center_above : center_on_face (at half_f two_f) top ≡ Some (record { gap = one_f; normal = toward (neg zero_f) (neg one_f); point = at half_f (decimal 15 10) })
  pub center_at_the_end : reads (center_on_face (at zero_f two_f) top) ≡ true
  pub center_past_the_end : reads (center_on_face (at (neg half_f) two_f) top) ≡ false
  -- and as the centre of a corner's disc
  pub above : disc_on_face (corner half_f two_f) top ≡ Some (record { gap = one_f; normal = toward zero_f one_f; point = at half_f (decimal 15 10) })
  pub at_the_end : reads (disc_on_face (corner zero_f two_f) top) ≡ true
  pub past_the_end : reads (disc_on_face (corner (neg half_f) two_f) top) ≡ false
  -- gaps of one piece: -0.5,-0.25,-0.25 leave the second; -0.5,-0.0005 leave the second; -0.5,0 leave both
  pub equal_later : left (minus 5 10 ∷ minus 25 100 ∷ minus 25 100 ∷ []) 3 ≡ 1 ∷ []
  pub shallow : left (minus 5 10 ∷ minus 5 10000 ∷ []) 2 ≡ 1 ∷ []
  pub touching : left (minus 5 10 ∷ zero_f ∷ []) 2 ≡ 0 ∷ 1 ∷ []
  -- governing of 1,0.5,0.5 is the second
  pub second_governs : governing_of (λ k. 0) (λ k. get_or (one_f ∷ half_f ∷ half_f ∷ []) k nan) 3 0 ≡ Some 1
