-- One reading of two features at a pose (contact/rows.rs: `turned`, `world_face`, `world_disc`, `read_pair`, `real`), and candidates in lent arrays.
-- Definitions only.
use Rattle.std.specs.Prelude.{ℕ, ◌+◌, ◌≡◌, Bool, false, not, ◌||◌, cond, List, [], ◌∷◌, ltb, length, Float, Option, Some, None, unwrap_or}
use Rattle.std.proofs.lemmas.List.Edits.{sets}
use Rattle.std.specs.Float.{nan}
use Rattle.std.specs.Float.Ieee.{le, neg}
use Rattle.laws.specs.Lists.{flat}
use Rattle.ieee.specs.Consts.{row_margin, zero_f}
use Rattle.ieee.specs.Operators.{◌⊖◌}
use Rattle.geometry.specs.Geometry.{dir_of, vector_of}
use Rattle.geometry.specs.Signed.{disc_on_face, disc_on_disc, center_on_face, reversed_of, on_a, on_b}
use Rattle.geometry.specs.declared.Dir.{Dir}
use Rattle.geometry.specs.declared.Point.{Point}
use Rattle.geometry.specs.declared.signed.Disc.{Disc}
use Rattle.geometry.specs.declared.signed.Face.{Face}
use Rattle.geometry.specs.declared.signed.Proximity.{Proximity}
use Rattle.bodies.specs.Pose.{is_world, rotate_of, world_of}
use Rattle.mechanism.specs.declared.features.Piece.{Piece}
use Rattle.mechanism.specs.declared.features.Piece.TheVariants.{Center, Segment}
use Rattle.bodies.specs.declared.pose.Placement.{Placement}
use Rattle.material.specs.Material.{Material, holds_of, depth_of}
use Rattle.sides.specs.declared.PlacedDisc.{PlacedDisc}
use Rattle.sides.specs.declared.PlacedFace.{PlacedFace}
use Rattle.proximities.specs.declared.Candidate.{Candidate}

-- ---- features in the world
-- a direction of a body's frame: as it is where the body stands in the world's own frame, otherwise turned and normalized anew
unfoldable pub turned_of : Placement → Dir → Dir
turned_of place d = let v = rotate_of place (vector_of d) in cond (is_world place) d (unwrap_or (dir_of v.x v.y) d)

abbrev pub world_face : Placement → Face → Face
world_face place f = record { a = world_of place f.a; b = world_of place f.b; normal = turned_of place f.normal }

abbrev pub world_disc : Placement → Disc → Disc
world_disc place d = record { center = world_of place d.center; radius = d.radius; from = turned_of place d.from; to = turned_of place d.to }

-- ---- one reading: `who` names the deciding piece, 1 side A's, 2 side B's, 0 none
abbrev pub reading : Piece → Piece → ℕ → Option Proximity → List Candidate
reading a b who None = []
reading a b who (Some x) = record { a = a; b = b; who = who; near = x } ∷ []

-- the candidate of a reading, where number `at` is in an array of n
abbrev pub reading_at : (n at : ℕ) → Piece → Piece → ℕ → Option Proximity → List Candidate
reading_at n at a b who found = cond (ltb at n) (reading a b who found) []

abbrev pub kept_if : (Proximity → Bool) → Option Proximity → Option Proximity
kept_if p None = None
kept_if p (Some x) = cond (p x) (Some x) None

abbrev pub exchanged : Option Proximity → Option Proximity
exchanged None = None
exchanged (Some x) = Some (reversed_of x)

-- ---- the material check: deeper than the row margin, or not a number
abbrev pub is_deep : Float → Bool
is_deep gap = not (le (neg row_margin) gap)

-- a deep reading counts where the material holds its point on the other side
abbrev pub real_of : Material → Float → Point → Bool
real_of m gap p = not (is_deep gap) || holds_of m p

-- a deep centre counts where no side of the material stands nearer it by more than the margin
abbrev pub center_real : Material → Point → Float → Bool
center_real m p gap = not (is_deep gap) || le (neg gap ⊖ row_margin) (depth_of m p)

-- ---- side A's disc on side B's face, side B's disc on side A's face, disc on disc
unfoldable pub read_ab : Material → PlacedDisc → PlacedFace → List Candidate
read_ab m d f = reading d.piece f.piece 1 (kept_if (λ x. real_of m x.gap (on_a x)) (disc_on_face d.disc f.face))

unfoldable pub read_ba : Material → PlacedDisc → PlacedFace → List Candidate
read_ba m d f = reading f.piece d.piece 2 (kept_if (λ x. real_of m x.gap (on_b x)) (exchanged (disc_on_face d.disc f.face)))

unfoldable pub read_discs : PlacedDisc → PlacedDisc → List Candidate
read_discs d e = reading d.piece e.piece 0 (disc_on_disc d.disc e.disc)

unfoldable pub read_center : Material → Piece → Point → PlacedFace → List Candidate
read_center m piece c f = reading f.piece piece 2 (kept_if (λ x. center_real m c x.gap) (center_on_face c f.face))

-- each element of l with each of r, those of l outermost
abbrev pub each : {A B : Type 0} → (A → B → List Candidate) → List A → List B → List Candidate
each f l r = flat (λ x. flat (f x) r) l

-- ---- whether a material is asked for
abbrev pub found_deep : Option Proximity → Bool
found_deep None = false
found_deep (Some x) = is_deep x.gap

-- ---- in a lent array
abbrev pub no_candidate : Candidate
no_candidate = record {
  a = Center 0;
  b = Center 0;
  who = 0;
  near = record { gap = nan; normal = record { x = nan; y = nan }; point = record { x = nan; y = nan } };
}

-- what an array holds before candidates are written to it
abbrev pub blank_candidate : Candidate
blank_candidate = record {
  a = Segment 0 0;
  b = Segment 0 0;
  who = 0;
  near = record { gap = zero_f; normal = record { x = zero_f; y = zero_f }; point = record { x = zero_f; y = zero_f } };
}

-- the candidates l stand in the array from `at` up to r, and everything else in it is as before
pub record Written (l : List Candidate) (at r : ℕ) (before after : List Candidate) : Type 0 where
  pub end : r ≡ at + length l
  pub written : after ≡ sets before at l
