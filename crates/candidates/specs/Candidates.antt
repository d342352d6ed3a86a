-- The candidates of a pair at a pose (contact/rows.rs: `read_pair`), in the Rust's order, before hiding and margin.
-- Definitions only.
use Rattle.std.specs.Prelude.{ℕ, ◌+◌, ◌*◌, ◌≤◌, Bool, true, false, ◌&&◌, List, [], ◌++◌, map, leb, length, replicate}
use Rattle.std.specs.List.{list_any}
use Rattle.laws.specs.Lists.{flat}
use Rattle.ieee.specs.Consts.{zero_f}
use Rattle.geometry.specs.Signed.{disc_on_face, center_on_face}
use Rattle.geometry.specs.declared.Dir.{Dir}
use Rattle.geometry.specs.declared.Point.{Point}
use Rattle.geometry.specs.declared.signed.Disc.{Disc}
use Rattle.mechanism.specs.Check.{pair_drawn}
use Rattle.mechanism.specs.declared.features.Piece.TheVariants.{Segment}
use Rattle.bodies.specs.Pose.{world_of, placement_at}
use Rattle.mechanism.specs.declared.Outlines.{Outlines}
use Rattle.mechanism.specs.declared.Parts.{Parts}
use Rattle.mechanism.specs.declared.pair.ContactPair.{ContactPair}
use Rattle.mechanism.specs.declared.pair.PairGeometry.{PairGeometry}
use Rattle.mechanism.specs.declared.pair.PairGeometry.TheVariants.{Features, CenterBearing}
use Rattle.bodies.specs.declared.pose.Placement.{Placement}
use Rattle.bodies.specs.declared.pose.Pose.{Pose}
use Rattle.material.specs.Material.{Material}
use Rattle.drawing.specs.Drawing.{side_material}
use Rattle.sides.specs.Contacts.{pair_features}
use Rattle.sides.specs.Features.{faces_in, discs_in}
use Rattle.sides.specs.declared.PlacedDisc.{PlacedDisc}
use Rattle.sides.specs.declared.PlacedFace.{PlacedFace}
use Rattle.sides.specs.declared.SideFeatures.{SideFeatures}
use Rattle.sides.specs.declared.contacts.PairFeatures.{PairFeatures}
use Rattle.proximities.specs.Proximities.{world_face, world_disc, reading, read_ab, read_ba, read_discs, read_center, each, found_deep}
use Rattle.proximities.specs.declared.Candidate.{Candidate}
use Rattle.candidates.specs.declared.PlacedSides.{PlacedSides}
use Rattle.candidates.specs.declared.Reading.{Reading}

-- ---- features in the world
abbrev pub place_face : Placement → PlacedFace → PlacedFace
place_face place p = record { piece = p.piece; face = world_face place p.face }

abbrev pub place_disc : Placement → PlacedDisc → PlacedDisc
place_disc place p = record { piece = p.piece; disc = world_disc place p.disc }

abbrev pub faces_at : SideFeatures → Pose → List PlacedFace
faces_at s q = map (place_face (placement_at q s.body)) (faces_in s)

abbrev pub discs_at : SideFeatures → Pose → List PlacedDisc
discs_at s q = map (place_disc (placement_at q s.body)) (discs_in s)

abbrev pub center_in : SideFeatures → Pose → Point
center_in s q = world_of (placement_at q s.body) s.center.point

-- ---- the candidates of a pair (a term of document 01: its readings that pass sectors, face ends and the material check, before hiding and margin)
-- of two sides whose faces and discs stand in the world
abbrev pub candidates_in : Material → Material → List PlacedFace → List PlacedDisc → List PlacedFace → List PlacedDisc → List Candidate
candidates_in ma mb facesA discsA facesB discsB = each (read_ab mb) discsA facesB ++ (each (read_ba ma) discsB facesA ++ each read_discs discsA discsB)

abbrev pub features_candidates : Material → Material → PairFeatures → Pose → List Candidate
features_candidates ma mb f q = candidates_in ma mb (faces_at f.a q) (discs_at f.a q) (faces_at f.b q) (discs_at f.b q)

abbrev pub center_candidates : Material → PairFeatures → Pose → List Candidate
center_candidates ma f q = flat (read_center ma f.b.center.piece (center_in f.b q)) (faces_at f.a q)

abbrev pub candidates_by : PairGeometry → Parts → Outlines → Pose → ContactPair → PairFeatures → List Candidate
candidates_by Features ps o q p f = features_candidates (side_material ps o q p.a true) (side_material ps o q p.b true) f q
candidates_by CenterBearing ps o q p f = center_candidates (side_material ps o q p.a false) f q

unfoldable pub pair_candidates : Parts → Outlines → Pose → ContactPair → List Candidate
pair_candidates ps o q p = candidates_by p.geometry ps o q p (pair_features ps o p)

-- ---- whether a material is asked for
abbrev pub disc_deep : List PlacedFace → Disc → Bool
disc_deep faces d = list_any (λ f. found_deep (disc_on_face d f.face)) faces

abbrev pub any_deep : List PlacedDisc → List PlacedFace → Bool
any_deep discs faces = list_any (λ d. disc_deep faces d.disc) discs

abbrev pub center_deep : List PlacedFace → Point → Bool
center_deep faces c = list_any (λ f. found_deep (center_on_face c f.face)) faces

abbrev pub no_material : Material
no_material = record { solids = []; cuts = [] }

-- the same of sides that the code has placed
abbrev pub placed_candidates : Material → Material → PlacedSides → List Candidate
placed_candidates ma mb s = candidates_in ma mb (faces_in s.a.now) (discs_in s.a.now) (faces_in s.b.now) (discs_in s.b.now)

-- so many places are enough for the candidates of two sides
abbrev pub places_of : SideFeatures → SideFeatures → ℕ
places_of a b = length (discs_in a) * length (faces_in b) + (length (discs_in b) * length (faces_in a) + length (discs_in a) * length (discs_in b))

-- the counts of two sides are within their arrays, and n places have room for their candidates
pub record FewPlaced (s : PlacedSides) (n : ℕ) : Type 0 where
  pub faces_a : s.a.now.faces ≤ 12
  pub discs_a : s.a.now.discs ≤ 28
  pub faces_b : s.b.now.faces ≤ 12
  pub discs_b : s.b.now.discs ≤ 28
  pub few : s.a.now.discs * s.b.now.faces + (s.b.now.discs * s.a.now.faces + s.a.now.discs * s.b.now.discs) ≤ n

-- the candidate of what the code has read
abbrev pub candidates_of : Reading → List Candidate
candidates_of r = reading r.a r.b r.who r.near

-- what a face is before it is placed, and a side
abbrev pub blank_face : PlacedFace
blank_face =
    let o : Point = record { x = zero_f; y = zero_f } in
    record { piece = Segment 0 0; face = record { a = o; b = o; normal = record { x = zero_f; y = zero_f } } }

abbrev pub blank_side : SideFeatures
blank_side =
    let o : Point = record { x = zero_f; y = zero_f } in
    let d : Dir = record { x = zero_f; y = zero_f } in
    record {
      body = 0;
      faces = 0;
      face = replicate 12 blank_face;
      discs = 0;
      disc = replicate 28 (record { piece = Segment 0 0; disc = record { center = o; radius = zero_f; from = d; to = d } });
      center = record { piece = Segment 0 0; point = o };
    }

-- room for any pair's candidates
abbrev pub candidate_room : Parts → ContactPair → ℕ → Bool
candidate_room ps p n = pair_drawn ps p && leb 784 n
