-- How far side B's drawn faces stand past side A's, of the rows of a prepared side. Assumes nothing.
use Prim.Native.Nat.{ℕ, zero, suc}
use mathlib.Core.Path.{◌≡◌, refl, ap, ap₂, ◌∙◌}
use mathlib.Core.List.{List, [], ◌∷◌, map}
use lib.ListN.{get_or}
use lib.Ieee.{Float}
use Rattle.laws.specs.Lists.{list_in}
use Rattle.geometry.specs.declared.signed.Face.{Face}
use Rattle.bodies.specs.Pose.{placement_at}
use Rattle.bodies.specs.declared.pose.Pose.{Pose}
use Rattle.strips.specs.Strips.{TableRows, center_at, face_at, side_at, side_in, row_a, row_b, pair_in}
use Rattle.strips.specs.declared.SideFacts.{SideFacts}
use Rattle.strips.proofs.Bounds.{side-small}
use Rattle.strips.proofs.Sides.{faces_listed}
use Rattle.faces.specs.Faces.{face_of, faces_in, faces_overlap, sides_overlap}
use Rattle.faces.specs.Prepared.{face_overlap_in}

map-list : {A B : Type 0} (g : A → B) (f : ℕ → A) (n j : ℕ) → map g (list_in f n j) ≡ list_in (λ i. g (f i)) n j
unfolding list_in
map-list g f zero j = refl
map-list {B = B} g f (suc n) j = ap (λ (l : List B). g (f j) ∷ l) (map-list g f n (suc j))

module _ (t : TableRows) where
  -- the faces in a side's rows
  abbrev rows_of : SideFacts → List Face
  rows_of s = list_in (λ i. (face_at t i).face) s.faces s.face

  faces_read : (k : ℕ) → faces_in (side_in t k) ≡ rows_of (side_at t k)
  faces_read k =
      let s = side_at t k in
      ap (map face_of) (faces_listed t s (center_at t k) (side-small (get_or t.sides k [])).faces_few) ∙ map-list face_of (face_at t) s.faces s.face

  -- the faces of two prepared sides are those in their rows
  abbrev by_rows : Pose → SideFacts → SideFacts → Float
  by_rows q a b = faces_overlap (rows_of a) (placement_at q a.body) (rows_of b) (placement_at q b.body)

  pub overlap_rows : (q : Pose) (i : ℕ) → face_overlap_in t q i ≡ by_rows q (side_at t (row_a i)) (side_at t (row_b i))
  unfolding face_overlap_in sides_overlap pair_in
  overlap_rows q i =
      ap₂ (λ (x : List Face) (y : List Face). faces_overlap x (placement_at q (side_at t (row_a i)).body) y (placement_at q (side_at t (row_b i)).body))
      (faces_read (row_a i)) (faces_read (row_b i))

pub overlap_read : (t : TableRows) (q : Pose) (i : ℕ) → face_overlap_in t q i ≡ sides_overlap (pair_in t i) q
unfolding face_overlap_in
overlap_read t q i = refl
