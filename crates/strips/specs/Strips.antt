-- A description prepared for its readings, as rows of numbers in lent arrays: what the rows say. Definitions only.
use Rattle.std.specs.Prelude.{ℕ, ◌+◌, ◌*◌, ◌≤◌, cond, ltb, List, [], ◌∷◌, get_or, Float}
use Rattle.std.specs.Float.{nan}
use Rattle.laws.specs.Lists.{list_in}
use Rattle.geometry.specs.declared.Dir.{Dir}
use Rattle.geometry.specs.declared.Point.{Point}
use Rattle.geometry.specs.declared.signed.Disc.{Disc}
use Rattle.geometry.specs.declared.signed.Face.{Face}
use Rattle.mechanism.specs.Piece.{letter_of, part_of, seg_of, piece_in}
use Rattle.mechanism.specs.declared.features.Piece.{Piece}
use Rattle.sides.specs.Features.{side_from}
use Rattle.sides.specs.declared.PlacedDisc.{PlacedDisc}
use Rattle.sides.specs.declared.PlacedFace.{PlacedFace}
use Rattle.sides.specs.declared.SideFeatures.{SideFeatures}
use Rattle.sides.specs.declared.contacts.PairFeatures.{PairFeatures}
use Rattle.strips.specs.declared.PartFacts.{PartFacts}
use Rattle.strips.specs.declared.SideFacts.{SideFacts}
use Rattle.strips.specs.declared.tables.Tables.{Tables}

-- ---- rows read
-- the floats k and m of a row
abbrev pub point_in : List Float → ℕ → ℕ → Point
point_in l k m = record { x = get_or l k nan; y = get_or l m nan }

abbrev pub dir_in : List Float → ℕ → ℕ → Dir
dir_in l k m = record { x = get_or l k nan; y = get_or l m nan }

abbrev pub point_from : List Float → Point
point_from l = point_in l 0 1

abbrev pub face_from : List Float → Face
face_from l = record { a = point_in l 0 1; b = point_in l 2 3; normal = dir_in l 4 5 }

abbrev pub disc_from : List Float → Disc
disc_from l = record { center = point_in l 0 1; radius = get_or l 2 nan; from = dir_in l 3 4; to = dir_in l 5 6 }

abbrev pub piece_from : List ℕ → Piece
piece_from l = piece_in (get_or l 0 0) (get_or l 1 0) (get_or l 2 0)

-- the lesser of n and m
abbrev pub at_most : ℕ → ℕ → ℕ
at_most n m = cond (ltb n m) n m

abbrev pub part_from : List ℕ → PartFacts
part_from l = record { body = get_or l 0 0; drawn = at_most (get_or l 1 0) 65535; points = at_most (get_or l 2 0) 752; sampled = at_most (get_or l 3 0) 65535; samples = at_most (get_or l 4 0) 1598 }

abbrev pub facts_from : List ℕ → SideFacts
facts_from l = record {
  body = get_or l 0 0;
  face = at_most (get_or l 1 0) 65535;
  faces = at_most (get_or l 2 0) 12;
  disc = at_most (get_or l 3 0) 65535;
  discs = at_most (get_or l 4 0) 28;
  part = get_or l 5 0;
  geometry = get_or l 6 0;
}

pub record SmallPart (p : PartFacts) : Type 0 where
  pub drawn_small : p.drawn ≤ 65535
  pub points_few : p.points ≤ 752
  pub sampled_small : p.sampled ≤ 65535
  pub samples_few : p.samples ≤ 1598

pub record SmallSide (s : SideFacts) : Type 0 where
  pub face_small : s.face ≤ 65535
  pub faces_few : s.faces ≤ 12
  pub disc_small : s.disc ≤ 65535
  pub discs_few : s.discs ≤ 28

-- ---- rows made
abbrev pub face_row : Face → List Float
face_row f = f.a.x ∷ f.a.y ∷ f.b.x ∷ f.b.y ∷ f.normal.x ∷ f.normal.y ∷ []

abbrev pub disc_row : Disc → List Float
disc_row d = d.center.x ∷ d.center.y ∷ d.radius ∷ d.from.x ∷ d.from.y ∷ d.to.x ∷ d.to.y ∷ []

abbrev pub piece_row : Piece → List ℕ
piece_row p = letter_of p ∷ part_of p ∷ seg_of p ∷ []

-- ---- the tables: their rows, as they stand in the lent arrays
pub record TableRows : Type 0 where
  pub faces : List (List Float)
  pub fnames : List (List ℕ)
  pub discs : List (List Float)
  pub dnames : List (List ℕ)
  pub sides : List (List ℕ)
  pub centers : List (List Float)
  pub choices : List (List ℕ)
  pub drawn : List (List Float)
  pub sampled : List (List Float)
  pub parts : List (List ℕ)

-- those that tables lend
abbrev pub table_rows : Tables → TableRows
table_rows t = record {
  faces = t.faces.now;
  fnames = t.fnames.now;
  discs = t.discs.now;
  dnames = t.dnames.now;
  sides = t.sides.now;
  centers = t.centers.now;
  choices = t.choices.now;
  drawn = t.drawn.now;
  sampled = t.sampled.now;
  parts = t.parts.now;
}

abbrev pub face_at : TableRows → ℕ → PlacedFace
face_at t i = record { piece = piece_from (get_or t.fnames i []); face = face_from (get_or t.faces i []) }

abbrev pub disc_at : TableRows → ℕ → PlacedDisc
disc_at t i = record { piece = piece_from (get_or t.dnames i []); disc = disc_from (get_or t.discs i []) }

abbrev pub drawn_at : TableRows → ℕ → Point
drawn_at t i = point_from (get_or t.drawn i [])

abbrev pub sampled_at : TableRows → ℕ → Point
sampled_at t i = point_from (get_or t.sampled i [])

abbrev pub center_at : TableRows → ℕ → Point
center_at t k = point_from (get_or t.centers k [])

abbrev pub part_at : TableRows → ℕ → PartFacts
part_at t i = part_from (get_or t.parts i [])

abbrev pub side_at : TableRows → ℕ → SideFacts
side_at t k = facts_from (get_or t.sides k [])

-- ---- sides and pairs: the rows of a pair's side A and side B; of a pair above the sixteenth the rows behind those of all pairs
abbrev pub row_a : ℕ → ℕ
row_a i = 2 * at_most i 16

abbrev pub row_b : ℕ → ℕ
row_b i = 2 * at_most i 16 + 1

-- the row of a side's material among the choices, and that of the parts sampled for it
abbrev pub row_of_material : ℕ → ℕ
row_of_material side = 2 * at_most side 33

abbrev pub row_of_sampled : ℕ → ℕ
row_of_sampled side = 2 * at_most side 33 + 1

abbrev pub faces_of_side : TableRows → SideFacts → List PlacedFace
faces_of_side t s = list_in (face_at t) s.faces s.face

abbrev pub discs_of_side : TableRows → SideFacts → List PlacedDisc
discs_of_side t s = list_in (disc_at t) s.discs s.disc

abbrev pub features_by : TableRows → SideFacts → Point → SideFeatures
features_by t s center = side_from s.body (faces_of_side t s) (discs_of_side t s) (Piece.Center s.part) center

abbrev pub side_in : TableRows → ℕ → SideFeatures
side_in t k = features_by t (side_at t k) (center_at t k)

unfoldable pub pair_in : TableRows → ℕ → PairFeatures
pair_in t i = record { a = side_in t (row_a i); b = side_in t (row_b i) }
