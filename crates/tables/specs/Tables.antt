-- A description prepared for its readings: the rows of its tables. Definitions only.
use Rattle.std.specs.Prelude.{ℕ, ◌+◌, ◌*◌, Bool, true, false, cond, List, [], ◌∷◌, ◌++◌, map, replicate, take, Float, Ok, Err}
use Rattle.std.proofs.lemmas.List.Edits.{sets}
use Rattle.laws.specs.Lists.{list_in, flat}
use Rattle.ieee.specs.Consts.{zero_f}
use Rattle.mechanism.specs.Description.{part_at, pair_at}
use Rattle.mechanism.specs.declared.Mechanism.{Mechanism}
use Rattle.mechanism.specs.declared.Outlines.{Outlines}
use Rattle.mechanism.specs.declared.Parts.{Parts}
use Rattle.mechanism.specs.declared.pair.ContactPair.{ContactPair}
use Rattle.mechanism.specs.declared.pair.PairGeometry.{PairGeometry}
use Rattle.mechanism.specs.declared.pair.PairGeometry.TheVariants.{Features, CenterBearing}
use Rattle.mechanism.specs.declared.pair.Surface.{Surface}
use Rattle.mechanism.specs.Piece.{part_of}
use Rattle.drawing.specs.Drawing.{is_sampled, is_own, row_of, side_chosen}
use Rattle.drawing.specs.Points.{up_to, drawn_table, sampled_table, part_table}
use Rattle.sides.specs.Contacts.{pair_features}
use Rattle.sides.specs.declared.SideFeatures.{SideFeatures}
use Rattle.sides.specs.declared.contacts.PairFeatures.{PairFeatures}
use Rattle.strips.specs.Strips.{TableRows, face_row, disc_row, piece_row}
use Rattle.tables.specs.declared.Arrays.{Arrays}
use Rattle.bodies.specs.Check.{Checked}

-- ---- features: twelve faces and twenty-eight discs a side, the blank ones behind them too
abbrev pub face_rows : SideFeatures → List (List Float)
face_rows s = map (λ p. face_row p.face) s.face

abbrev pub face_names : SideFeatures → List (List ℕ)
face_names s = map (λ p. piece_row p.piece) s.face

abbrev pub disc_rows : SideFeatures → List (List Float)
disc_rows s = map (λ p. disc_row p.disc) s.disc

abbrev pub disc_names : SideFeatures → List (List ℕ)
disc_names s = map (λ p. piece_row p.piece) s.disc

abbrev pub geometry_of : PairGeometry → ℕ
geometry_of Features = 0
geometry_of CenterBearing = 1

-- side k of all: its faces stand from row 12 k on, its discs from row 28 k on
abbrev pub side_row : ℕ → PairGeometry → SideFeatures → List ℕ
side_row k g s = s.body ∷ 12 * k ∷ s.faces ∷ 28 * k ∷ s.discs ∷ part_of s.center.piece ∷ geometry_of g ∷ []

-- the parts sampled for a side: those of its ranges that are sampled
abbrev pub sampled_row : Parts → Surface → List ℕ
sampled_row ps u = list_in (λ i. cond (is_own u i) (cond (is_sampled (part_at ps i)) 1 0) 0) 32 0

-- the cuts are taken away in a features pair
abbrev pub less_cuts : PairGeometry → Bool
less_cuts Features = true
less_cuts CenterBearing = false

-- ---- pair by pair
module _ (ps : Parts) (o : Outlines) (p : ContactPair) where
  abbrev pub pair_faces : List (List Float)
  pair_faces = face_rows (pair_features ps o p).a ++ face_rows (pair_features ps o p).b

  abbrev pub pair_face_names : List (List ℕ)
  pair_face_names = face_names (pair_features ps o p).a ++ face_names (pair_features ps o p).b

  abbrev pub pair_discs : List (List Float)
  pair_discs = disc_rows (pair_features ps o p).a ++ disc_rows (pair_features ps o p).b

  abbrev pub pair_disc_names : List (List ℕ)
  pair_disc_names = disc_names (pair_features ps o p).a ++ disc_names (pair_features ps o p).b

  abbrev pub pair_sides : ℕ → List (List ℕ)
  pair_sides i = side_row (2 * i) p.geometry (pair_features ps o p).a ∷ side_row (2 * i + 1) p.geometry (pair_features ps o p).b ∷ []

  abbrev pub pair_centers : List (List Float)
  pair_centers = row_of (pair_features ps o p).a.center.point ∷ row_of (pair_features ps o p).b.center.point ∷ []

abbrev pub pair_choices : Parts → ContactPair → List (List ℕ)
pair_choices ps p = (side_chosen ps p.a (less_cuts p.geometry)).what ∷ sampled_row ps p.a ∷ (side_chosen ps p.b (less_cuts p.geometry)).what ∷ sampled_row ps p.b ∷ []

module _ (m : Mechanism) where
  abbrev pub of_pair : {A : Type 0} → (Parts → Outlines → ContactPair → List A) → ℕ → List A
  of_pair f i = f m.parts m.outlines (pair_at m.pairs i)

  abbrev pub face_table : List (List Float)
  face_table = flat (of_pair pair_faces) (up_to m.pairs.count)

  abbrev pub face_name_table : List (List ℕ)
  face_name_table = flat (of_pair pair_face_names) (up_to m.pairs.count)

  abbrev pub disc_table : List (List Float)
  disc_table = flat (of_pair pair_discs) (up_to m.pairs.count)

  abbrev pub disc_name_table : List (List ℕ)
  disc_name_table = flat (of_pair pair_disc_names) (up_to m.pairs.count)

  abbrev pub side_table : List (List ℕ)
  side_table = flat (λ i. pair_sides m.parts m.outlines (pair_at m.pairs i) i) (up_to m.pairs.count)

  abbrev pub center_table : List (List Float)
  center_table = flat (of_pair pair_centers) (up_to m.pairs.count)

  abbrev pub choice_table : List (List ℕ)
  choice_table = flat (λ i. pair_choices m.parts (pair_at m.pairs i)) (up_to m.pairs.count)

-- ---- the arrays
-- those that hold zeros
unfoldable pub blank_arrays : Arrays
blank_arrays = record {
  drawn = replicate 6144 (replicate 2 zero_f);
  sampled = replicate 13056 (replicate 2 zero_f);
  parts = replicate 32 (replicate 5 0);
  faces = replicate 384 (replicate 6 zero_f);
  fnames = replicate 384 (replicate 3 0);
  discs = replicate 896 (replicate 7 zero_f);
  dnames = replicate 896 (replicate 3 0);
  sides = replicate 32 (replicate 7 0);
  centers = replicate 32 (replicate 2 zero_f);
  choices = replicate 64 (replicate 32 0);
}

-- what they lend: of the parts the first n
abbrev pub lent_rows : Arrays → ℕ → TableRows
lent_rows a n = record {
  faces = a.faces;
  fnames = a.fnames;
  discs = a.discs;
  dnames = a.dnames;
  sides = a.sides;
  centers = a.centers;
  choices = a.choices;
  drawn = a.drawn;
  sampled = a.sampled;
  parts = take n a.parts;
}

-- with the tables of points and parts
abbrev pub with_parts : Arrays → Parts → Outlines → Arrays
with_parts a ps o = record a {
  drawn = sets a.drawn 0 (drawn_table ps o);
  sampled = sets a.sampled 0 (sampled_table ps o);
  parts = sets a.parts 0 (part_table ps o);
}

-- with the features of side k
abbrev pub with_features : Arrays → ℕ → SideFeatures → Arrays
with_features a k s = record a {
  faces = sets a.faces (12 * k) (face_rows s);
  fnames = sets a.fnames (12 * k) (face_names s);
  discs = sets a.discs (28 * k) (disc_rows s);
  dnames = sets a.dnames (28 * k) (disc_names s);
}

-- with the rows of both sides of pair i
abbrev pub with_sides : Arrays → ℕ → PairGeometry → PairFeatures → Arrays
with_sides a i g f = record a {
  sides = sets a.sides (2 * i) (side_row (2 * i) g f.a ∷ side_row (2 * i + 1) g f.b ∷ []);
  centers = sets a.centers (2 * i) (row_of f.a.center.point ∷ row_of f.b.center.point ∷ []);
}

-- with all rows of pair i
abbrev pub with_pair : Arrays → ℕ → Parts → Outlines → ContactPair → Arrays
with_pair a i ps o p = record a {
  faces = sets a.faces (24 * i) (pair_faces ps o p);
  fnames = sets a.fnames (24 * i) (pair_face_names ps o p);
  discs = sets a.discs (56 * i) (pair_discs ps o p);
  dnames = sets a.dnames (56 * i) (pair_disc_names ps o p);
  sides = sets a.sides (2 * i) (pair_sides ps o p i);
  centers = sets a.centers (2 * i) (pair_centers ps o p);
  choices = sets a.choices (4 * i) (pair_choices ps p);
}

-- with the tables of all pairs
abbrev pub with_pairs : Arrays → Mechanism → Arrays
with_pairs a m = record a {
  faces = sets a.faces 0 (face_table m);
  fnames = sets a.fnames 0 (face_name_table m);
  discs = sets a.discs 0 (disc_table m);
  dnames = sets a.dnames 0 (disc_name_table m);
  sides = sets a.sides 0 (side_table m);
  centers = sets a.centers 0 (center_table m);
  choices = sets a.choices 0 (choice_table m);
}

-- with all tables of a description that is accepted
abbrev pub prepared_over : Checked → Arrays → Mechanism → Arrays
prepared_over (Ok tt) a m = with_pairs (with_parts a m.parts m.outlines) m
prepared_over (Err p) a m = a
