-- The rows shown of a pair's candidates, with their gradients and slips. Definitions only.
use Rattle.std.specs.Prelude.{ℕ, ◌+◌, ◌*◌, ◌≤◌, ◌≡◌, Bool, not, ◌&&◌, ◌||◌, cond, List, map, eqb, leb, ltb, length, get_or, set, replicate, Float}
use Rattle.std.proofs.lemmas.List.Edits.{sets}
use Rattle.std.specs.Float.Ieee.{lt, eq, neg}
use Rattle.std.specs.Float.{nan}
use Rattle.laws.specs.Lists.{foldl, flat}
use Rattle.ieee.specs.Consts.{zero_f}
use Rattle.ieee.specs.Operators.{◌⊕◌, ◌⊖◌}
use Rattle.geometry.specs.Geometry.{vector_of}
use Rattle.geometry.specs.Signed.{dot_of}
use Rattle.geometry.specs.declared.Point.{Point}
use Rattle.bodies.specs.Pose.{columns_of}
use Rattle.bodies.specs.declared.Bodies.{Bodies}
use Rattle.bodies.specs.declared.pose.Column.{Column}
use Rattle.bodies.specs.declared.pose.Pose.{Pose}
use Rattle.mechanism.specs.Piece.{same_piece}
use Rattle.mechanism.specs.Rows.{RowLists, place_row, value_row}
use Rattle.mechanism.specs.declared.features.Piece.{Piece}
use Rattle.mechanism.specs.declared.rows.LentRows.{LentRows}
use Rattle.mechanism.specs.declared.rows.Row.{Row}
use Rattle.showing.specs.Showing.{shown}
use Rattle.proximities.specs.Proximities.{no_candidate}
use Rattle.proximities.specs.declared.Candidate.{Candidate}
use Rattle.pair_rows.specs.declared.Source.{Source}

-- ---- candidates by number
abbrev pub candidate_at : List Candidate → ℕ → Candidate
candidate_at cs i = get_or cs i no_candidate

abbrev pub gap_at : List Candidate → ℕ → Float
gap_at cs i = (candidate_at cs i).near.gap

-- one of the two pieces decides; a term of document 01: the deciding piece is the corner, arc or centre that is read against a face
abbrev pub decides : Candidate → Bool
decides c = not (eqb c.who 0)

abbrev pub deciding : Candidate → Piece
deciding c = cond (eqb c.who 1) c.a c.b

abbrev pub alike : Candidate → Candidate → Bool
alike c d = (decides c && decides d) && same_piece (deciding c) (deciding d)

-- the same by number
abbrev pub decides_at : List Candidate → ℕ → Bool
decides_at cs i = decides (candidate_at cs i)

abbrev pub alike_at : List Candidate → ℕ → ℕ → Bool
alike_at cs i j = alike (candidate_at cs i) (candidate_at cs j)

-- the numbers of the candidates that are shown, in order
unfoldable pub shown_of : List Candidate → Float → List ℕ
shown_of cs m = shown (gap_at cs) (decides_at cs) (alike_at cs) (length cs) m

-- a gap y, number j, that is negative and larger than the gap x, number i, or equal and earlier
abbrev pub outdoes_by : Float → ℕ → Float → ℕ → Bool
outdoes_by x i y j = lt y zero_f && (lt x y || (eq x y && ltb j i))

-- ---- rows
-- the gap that is shown is the one computed
abbrev pub shown_gap : Float → Float
shown_gap x = x

abbrev pub row_of : ℕ → Candidate → Row
row_of pair c = record { pair = pair; feature = record { a = c.a; b = c.b }; gap = shown_gap c.near.gap; normal = c.near.normal; point = c.near.point }

-- ---- gradients and slips: a float a coordinate, the columns of body A's chain added, then those of body B's subtracted
abbrev pub add_into : Point → List Float → Column → List Float
add_into v g k = set g k.coord (get_or g k.coord nan ⊕ dot_of v k.column)

abbrev pub sub_from : Point → List Float → Column → List Float
sub_from v g k = set g k.coord (get_or g k.coord nan ⊖ dot_of v k.column)

-- the same with any function of what stands at the coordinate and what the column is along v
abbrev pub changed_by : (Float → Float → Float) → Point → List Float → Column → List Float
changed_by f v g k = set g k.coord (f (get_or g k.coord nan) (dot_of v k.column))

abbrev pub along_of : Bodies → Pose → Point → Point → ℕ → ℕ → List Float
along_of b q v at body_a bodyB =
    foldl (sub_from v) (foldl (add_into v) (replicate b.coords zero_f) (columns_of b q at body_a)) (columns_of b q at bodyB)

-- the normal turned by a quarter to the left
abbrev pub left_of : Point → Point
left_of n = record { x = neg n.y; y = n.x }

-- of a candidate of two bodies
abbrev pub grad_in : Bodies → Pose → Source → Candidate → List Float
grad_in b q s c = along_of b q (vector_of c.near.normal) c.near.point s.a s.b

abbrev pub slip_in : Bodies → Pose → Source → Candidate → List Float
slip_in b q s c = along_of b q (left_of (vector_of c.near.normal)) c.near.point s.a s.b

-- ---- in lent arrays
-- the same arrays are lent still
pub record SameArrays (before after : LentRows) : Type 0 where
  pub places : after.places.ghost_name ≡ before.places.ghost_name
  pub values : after.values.ghost_name ≡ before.values.ghost_name
  pub grad : after.grad.ghost_name ≡ before.grad.ghost_name
  pub slip : after.slip.ghost_name ≡ before.slip.ghost_name

-- with the row of a candidate as row number `at`
abbrev pub with_row : Bodies → Pose → Source → Candidate → ℕ → RowLists → RowLists
with_row b q s c at l = record {
  places = set l.places at (place_row (row_of s.pair c));
  values = set l.values at (value_row (row_of s.pair c));
  grad = sets l.grad (at * b.coords) (grad_in b q s c);
  slip = sets l.slip (at * b.coords) (slip_in b q s c);
}

-- from row `at` up to row r they hold what is listed, and everything else in them is as before
pub record Put (coords : ℕ) (ps : List (List ℕ)) (vs : List (List Float)) (gs ss : List Float) (at r : ℕ) (before after : RowLists) : Type 0 where
  pub end : r ≡ at + length ps
  pub placed : after.places ≡ sets before.places at ps
  pub valued : after.values ≡ sets before.values at vs
  pub grads : after.grad ≡ sets before.grad (at * coords) gs
  pub slips : after.slip ≡ sets before.slip (at * coords) ss

-- there is room for n rows more
pub record Room (coords at n : ℕ) (l : RowLists) : Type 0 where
  pub places_room : at + n ≤ length l.places
  pub values_room : at + n ≤ length l.values
  pub grad_room : (at + n) * coords ≤ length l.grad
  pub slip_room : (at + n) * coords ≤ length l.slip

-- behind the `at` rows that are there stand the rows of the candidates numbered in `ks`
abbrev pub PutShown : Bodies → Pose → Source → List Candidate → List ℕ → (at r : ℕ) (before after : RowLists) → Type 0
PutShown b q s cs ks at r before after =
    Put b.coords (map (λ i. place_row (row_of s.pair (candidate_at cs i))) ks) (map (λ i. value_row (row_of s.pair (candidate_at cs i))) ks)
    (flat (λ i. grad_in b q s (candidate_at cs i)) ks) (flat (λ i. slip_in b q s (candidate_at cs i)) ks) at r before after

-- there is room for n rows more, and no number is above its limit
abbrev pub room_behind : (coords at n : ℕ) → RowLists → Bool
room_behind coords at n l =
    (leb coords 16 && (leb at 23296 && leb n 1456))
    && ((leb (at + n) (length l.places) && leb (at + n) (length l.values)) && (leb ((at + n) * coords) (length l.grad) && leb ((at + n) * coords) (length l.slip)))
