-- Rows as records and in lent arrays, and what a row says of its two surfaces (contact/rows.rs: `Row::proximity`). Definitions only.
use Rattle.std.specs.Prelude.{ℕ, List, [], ◌∷◌, get_or, Float}
use Rattle.std.specs.Float.{nan}
use Rattle.geometry.specs.declared.signed.Proximity.{Proximity}
use Rattle.mechanism.specs.Piece.{letter_of, part_of, seg_of, piece_in}
use Rattle.mechanism.specs.declared.rows.LentRows.{LentRows}
use Rattle.mechanism.specs.declared.rows.Row.{Row}

abbrev pub proximity_of : Row → Proximity
proximity_of r = record { gap = r.gap; normal = r.normal; point = r.point }

-- ---- in lent arrays: seven whole numbers a row, the pair and the letter, part and segment of both pieces; five floats, the gap, the normal and the point
abbrev pub place_row : Row → List ℕ
place_row r =
    r.pair ∷ letter_of r.feature.a ∷ part_of r.feature.a ∷ seg_of r.feature.a
    ∷ letter_of r.feature.b ∷ part_of r.feature.b ∷ seg_of r.feature.b ∷ []

abbrev pub value_row : Row → List Float
value_row r = r.gap ∷ r.normal.x ∷ r.normal.y ∷ r.point.x ∷ r.point.y ∷ []

-- and back: the row of the two arrays' entries
abbrev pub row_in : List ℕ → List Float → Row
row_in x v = record {
  pair = get_or x 0 0;
  feature = record { a = piece_in (get_or x 1 0) (get_or x 2 0) (get_or x 3 0); b = piece_in (get_or x 4 0) (get_or x 5 0) (get_or x 6 0) };
  gap = get_or v 0 nan;
  normal = record { x = get_or v 1 nan; y = get_or v 2 nan };
  point = record { x = get_or v 3 nan; y = get_or v 4 nan };
}

-- the pair and the gap of row i
abbrev pub pair_in : List (List ℕ) → ℕ → ℕ
pair_in places i = get_or (get_or places i []) 0 0

abbrev pub gap_in : List (List Float) → ℕ → Float
gap_in values i = get_or (get_or values i []) 0 nan

-- ---- the arrays that are lent for rows
pub record RowLists : Type 0 where
  pub places : List (List ℕ)
  pub values : List (List Float)
  pub grad : List Float
  pub slip : List Float

abbrev pub lists_of : LentRows → RowLists
lists_of r = record { places = r.places.now; values = r.values.now; grad = r.grad.now; slip = r.slip.now }
