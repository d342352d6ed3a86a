-- The lines of a whole reading, pair by pair, or of its refusal (document 01, "The sheet text"). Definitions only.
use Rattle.std.specs.Prelude.{ℕ, ◌*◌, ◌≤◌, cond, List, [], ◌++◌, map, eqb, length, get_or, take, drop, Float, Ok, Err}
use Rattle.laws.specs.Lists.{flat}
use Rattle.laws.specs.Loops.{join_in}
use Rattle.bodies.specs.Check.{Checked, number_of, place_of}
use Rattle.mechanism.specs.Rows.{RowLists, place_row, value_row, pair_in}
use Rattle.mechanism.specs.declared.Mechanism.{Mechanism}
use Rattle.bodies.specs.declared.Problem.{Problem}
use Rattle.bodies.specs.declared.pose.Pose.{Pose}
use Rattle.mechanism.specs.declared.rows.Row.{Row}
use Rattle.shown_rows.specs.Rows.{pair_numbers, rows_of_pair, rows_of, grad_of, slip_of, features_of_pair, rows_checked}
use Rattle.bearings.specs.Bearing.{row_at}
use Rattle.reading.specs.Reading.{no_pair_reading, pair_reading}
use Rattle.reading.specs.declared.PairReading.{PairReading}
use Rattle.reading.specs.declared.Reading.{Reading}
use Rattle.reading_lines.specs.Lines.{row_line, columns_line, overlap_line, bearing_line, refusal_line}

-- ---- an accepted sheet
-- a row's line, and the line of its gradient and slip
abbrev pub row_lines : Mechanism → Pose → ℕ → Row → List ℕ
row_lines m q i r = row_line r ++ columns_line (grad_of m.bodies q (features_of_pair m i) r) (slip_of m.bodies q (features_of_pair m i) r)

-- what is read of pair i beside its rows
abbrev pub read_of : Mechanism → Pose → Float → ℕ → PairReading
read_of m q margin i = let rows = rows_of m q margin in pair_reading m q (map place_row rows) (map value_row rows) (length rows) i

abbrev pub other_lines : ℕ → PairReading → List ℕ
other_lines i x = overlap_line i x.overlap x.face_overlap ++ bearing_line i x.bearing

abbrev pub pair_lines : Mechanism → Pose → Float → ℕ → List ℕ
pair_lines m q margin i = flat (row_lines m q i) (rows_of_pair m q margin i) ++ other_lines i (read_of m q margin i)

unfoldable pub all_lines : Mechanism → Pose → Float → List ℕ
all_lines m q margin = flat (pair_lines m q margin) (pair_numbers m)

-- ---- refusals
abbrev pub refusal : Problem → List ℕ
refusal p = refusal_line (number_of p) (place_of p)

-- 13 with 256 rows lent
abbrev pub read_if : Checked → Mechanism → Pose → Float → List ℕ
read_if (Ok tt) m q margin = all_lines m q margin
read_if (Err p) m q margin = refusal p

abbrev pub read_lines : Mechanism → Pose → Float → List ℕ
read_lines m q margin = read_if (rows_checked m q 256 256 4096 4096) m q margin

-- ---- the same read from lent arrays
-- row j and its columns, `coords` numbers each
abbrev pub row_lines_in : ℕ → RowLists → ℕ → List ℕ
row_lines_in coords l j = row_line (row_at l.places l.values j) ++ columns_line (take coords (drop (j * coords) l.grad)) (take coords (drop (j * coords) l.slip))

-- those of the n rows that name pair i
unfoldable pub pair_rows_in : ℕ → RowLists → ℕ → ℕ → List ℕ
pair_rows_in coords l n i = join_in (λ j. cond (eqb (pair_in l.places j) i) (row_lines_in coords l j) []) n 0

abbrev pub reading_at : Reading → ℕ → PairReading
reading_at r i = get_or r.pair i no_pair_reading

abbrev pub pair_lines_in : ℕ → RowLists → Reading → ℕ → List ℕ
pair_lines_in coords l r i = pair_rows_in coords l r.count i ++ other_lines i (reading_at r i)

unfoldable pub all_lines_in : ℕ → RowLists → Reading → List ℕ
all_lines_in coords l r = join_in (pair_lines_in coords l r) r.pairs 0

-- the arrays hold n rows with their columns
pub record Held (coords n : ℕ) (l : RowLists) : Type 0 where
  pub few : coords ≤ 16
  pub many : n ≤ 256
  pub placed : n ≤ length l.places
  pub valued : n ≤ length l.values
  pub grads : n * coords ≤ length l.grad
  pub slips : n * coords ≤ length l.slip

-- ---- no listing is longer: 256 rows of 196 and 546 bytes, 16 pairs of 57 and 93, whole numbers taken to have up to twenty digits
abbrev pub longest : ℕ
longest = 192352
