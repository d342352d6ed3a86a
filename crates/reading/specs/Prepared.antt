-- The whole reading of a prepared description at a pose. Definitions only.
use Rattle.std.specs.Prelude.{ℕ, List, map, ltb, length, Float, Result, Ok, Err}
use Rattle.bodies.specs.Check.{Checked, and_then, refused_if}
use Rattle.bodies.specs.Pose.{bodies_posed, bodies_placed}
use Rattle.mechanism.specs.Rows.{RowLists, place_row, value_row, gap_in}
use Rattle.mechanism.specs.Rows as Rows
use Rattle.bodies.specs.declared.Bodies.{Bodies}
use Rattle.bodies.specs.declared.Problem.{Problem}
use Rattle.bodies.specs.declared.Problem.TheVariants.{LimitPassed}
use Rattle.bodies.specs.declared.pose.Pose.{Pose}
use Rattle.mechanism.specs.declared.rows.Row.{Row}
use Rattle.strips.specs.Strips.{TableRows, pair_in}
use Rattle.overlap.specs.Prepared.{pair_overlap_in}
use Rattle.faces.specs.Prepared.{face_overlap_in}
use Rattle.governing.specs.Governing.{governing_of}
use Rattle.bearings.specs.Bearing.{governed_bearing, row_at}
use Rattle.prepared_rows.specs.Prepared.{prepared_checked}
use Rattle.reading.specs.Reading.{readings_by}
use Rattle.reading.specs.declared.PairReading.{PairReading}
use Rattle.reading.specs.declared.Reading.{Reading}

-- of one pair, the rows standing in arrays
abbrev pub pair_reading_in : TableRows → Pose → List (List ℕ) → List (List Float) → ℕ → ℕ → PairReading
pair_reading_in t q places values n i = record {
  overlap = pair_overlap_in t q i;
  face_overlap = face_overlap_in t q i;
  bearing = governed_bearing (pair_in t i) q (row_at places values) (governing_of (Rows.pair_in places) (gap_in values) n i);
}

abbrev pub pair_readings_in : TableRows → Pose → List (List ℕ) → List (List Float) → ℕ → ℕ → List PairReading
pair_readings_in t q places values n pairs = readings_by (pair_reading_in t q places values n) pairs

abbrev pub read_in : TableRows → Checked → ℕ → Pose → List Row → Result Reading Problem
read_in t (Ok tt) pairs q rows = Ok (record {
  count = length rows;
  pairs = pairs;
  pair = pair_readings_in t q (map place_row rows) (map value_row rows) (length rows) pairs;
})
read_in t (Err p) pairs q rows = Err p

-- 3, 4 and 11 of bodies, pairs and entries, then those of the rows
unfoldable pub read_checked : Bodies → ℕ → TableRows → List (List Float) → (places values grad slip : ℕ) → Checked
read_checked b pairs t entries places values grad slip =
    and_then (refused_if (ltb 16 pairs) LimitPassed)
    (and_then (bodies_posed b entries)
    (prepared_checked b pairs t (bodies_placed b entries) places values grad slip))

-- the refusals of a call that was lent these
abbrev pub read_asked : Bodies → ℕ → TableRows → List (List Float) → RowLists → Checked
read_asked b pairs t entries l = read_checked b pairs t entries (length l.places) (length l.values) (length l.grad) (length l.slip)
