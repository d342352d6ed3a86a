-- The whole reading of a description at a pose: its rows, and of every pair the overlaps and the bearing. Definitions only.
use Rattle.std.specs.Prelude.{ℕ, List, map, length, Float, Option, None, Result, Ok, Err}
use Rattle.laws.specs.Fill.{filled}
use Rattle.laws.specs.Lists.{list_in}
use Rattle.ieee.specs.Consts.{zero_f}
use Rattle.mechanism.specs.Description.{pair_at}
use Rattle.mechanism.specs.Rows.{RowLists, place_row, value_row, pair_in, gap_in}
use Rattle.mechanism.specs.declared.Mechanism.{Mechanism}
use Rattle.bodies.specs.declared.pose.Pose.{Pose}
use Rattle.mechanism.specs.declared.rows.Row.{Row}
use Rattle.overlap.specs.Overlap.{pair_overlap}
use Rattle.faces.specs.Faces.{sides_overlap}
use Rattle.shown_rows.specs.Rows.{features_of_pair, rows_of, rows_checked}
use Rattle.governing.specs.Governing.{governing_of}
use Rattle.bearings.specs.Bearing.{governed_bearing, row_at}
use Rattle.reading.specs.declared.PairReading.{PairReading}
use Rattle.reading.specs.declared.Reading.{Reading}
use Rattle.bodies.specs.Check.{Checked}
use Rattle.bodies.specs.declared.Problem.{Problem}
use Rattle.mechanism.specs.declared.bearing.Bearing.{Bearing}

-- the bearing of pair i by its governing row among n rows in arrays
abbrev pub bearing_by : Mechanism → Pose → List (List ℕ) → List (List Float) → ℕ → ℕ → Option Bearing
bearing_by m q places values n i = governed_bearing (features_of_pair m i) q (row_at places values) (governing_of (pair_in places) (gap_in values) n i)

-- of one pair, the rows standing in arrays
abbrev pub pair_reading : Mechanism → Pose → List (List ℕ) → List (List Float) → ℕ → ℕ → PairReading
pair_reading m q places values n i = record {
  overlap = pair_overlap m.parts m.outlines q (pair_at m.pairs i);
  face_overlap = sides_overlap (features_of_pair m i) q;
  bearing = bearing_by m q places values n i;
}

abbrev pub no_pair_reading : PairReading
no_pair_reading = record { overlap = zero_f; face_overlap = zero_f; bearing = None }

-- what is read of the first n pairs, one by one
abbrev pub readings_by : (ℕ → PairReading) → ℕ → List PairReading
readings_by one n = filled 16 no_pair_reading (list_in one n 0)

abbrev pub pair_readings : Mechanism → Pose → List (List ℕ) → List (List Float) → ℕ → List PairReading
pair_readings m q places values n = readings_by (pair_reading m q places values n) m.pairs.count

abbrev pub read_if : Checked → Mechanism → Pose → List Row → Result Reading Problem
read_if (Ok tt) m q rows = Ok (record {
  count = length rows;
  pairs = m.pairs.count;
  pair = pair_readings m q (map place_row rows) (map value_row rows) (length rows);
})
read_if (Err p) m q rows = Err p

unfoldable pub reading_of : Mechanism → Pose → Float → (places values grad slip : ℕ) → Result Reading Problem
reading_of m q margin places values grad slip = read_if (rows_checked m q places values grad slip) m q (rows_of m q margin)

-- the answer of a call that was lent these
abbrev pub reading_asked : Mechanism → Pose → Float → RowLists → Result Reading Problem
reading_asked m q margin l = reading_of m q margin (length l.places) (length l.values) (length l.grad) (length l.slip)
