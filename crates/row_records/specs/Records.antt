-- The governing row of a pair among row records (contact/rows.rs: `governing`, `gap`), the bearing by it (contact/bearing.rs), and rows in lent arrays as records. Definitions only.
use Rattle.std.specs.Prelude.{ℕ, List, length, get_or, Float, Option, Result}
use Rattle.std.specs.Float.{nan}
use Rattle.laws.specs.Lists.{list_in}
use Rattle.mechanism.specs.declared.Mechanism.{Mechanism}
use Rattle.mechanism.specs.declared.features.Piece.TheVariants.{Segment}
use Rattle.bodies.specs.declared.pose.Pose.{Pose}
use Rattle.mechanism.specs.declared.rows.Row.{Row}
use Rattle.bearings.specs.Bearing.{bearing_from, row_at}
use Rattle.bodies.specs.declared.Problem.{Problem}
use Rattle.mechanism.specs.declared.bearing.Bearing.{Bearing}
use Rattle.governing.specs.Governing.{governing_of, gap_of, lesser, records_in}

-- what stands past the end of a list of records
abbrev pub no_record : Row
no_record = record {
  pair = 0;
  feature = record { a = Segment 0 0; b = Segment 0 0 };
  gap = nan;
  normal = record { x = nan; y = nan };
  point = record { x = nan; y = nan };
}

abbrev pub record_at : List Row → ℕ → Row
record_at rows i = get_or rows i no_record

abbrev pub pair_at : List Row → ℕ → ℕ
pair_at rows i = (record_at rows i).pair

abbrev pub gap_at : List Row → ℕ → Float
gap_at rows i = (record_at rows i).gap

-- of all records that are lent
unfoldable pub governing_record : List Row → ℕ → Option ℕ
governing_record rows p = governing_of (pair_at rows) (gap_at rows) (length rows) p

unfoldable pub gap_record : List Row → ℕ → Option Float
gap_record rows p = gap_of (pair_at rows) (gap_at rows) (governing_of (pair_at rows) (gap_at rows) (length rows) p)

-- of all records that are lent
unfoldable pub bearing_record : Mechanism → Pose → List Row → ℕ → Result (Option Bearing) Problem
bearing_record m q rows p = bearing_from m q (record_at rows) (length rows) p

-- ---- the rows that stand in lent arrays, as records
abbrev pub records_of : List (List ℕ) → List (List Float) → ℕ → List Row
records_of places values n = list_in (row_at places values) n 0

-- as many as are asked for, are there and have room
abbrev pub records_fit : (n places values out : ℕ) → ℕ
records_fit n places values out = lesser (records_in n places values) out
