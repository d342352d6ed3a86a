-- Answers over rows as plain numbers. Definitions only.
use Rattle.std.specs.Prelude.{ℕ, List, [], ◌∷◌, Float, length, Option, Some, None, unwrap_or, Result, Ok, Err}
use Rattle.ieee.specs.Consts.{zero_f}
use Rattle.geometry.specs.Signed.{on_a, on_b}
use Rattle.bodies.specs.Check.{number_of}
use Rattle.mechanism.specs.Rows.{proximity_of}
use Rattle.mechanism.specs.declared.bearing.HowItBears.{HowItBears}
use Rattle.mechanism.specs.declared.bearing.HowItBears.TheVariants.{Flat, StopEdge, KeyCorner}
use Rattle.mechanism.specs.declared.rows.Row.{Row}
use Rattle.sheet.specs.Posed.{pose_of}
use Rattle.sheet.specs.Read.{sheet_of}
use Rattle.governing.specs.Governing.{records_in}
use Rattle.bodies.specs.declared.Problem.{Problem}
use Rattle.bodies.specs.declared.pose.Pose.{Pose}
use Rattle.mechanism.specs.declared.Mechanism.{Mechanism}
use Rattle.sheet.specs.declared.Sheet.{Sheet}
use Rattle.std.specs.Result.{result_unwrap_or}
use Rattle.governing.specs.declared.RowEntries.{RowEntries}
use Rattle.row_records.specs.Records.{bearing_record, records_of}
use Rattle.row_exports.specs.declared.BearingNumbers.{BearingNumbers}
use Rattle.mechanism.specs.declared.bearing.Bearing.{Bearing}

-- how it bears
abbrev pub how_number : HowItBears → ℕ
how_number Flat = 1
how_number StopEdge = 2
how_number KeyCorner = 3

-- how it bears, 0 where it does not; the gap, the point and the slope
abbrev pub bearing_numbers : Option Bearing → Float → BearingNumbers
bearing_numbers (Some b) x = record { how = how_number b.how; value = b.gap ∷ b.point.x ∷ b.point.y ∷ unwrap_or b.slope x ∷ [] }
bearing_numbers None x = record { how = 0; value = zero_f ∷ zero_f ∷ zero_f ∷ zero_f ∷ [] }

-- the bearing by the first 64 records, at the pose of the sheet that a text says, or the first refusal
abbrev pub posed_bearing : Mechanism → List Row → ℕ → Result Pose Problem → Result (Option Bearing) Problem
posed_bearing m rows p (Ok q) = bearing_record m q rows p
posed_bearing m rows p (Err x) = Err x

abbrev pub sheet_bearing : List Row → ℕ → Result Sheet Problem → Result (Option Bearing) Problem
sheet_bearing rows p (Ok s) = posed_bearing s.mechanism rows p (pose_of s.mechanism s.entries)
sheet_bearing rows p (Err x) = Err x

unfoldable pub bearing_found : List ℕ → List (List ℕ) → List (List Float) → ℕ → Result (Option Bearing) Problem
bearing_found text places values p = sheet_bearing (records_of places values (records_in 64 (length places) (length values))) p (sheet_of text)

-- as numbers; none where the text or its pose is refused
unfoldable pub bearing_by : List ℕ → List (List ℕ) → List (List Float) → ℕ → Float → BearingNumbers
bearing_by text places values p x = bearing_numbers (result_unwrap_or (bearing_found text places values p) None) x

-- the number of the refusal, 0 where there is none
abbrev pub refused_by : Result RowEntries Problem → ℕ
refused_by (Ok a) = 0
refused_by (Err p) = number_of p

-- sixteen entries in the place of what was there, which stays on refusal
abbrev pub entries_over : List Float → Result RowEntries Problem → List Float
entries_over out (Ok a) = a.entry
entries_over out (Err p) = out

-- where the two surfaces are
abbrev pub surfaces_of : Row → List Float
surfaces_of r = (on_a (proximity_of r)).x ∷ (on_a (proximity_of r)).y ∷ (on_b (proximity_of r)).x ∷ (on_b (proximity_of r)).y ∷ []
