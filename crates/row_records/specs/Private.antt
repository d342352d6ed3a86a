-- Words of the contracts of private functions alone: the record found, and the bearing by it. Definitions only.
use Rattle.std.specs.Prelude.{ℕ, true, cond, List, ltb, Option, None, option_map, option_and_then, Result}
use Rattle.mechanism.specs.Check.{call_checked}
use Rattle.mechanism.specs.Description.{pair_at as pair_of}
use Rattle.bodies.specs.Pose.{pose_fits}
use Rattle.mechanism.specs.declared.Mechanism.{Mechanism}
use Rattle.bodies.specs.declared.pose.Pose.{Pose}
use Rattle.mechanism.specs.declared.rows.Row.{Row}
use Rattle.sides.specs.Contacts.{pair_features}
use Rattle.sides.specs.declared.contacts.PairFeatures.{PairFeatures}
use Rattle.bearings.specs.Bearing.{bearing_of, bearing_if}
use Rattle.bodies.specs.declared.Problem.{Problem}
use Rattle.governing.specs.Governing.{governing_of}
use Rattle.row_records.specs.declared.Found.{Found}
use Rattle.row_records.specs.Records.{record_at, pair_at, gap_at}
use Rattle.mechanism.specs.declared.bearing.Bearing.{Bearing}

-- ---- the governing record of the first n, with its number
abbrev pub found_at : List Row → Option ℕ → Option Found
found_at rows found = option_map (λ (i : ℕ). record { at = i; row = record_at rows i }) found

unfoldable pub found_of : List Row → ℕ → ℕ → Option Found
found_of rows p n = found_at rows (governing_of (pair_at rows) (gap_at rows) n p)

-- ---- the bearing by it
abbrev pub bearing_at : PairFeatures → Pose → Option Found → Option Bearing
bearing_at f q found = option_and_then (λ (k : Found). bearing_of f q k.row) found

unfoldable pub bearing_found : Mechanism → Pose → Option Found → ℕ → Result (Option Bearing) Problem
bearing_found m q found p =
    bearing_if (call_checked m (pose_fits m.bodies q) true true)
    (cond (ltb p m.pairs.count) (bearing_at (pair_features m.parts m.outlines (pair_of m.pairs p)) q found) None)
