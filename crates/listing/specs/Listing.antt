-- The listing of a sheet text: what the program `readings` prints (document 01, "The sheet text"). Definitions only.
use Rattle.std.specs.Prelude.{ℕ, List, Float, Result, Ok, Err}
use Rattle.mechanism.specs.declared.Mechanism.{Mechanism}
use Rattle.bodies.specs.declared.pose.Pose.{Pose}
use Rattle.sheet.specs.Read.{sheet_of}
use Rattle.sheet.specs.Posed.{pose_of}
use Rattle.sheet.specs.declared.Entries.{Entries}
use Rattle.sheet.specs.declared.Sheet.{Sheet}
use Rattle.reading_lines.specs.Readings.{refusal, read_lines}
use Rattle.bodies.specs.declared.Problem.{Problem}

-- ---- a text
abbrev pub posed_if : Result Pose Problem → Mechanism → Float → List ℕ
posed_if (Ok q) m margin = read_lines m q margin
posed_if (Err p) m margin = refusal p

unfoldable pub posed_lines : Mechanism → Entries → Float → List ℕ
posed_lines m e margin = posed_if (pose_of m e) m margin

abbrev pub sheet_if : Result Sheet Problem → List ℕ
sheet_if (Ok s) = posed_lines s.mechanism s.entries s.margin
sheet_if (Err p) = refusal p

unfoldable pub listing_of : List ℕ → List ℕ
listing_of text = sheet_if (sheet_of text)
