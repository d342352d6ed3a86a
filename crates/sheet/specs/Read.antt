-- What a sheet text says: the description, the margin and the entries of the pose, or document 01's refusals 1 to 11. Definitions only.
use Rattle.std.specs.Prelude.{ℕ, ◌+◌, Bool, true, not, ◌&&◌, cond, List, [], ◌∷◌, ltb, eqb, length, Result, Ok, Err}
use Prim.Native.Char.{code}
use Rattle.std.proofs.lemmas.List.Edits.{sets}
use Rattle.mechanism.specs.declared.part.OutlineSeg.{OutlineSeg}
use Rattle.bodies.specs.declared.Problem.{Problem}
use Rattle.bodies.specs.declared.Problem.TheVariants.{TextTooLong, LineNotRead, LimitPassed, PoseNotMatching}
use Rattle.bodies.specs.Check.{Checked, and_then, refused_if}
use Rattle.mechanism.specs.Check.{check_of}
use Rattle.text.specs.Lists.{fold_of}
use Rattle.text.specs.Pieces.{split, fields_of}
use Rattle.text.specs.Records.{record_of}
use Rattle.text.specs.declared.records.Record.{Record}
use Rattle.sheet.specs.declared.Sheet.{Sheet}
use Rattle.sheet.specs.declared.grammar.Standing.{Standing}
use Rattle.sheet.specs.declared.limits.Tally.{Tally}
use Rattle.sheet.specs.declared.draft.Draft.{Draft}
use Rattle.sheet.specs.Grammar.{kind_of, no_line, after, follows, may_end}
use Rattle.sheet.specs.Limits.{no_tally, counted, within_limits}
use Rattle.sheet.specs.Draft.{no_outlines, no_draft, put, edge_of}

-- ---- lines
-- the records of a text, or the place of the first line that cannot stand where it does
pub data Lines : Type 0 where
  stuck : ℕ → Lines
  whole : List Record → Lines

abbrev pub then : Record → Lines → Lines
then r (stuck n) = stuck n
then r (whole rs) = whole (r ∷ rs)

-- the record that a line is
abbrev pub line_of : List ℕ → Record
line_of l = record_of (fields_of l)

-- The pieces that newlines part, from piece n on. The last piece is no line, and is empty where the text is well formed: its number is the place of a line
-- without its newline, and of a missing M or G.
unfoldable pub lines : Standing → ℕ → List (List ℕ) → Lines
lines s n [] = stuck n
lines s n (l ∷ []) = cond (may_end (length l) s) (whole []) (stuck n)
lines s n (l ∷ (m ∷ ls)) = cond (follows s (line_of l)) (then (line_of l) (lines (after s (line_of l)) (n + 1) (m ∷ ls))) (stuck n)

-- ---- the description of lines
-- no line passes a limit
unfoldable pub all_within : Tally → List Record → Bool
all_within t [] = true
all_within t (r ∷ rs) = within_limits (counted t r) && all_within (counted t r) rs

unfoldable pub drafted : Tally → Draft → List Record → Draft
drafted t d [] = d
drafted t d (r ∷ rs) = drafted (counted t r) (put t d r) rs

-- the segments of the L and A lines, in order
unfoldable pub edges : List Record → List OutlineSeg
edges [] = []
edges (r ∷ rs) = cond (eqb (kind_of r) (code "L")) (edge_of r ∷ edges rs) (edges rs)

-- ---- the sheet
unfoldable pub accepted : Tally → Draft → List OutlineSeg → Sheet
accepted t d l = record {
  mechanism = record {
    bodies = record { coords = t.coords; count = t.bodies; body = d.body };
    parts = record { count = t.parts; part = d.part };
    outlines = record { seg = l };
    pairs = record { count = t.pairs; pair = d.pair };
  };
  margin = d.margin;
  entries = d.entries;
}

-- 2 comes before 3
abbrev pub ended : Bool → ℕ → Bool → Sheet → Result Sheet Problem
ended fit n good s = cond fit (cond good (Ok s) (Err LimitPassed)) (Err (LineNotRead n))

abbrev pub judged : Lines → Result Sheet Problem
judged (stuck n) = Err (LineNotRead n)
judged (whole rs) = cond (all_within no_tally rs) (Ok (accepted (fold_of counted no_tally rs) (drafted no_tally no_draft rs) (sets no_outlines 0 (edges rs)))) (Err LimitPassed)

unfoldable pub sheet_of_lines : List ℕ → Result Sheet Problem
sheet_of_lines text = judged (lines no_line 1 (split (code "\n") text))

-- what a text writes
unfoldable pub written_in : List ℕ → Result Sheet Problem
written_in text = cond (ltb 65536 (length text)) (Err TextTooLong) (sheet_of_lines text)

-- ---- the checks of what is written
-- 11: not one T line for each coordinate
abbrev pub entries_checked : ℕ → ℕ → Checked
entries_checked entries coords = refused_if (not (eqb entries coords)) PoseNotMatching

-- the description's 4 to 10, then 11
unfoldable pub sheet_checked : Sheet → Checked
sheet_checked s = and_then (check_of s.mechanism) (entries_checked s.entries.count s.mechanism.bodies.coords)

abbrev pub kept_if : Checked → Sheet → Result Sheet Problem
kept_if (Ok tt) s = Ok s
kept_if (Err p) s = Err p

-- behind what is written, which 1 to 3 may refuse, the checks of it
abbrev pub kept : Result Sheet Problem → Result Sheet Problem
kept (Ok s) = kept_if (sheet_checked s) s
kept (Err p) = Err p

-- what a text says
unfoldable pub sheet_of : List ℕ → Result Sheet Problem
sheet_of text = kept (written_in text)
