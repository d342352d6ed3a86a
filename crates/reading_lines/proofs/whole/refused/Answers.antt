use native.Mathlib.Omega.{arith}
use mathlib.Core.Path.{sym, ap₂}
use Rattle.reading_lines.specs.Lines.{refusal_line}
use Rattle.reading_lines.proofs.LineLaws.{wrote_as}
use Rattle.reading_lines.proofs.WholeLaws.{refusal-room}
use Rattle.reading_lines.proofs.whole.refused.Goals as goal

pub refusal_line-requires : goal.refusal_line-requires
refusal_line-requires c = refusal-room _ _ _ (omega arith)

pub returns : goal.returns
returns c = wrote_as (sym (ap₂ refusal_line c.number.ensures c.place.ensures)) c.refusal_line.ensures
