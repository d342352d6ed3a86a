use Rattle.reading_lines.proofs.LineLaws.{Fields}
use Rattle.reading_lines.proofs.lines.float_fields.Given as goal

abbrev pub invariant-loop-x : goal.invariant-loop-x
invariant-loop-x l = Fields l.initial.out l.at l.xs l.out l.k l.x-index
