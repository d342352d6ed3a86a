use Rattle.mechanism.specs.Rows.{lists_of}
use Rattle.reading_lines.specs.Readings.{pair_lines_in}
use Rattle.reading_lines.proofs.WholeLaws.{Parts}
use Rattle.reading_lines.proofs.whole.all_lines.Given as goal

abbrev pub invariant-loop-i : goal.invariant-loop-i
invariant-loop-i l = Parts (pair_lines_in l.coords (lists_of l.rows) l.r) l.r.pairs l.initial.out 0 l.out l.k l.i
