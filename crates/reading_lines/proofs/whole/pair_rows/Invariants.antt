use mathlib.Core.List.{[]}
use mathlib.Core.Bool.{cond}
use lib.Dec.{eqb}
use Rattle.mechanism.specs.Rows.{lists_of, pair_in}
use Rattle.reading_lines.specs.Readings.{row_lines_in}
use Rattle.reading_lines.proofs.WholeLaws.{Parts}
use Rattle.reading_lines.proofs.whole.pair_rows.Given as goal

abbrev pub invariant-loop-j : goal.invariant-loop-j
invariant-loop-j l = Parts (λ r. cond (eqb (pair_in (lists_of l.rows).places r) l.i) (row_lines_in l.coords (lists_of l.rows) r) []) l.n l.initial.out l.at l.out l.k l.j
