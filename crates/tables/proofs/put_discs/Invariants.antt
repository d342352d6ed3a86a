use Rattle.strips.specs.Strips.{disc_row}
use Rattle.tables.proofs.Written.{RowsPut}
use Rattle.tables.proofs.put_discs.Given as goal

abbrev pub invariant-loop-i : goal.invariant-loop-i
invariant-loop-i l = RowsPut 28 (λ p. disc_row p.disc) l.s.disc l.initial.out l.at l.out l.i
