use Rattle.strips.specs.Strips.{piece_row}
use Rattle.tables.proofs.Written.{RowsPut}
use Rattle.tables.proofs.put_disc_names.Given as goal

abbrev pub invariant-loop-i : goal.invariant-loop-i
invariant-loop-i l = RowsPut 28 (λ p. piece_row p.piece) l.s.disc l.initial.out l.at l.out l.i
