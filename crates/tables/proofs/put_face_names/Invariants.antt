use Rattle.strips.specs.Strips.{piece_row}
use Rattle.tables.proofs.Written.{RowsPut}
use Rattle.tables.proofs.put_face_names.Given as goal

abbrev pub invariant-loop-i : goal.invariant-loop-i
invariant-loop-i l = RowsPut 12 (λ p. piece_row p.piece) l.s.face l.initial.out l.at l.out l.i
