use Rattle.strips.specs.Strips.{face_row}
use Rattle.tables.proofs.Written.{RowsPut}
use Rattle.tables.proofs.put_faces.Given as goal

abbrev pub invariant-loop-i : goal.invariant-loop-i
invariant-loop-i l = RowsPut 12 (λ p. face_row p.face) l.s.face l.initial.out l.at l.out l.i
