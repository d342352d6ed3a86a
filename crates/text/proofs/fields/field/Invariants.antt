use Rattle.text.proofs.FieldLaws.{Passing}
use Rattle.text.proofs.fields.field.Given as goal

abbrev pub invariant-loop-i : goal.invariant-loop-i
invariant-loop-i l = Passing l.line l.j l.at l.i
