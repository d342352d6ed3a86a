use Rattle.text.proofs.FieldLaws.{Digits}
use Rattle.text.proofs.fields.number_of.Given as goal

abbrev pub invariant-loop-b : goal.invariant-loop-b
invariant-loop-b l = Digits l.f l.b-index l.v
