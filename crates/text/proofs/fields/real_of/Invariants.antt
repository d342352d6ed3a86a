use Rattle.text.proofs.FieldLaws.{Hexes}
use Rattle.text.proofs.fields.real_of.Given as goal

abbrev pub invariant-loop-b : goal.invariant-loop-b
invariant-loop-b l = Hexes l.f l.b-index l.v
