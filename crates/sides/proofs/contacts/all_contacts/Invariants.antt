use Rattle.sides.proofs.Pairwise.{PairsWritten}
use Rattle.sides.proofs.contacts.all_contacts.Given as goal

abbrev pub invariant-loop-i : goal.invariant-loop-i
invariant-loop-i l = PairsWritten l.ps l.o l.pairs l.all l.i
