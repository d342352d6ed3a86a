use Rattle.governing.proofs.Entries.{Copied}
use Rattle.governing.proofs.row_entries.Given as goal

abbrev pub invariant-loop-k : goal.invariant-loop-k
invariant-loop-k l = Copied l.entries l.coords l.at l.entry l.k
