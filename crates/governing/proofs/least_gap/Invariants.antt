use Rattle.governing.proofs.Gaps.{Compared}
use Rattle.governing.proofs.least_gap.Given as goal

abbrev pub invariant-loop-k : goal.invariant-loop-k
invariant-loop-k l = Compared l.numbers l.gaps l.k-end l.initial.b l.b l.k
