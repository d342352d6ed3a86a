use Rattle.laws.specs.Loops.{join_in}
use Rattle.sides.specs.Features as F
use Rattle.sides.proofs.read_all.Given as goal

abbrev pub invariant-loop-k : goal.invariant-loop-k
invariant-loop-k l = F.Grown l.initial.f l.f (join_in (F.faces_of_range (F.runs_in l.ts)) l.k 0) (join_in (F.discs_of_range (F.runs_in l.ts)) l.k 0)
