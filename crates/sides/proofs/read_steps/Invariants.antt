use Rattle.laws.specs.Loops.{join_in}
use Rattle.sides.specs.Features as F
use Rattle.sides.proofs.Few.{step_faces}
use Rattle.sides.proofs.read_steps.Given as goal

abbrev pub invariant-loop-i : goal.invariant-loop-i
invariant-loop-i l = F.Grown l.initial.g l.g (join_in (step_faces (F.run_of l.t)) l.i 0) (join_in (F.step_discs (F.run_of l.t) l.first) l.i 0)
