use Rattle.sides.specs.Features.{discs_in}
use Rattle.bearings.proofs.Ends.{Put}
use Rattle.bearings.proofs.put_ends.Given as goal

abbrev pub invariant-loop-i : goal.invariant-loop-i
invariant-loop-i g l = Put l.piece (discs_in (g.S.Side.features l.s)) l.initial.ends l.ends l.at l.i
