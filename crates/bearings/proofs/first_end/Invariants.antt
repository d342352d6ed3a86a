use mathlib.Core.Path.{◌≡◌}
use lib.ListN.{drop}
use Rattle.sides.specs.Features.{discs_in}
use Rattle.bearings.specs.Bearing.{ends_of, first_of}
use Rattle.bearings.proofs.first_end.Given as goal

abbrev pub invariant-loop-i : goal.invariant-loop-i
invariant-loop-i g l = let xs = discs_in (g.S.Side.features l.s) in first_of (ends_of l.piece (drop l.i xs)) ≡ first_of (ends_of l.piece xs)
