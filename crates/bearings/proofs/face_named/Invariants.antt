use mathlib.Core.Path.{◌≡◌}
use lib.ListN.{drop}
use Rattle.sides.specs.Features.{faces_in}
use Rattle.bearings.specs.Bearing.{face_named}
use Rattle.bearings.proofs.face_named.Given as goal

abbrev pub invariant-loop-i : goal.invariant-loop-i
invariant-loop-i g l = let xs = faces_in (g.S.Side.features l.s) in face_named l.piece (drop l.i xs) ≡ face_named l.piece xs
