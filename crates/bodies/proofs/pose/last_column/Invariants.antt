use mathlib.Core.Path.{◌≡◌}
use lib.ListN.{take, drop}
use Rattle.bodies.specs.Pose.{no_move, last_column}
use Rattle.bodies.proofs.pose.last_column.Given as goal

abbrev pub invariant-loop-i : goal.invariant-loop-i
invariant-loop-i l = last_column l.coord l.found (drop l.i (take l.k.count l.k.column)) ≡ last_column l.coord no_move (take l.k.count l.k.column)
