use Prim.Native.Nat.{◌+◌, ◌-◌}
use mathlib.Core.List.{map}
use Rattle.laws.specs.Lists.{list_in}
use Rattle.laws.specs.Loops.{Writing}
use Rattle.bodies.specs.Pose.{world_of}
use Rattle.strips.specs.Strips.{drawn_at, table_rows}
use Rattle.drawing.specs.Drawing.{row_of}
use Rattle.drawing.proofs.prepared.place_points.Given as goal

abbrev pub invariant-loop-i : goal.invariant-loop-i
invariant-loop-i l = Writing l.initial.points l.at (map row_of (map (world_of l.place) (list_in (drawn_at (table_rows l.t)) l.n l.first))) l.points (l.at + l.i)
    (map row_of (map (world_of l.place) (list_in (drawn_at (table_rows l.t)) (l.n - l.i) (l.first + l.i))))
