use mathlib.Core.Path.{◌≡◌}
use mathlib.Core.List.{map}
use Rattle.laws.specs.Lists.{list_in}
use Rattle.bodies.specs.Pose.{world_of}
use Rattle.material.specs.Material.{drawn_material, deepest_square}
use Rattle.strips.specs.Strips.{sampled_at, table_rows}
use Rattle.overlap.proofs.Deepest.{squares_from}
use Rattle.overlap.proofs.prepared.sunk_part.Given as goal

abbrev pub invariant-loop-i : goal.invariant-loop-i
invariant-loop-i l =
    squares_from (drawn_material l.m.material) (world_of l.place) (sampled_at (table_rows l.t)) l.first l.n l.d l.i
    ≡ deepest_square (drawn_material l.m.material) l.from (map (world_of l.place) (list_in (sampled_at (table_rows l.t)) l.n l.first))
