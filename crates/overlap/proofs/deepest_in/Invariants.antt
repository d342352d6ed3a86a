use Prim.Native.Nat.{◌-◌}
use mathlib.Core.Path.{◌≡◌}
use lib.ListN.{length}
use Rattle.laws.specs.Lists.{list_in}
use Rattle.material.specs.Material.{drawn_material, deepest_square}
use Rattle.material.proofs.Parts.{row_point}
use Rattle.overlap.proofs.deepest_in.Given as goal

abbrev pub invariant-loop-v : goal.invariant-loop-v
invariant-loop-v l =
    let deepest = deepest_square (drawn_material l.m.material) in
    deepest l.d (list_in (row_point l.samples) (length l.samples - l.v-index) l.v-index) ≡ deepest l.from (list_in (row_point l.samples) (length l.samples) 0)
