use Prim.Native.Nat.{◌-◌}
use mathlib.Core.Path.{◌≡◌}
use mathlib.Core.Bool.{false}
use lib.ListN.{length}
use Rattle.laws.specs.Lists.{list_in, foldl}
use Rattle.material.specs.Material.{turned_by}
use Rattle.material.proofs.Parts.{row_edge}
use Rattle.material.proofs.inside.Given as goal

abbrev pub invariant-loop-i : goal.invariant-loop-i
invariant-loop-i l = foldl (turned_by l.p) l.odd (list_in (row_edge l.poly) (length l.poly - l.i) l.i) ≡ foldl (turned_by l.p) false (list_in (row_edge l.poly) (length l.poly) 0)
