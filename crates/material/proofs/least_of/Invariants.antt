use Prim.Native.Nat.{◌-◌}
use mathlib.Core.Path.{◌≡◌}
use mathlib.Core.Bool.{false}
use lib.ListN.{length}
use lib.Ieee.{is_nan}
use Rattle.laws.specs.Lists.{list_in}
use Rattle.material.specs.Material.{least_in}
use Rattle.material.proofs.Parts.{row_edge}
use Rattle.material.proofs.least_of.Given as goal

abbrev pub invariant-loop-i : goal.invariant-loop-i
invariant-loop-i l =
    (is_nan l.best ≡ false) × (least_in l.p l.best (list_in (row_edge l.poly) (length l.poly - l.i) l.i) ≡ least_in l.p l.from (list_in (row_edge l.poly) (length l.poly) 0))
