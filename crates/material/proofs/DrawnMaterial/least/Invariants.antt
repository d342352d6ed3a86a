use Prim.Native.Nat.{◌-◌}
use mathlib.Core.Path.{◌≡◌}
use mathlib.Core.Bool.{false}
use lib.Ieee.{is_nan}
use Rattle.laws.specs.Lists.{list_in}
use Rattle.material.specs.Material.{poly_at, least_among}
use Rattle.material.proofs.Serves.{Comes, of_polygon, polygon_keeps}
use Rattle.material.proofs.DrawnMaterial.least.Given as goal

abbrev pub invariant-loop-i : goal.invariant-loop-i
invariant-loop-i l =
    let f = poly_at l.self.points.now l.self.starts.now in
    (is_nan l.best ≡ false) × Comes (of_polygon l.p) l.enough (polygon_keeps l.p l.enough) l.best (list_in f (l.to - l.i) l.i) (least_among l.p l.from (list_in f (l.to - l.first) l.first))
