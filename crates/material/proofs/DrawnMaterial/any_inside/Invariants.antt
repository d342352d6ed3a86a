use Prim.Native.Nat.{◌-◌}
use mathlib.Core.Path.{◌≡◌}
use Rattle.laws.specs.Lists.{list_in, any}
use Rattle.material.specs.Material.{inside_of, poly_at}
use Rattle.material.proofs.DrawnMaterial.any_inside.Given as goal

abbrev pub invariant-loop-i : goal.invariant-loop-i
invariant-loop-i l =
    any (inside_of l.p) (list_in (poly_at l.self.points.now l.self.starts.now) (l.to - l.i) l.i)
    ≡ any (inside_of l.p) (list_in (poly_at l.self.points.now l.self.starts.now) (l.to - l.from) l.from)
