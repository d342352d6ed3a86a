use native.Mathlib.Omega.{arith}
use mathlib.Core.Path.{refl, subst}
use mathlib.Core.Logic.{inl}
use mathlib.Core.List.{List}
use Rattle.geometry.specs.declared.Point.{Point}
use Rattle.material.specs.Material.{poly_at, edges_of, Serves, least_in}
use Rattle.material.proofs.Serves.{of_polygon, polygon_keeps, comes-on, comes-done}
use Rattle.material.proofs.DrawnMaterial.least.Goals as goal

pub loop-i-init : goal.loop-i-init
loop-i-init c = (c.requires, inl refl)

pub least_of-best-requires : goal.least_of-best-requires
least_of-best-requires c = c.loop-i.invariant.0

pub loop-i-preserved : goal.loop-i-preserved
loop-i-preserved c =
    let l = c.loop-i in
    let s = c.args in
    let m = s.self.now in
    let e = subst (λ (x : List Point). Serves s.enough c.least_of-best.result (least_in s.p l.best (edges_of x))) c.polygon.ensures c.least_of-best.ensures.0 in (
      c.least_of-best.ensures.1,
      comes-on (of_polygon s.p) s.enough (polygon_keeps s.p s.enough) (poly_at m.points.now m.starts.now) s.to l.i (omega arith) l.invariant.1 e,
    )

pub returns : goal.returns
returns c =
    let l = c.loop-i in
    let s = c.args in
    let m = s.self.now in
    (comes-done (of_polygon s.p) s.enough (polygon_keeps s.p s.enough) (poly_at m.points.now m.starts.now) s.to l.i (omega arith) l.invariant.1, l.invariant.0)
