use Prim.Native.Nat.{ℕ}
use mathlib.Core.Path.{◌≡◌, sym, ap, ap₂, subst, ◌∙◌}
use mathlib.Core.Bool.{true}
use mathlib.Core.Logic.{inl}
use native.Mathlib.Nat.{sub-zero}
use lib.Ieee.{Float, is_nan, of_bits}
use Rattle.ieee.specs.Consts.{infinity_f}
use Rattle.laws.specs.Lists.{list_in, foldl}
use Rattle.laws.proofs.Choice.{cond_yes, cond_no}
use Rattle.material.specs.Material.{poly_at, drawn_material, holds_of, square_depth, Serves}
use Rattle.material.proofs.Serves.{of_polygon, polygon_keeps, serves_fold}
use Rattle.material.proofs.Squares.{square-is}
use Rattle.material.proofs.DrawnMaterial.square_depth.Goals as goal

pub least-s-requires : goal.least-s-requires
unfolding is_nan of_bits
least-s-requires c = ap is_nan c.infinity.ensures

pub returns-then-holds : goal.returns-then-holds
unfolding square_depth
returns-then-holds c =
    let s = c.args in
    let d = s.self.now in
    let m = drawn_material d in
    let x = c.least-s.result in
    let a : Serves s.enough x (foldl (of_polygon s.p) infinity_f m.solids) =
    subst (Serves s.enough x) (ap₂ (λ (y : Float) (k : ℕ). foldl (of_polygon s.p) y (list_in (poly_at d.points.now d.starts.now) k 0)) c.infinity.ensures (sub-zero d.solids)) c.least-s.ensures.0 in
    let h : holds_of m s.p ≡ true = sym c.holds.ensures ∙ c.if-holds.true in
    subst (Serves s.enough c.least.result) (sym (square-is m s.p) ∙ sym (cond_yes _ _ h))
    (serves_fold (of_polygon s.p) s.enough (polygon_keeps s.p s.enough) m.cuts a c.least.ensures.0)

pub returns-else-holds : goal.returns-else-holds
unfolding square_depth
returns-else-holds c = inl (sym (cond_no _ _ (sym c.holds.ensures ∙ c.if-holds.false)))
