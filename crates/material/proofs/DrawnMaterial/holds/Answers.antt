use Prim.Native.Nat.{ℕ}
use mathlib.Core.Path.{◌≡◌, sym, ap, ◌∙◌}
use mathlib.Core.Bool.{not}
use native.Mathlib.Nat.{sub-zero}
use Rattle.laws.specs.Lists.{list_in, any}
use Rattle.laws.proofs.Choice.{and_yes, and_no}
use Rattle.material.specs.Material.{inside_of, poly_at}
use Rattle.material.proofs.DrawnMaterial.holds.Goals as goal

pub returns-then-any_inside : goal.returns-then-any_inside
returns-then-any_inside c =
    let s = c.args.self.now in
    let e : c.any_inside.result ≡ any (inside_of c.args.p) (list_in (poly_at s.points.now s.starts.now) s.solids 0) =
    c.any_inside.ensures ∙ ap (λ (k : ℕ). any (inside_of c.args.p) (list_in (poly_at s.points.now s.starts.now) k 0)) (sub-zero s.solids) in
    ap not c.any_inside-then-any_inside.ensures ∙ sym (and_yes _ (sym e ∙ c.if-any_inside.true))

pub returns-else-any_inside : goal.returns-else-any_inside
returns-else-any_inside c =
    let s = c.args.self.now in
    let e : c.any_inside.result ≡ any (inside_of c.args.p) (list_in (poly_at s.points.now s.starts.now) s.solids 0) =
    c.any_inside.ensures ∙ ap (λ (k : ℕ). any (inside_of c.args.p) (list_in (poly_at s.points.now s.starts.now) k 0)) (sub-zero s.solids) in
    c.if-any_inside.false ∙ sym (and_no _ (sym e ∙ c.if-any_inside.false))
