use native.Mathlib.Omega.{arith}
use mathlib.Core.Path.{refl, sym, ap, ◌∙◌}
use Rattle.laws.proofs.Lists.{any-yes, any-no, any-done}
use Rattle.material.specs.Material.{inside_of, poly_at}
use Rattle.material.proofs.DrawnMaterial.any_inside.Goals as goal

pub loop-i-init : goal.loop-i-init
loop-i-init c = refl

pub returns-then-inside : goal.returns-then-inside
returns-then-inside c =
    let l = c.loop-i in
    let m = c.args.self.now in
    let p = c.args.p in
    let e = sym (c.inside.ensures ∙ ap (inside_of p) c.polygon.ensures) ∙ c.if-inside.true in
    sym (any-yes (inside_of p) (poly_at m.points.now m.starts.now) c.args.to l.i (omega arith) e) ∙ l.invariant

pub loop-i-preserved : goal.loop-i-preserved
loop-i-preserved c =
    let l = c.loop-i in
    let m = c.args.self.now in
    let p = c.args.p in
    let e = sym (c.inside.ensures ∙ ap (inside_of p) c.polygon.ensures) ∙ c.if-inside.false in
    sym (any-no (inside_of p) (poly_at m.points.now m.starts.now) c.args.to l.i (omega arith) e) ∙ l.invariant

pub returns : goal.returns
returns c =
    let m = c.args.self.now in
    sym (any-done (inside_of c.args.p) (poly_at m.points.now m.starts.now) c.args.to c.loop-i.i (omega arith)) ∙ c.loop-i.invariant
