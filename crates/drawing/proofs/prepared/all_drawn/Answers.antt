use native.Mathlib.Omega.{arith}
use mathlib.Core.Path.{◌≡◌, refl, ap, ◌∙◌}
use Rattle.mechanism.specs.Description.{sum_in}
use Rattle.laws.specs.Loops.{fold_in}
use Rattle.laws.proofs.Sums.{sum_more}
use Rattle.strips.specs.Strips.{table_rows}
use Rattle.drawing.specs.Prepared.{drawn_in, parts_in}
use Rattle.drawing.proofs.prepared.all_drawn.Goals as goal

pub loop-i-init : goal.loop-i-init
unfolding fold_in
loop-i-init c = (refl, omega arith)

pub overflow_add-sum : goal.overflow_add-sum
overflow_add-sum c =
    let n = c.part_count-i-end.ensures.1 in
    let v = c.loop-i.invariant.1 in
    let e = c.part-sum.ensures.1.points_few in
    omega arith

pub loop-i-preserved : goal.loop-i-preserved
loop-i-preserved c =
    let v = c.loop-i.invariant in
    let x = c.part-sum.ensures in
    let e = x.1.points_few in
    let f : _ ≡ drawn_in (table_rows c.args.t.now) c.loop-i.i = ap (λ p. p.points) x.0 in
    let s = sum_more (drawn_in (table_rows c.args.t.now)) c.loop-i.i in
    (omega (arith, v.0, f, s), omega (arith, v.1, e))

pub returns : goal.returns
returns c =
    let v = c.loop-i.invariant in
    let m = c.part_count-i-end.ensures in
    let n : c.loop-i.i ≡ parts_in (table_rows c.args.t.now) = omega (arith, m.0) in
    (v.0 ∙ ap (λ k. sum_in (drawn_in (table_rows c.args.t.now)) k 0) n, omega (arith, m.1, v.1))
