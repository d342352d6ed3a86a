use native.Mathlib.Omega.{arith}
use mathlib.Core.Path.{◌≡◌, refl, ap, ◌∙◌}
use Rattle.laws.specs.Loops.{fold_in}
use Rattle.laws.proofs.Sums.{sum_more}
use Rattle.mechanism.specs.Description.{sum_in}
use Rattle.strips.specs.Strips.{table_rows}
use Rattle.candidates.specs.Prepared.{bound_in}
use Rattle.prepared_rows.proofs.bounds_in.Goals as goal

pub loop-i-init : goal.loop-i-init
unfolding fold_in
loop-i-init c = (refl, omega arith)

pub overflow_add-sum : goal.overflow_add-sum
overflow_add-sum c =
    let v = c.loop-i.invariant in
    let e = c.pair_bound_in-sum.ensures in
    let p = c.requires in
    omega (arith, v.1, e.1, p)

pub loop-i-preserved : goal.loop-i-preserved
loop-i-preserved c =
    let v = c.loop-i.invariant in
    let e = c.pair_bound_in-sum.ensures in
    let s = sum_more (bound_in (table_rows c.args.t.now)) c.loop-i.i in
    (omega (arith, v.0, e.0, s), omega (arith, v.1, e.1))

pub returns : goal.returns
returns c =
    let v = c.loop-i.invariant in
    let n : c.loop-i.i ≡ c.args.n = omega arith in
    (v.0 ∙ ap (λ k. sum_in (bound_in (table_rows c.args.t.now)) k 0) n, omega (arith, v.1, c.requires))
