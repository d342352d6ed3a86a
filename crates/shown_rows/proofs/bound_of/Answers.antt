use native.Mathlib.Omega.{arith}
use Prim.Native.Nat.{◌+◌}
use mathlib.Core.Path.{◌≡◌, sym, ap, ap₂, ◌∙◌}
use Rattle.laws.proofs.Sums.{sum_more, sum-none}
use Rattle.mechanism.specs.Description.{sum_in}
use Rattle.mechanism.proofs.Checks.{accepted-few}
use Rattle.mechanism.proofs.Drawn.{accepted-pair-drawn}
use Rattle.sides.specs.Contacts.{pair_bound}
use Rattle.shown_rows.proofs.Bound.{bound-small, bounds-part, bounds-all}
use Rattle.shown_rows.proofs.bound_of.Goals as goal

pub loop-i-init : goal.loop-i-init
loop-i-init c = sym (sum-none _ _)

pub offset_bounds-m-i : goal.offset_bounds-m-i
offset_bounds-m-i c = let f = (accepted-few c.args.m c.requires).pairs.count in omega arith

pub bounds-m-i : goal.bounds-m-i
bounds-m-i c = let f = (accepted-few c.args.m c.requires).pairs.count in omega arith

pub pair_bound-sum-requires : goal.pair_bound-sum-requires
pair_bound-sum-requires c = accepted-pair-drawn c.args.m c.requires c.loop-i.i (omega arith)

pub overflow_add-sum : goal.overflow_add-sum
overflow_add-sum c =
    let b = bounds-part c.args.m c.loop-i.i (omega arith) in
    let s = bound-small c.args.m c.requires in
    let e = c.loop-i.invariant in
    let f = c.pair_bound-sum.ensures in
    omega arith

pub loop-i-preserved : goal.loop-i-preserved
loop-i-preserved c = ap₂ (λ x y. x + y) c.loop-i.invariant c.pair_bound-sum.ensures ∙ sym (sum_more (pair_bound c.args.m) c.loop-i.i)

pub returns : goal.returns
returns c =
    let s = bound-small c.args.m c.requires in
    let e : c.loop-i.i ≡ c.args.m.pairs.count = omega arith in
    let r = c.loop-i.invariant ∙ ap (λ k. sum_in (pair_bound c.args.m) k 0) e ∙ bounds-all c.args.m in
    (r, omega arith)
