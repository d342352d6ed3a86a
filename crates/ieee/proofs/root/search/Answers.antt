use Prim.Native.Nat.{◌+◌, ◌-◌, ◌/◌}
use native.Mathlib.Omega.{arith}
use lib.Dec.{lit<, lit≤}
use Rattle.ieee.proofs.Steps.{is-over, not_over, settled, first-low, first-high}
use Rattle.ieee.proofs.root.search.Goals as goal

pub loop-lo-init : goal.loop-lo-init
loop-lo-init c = (lit< tt, lit≤ tt, first-low c.args.m c.requires, first-high c.args.m c.requires)

pub loop-lo-preserved-then-over : goal.loop-lo-preserved-then-over
loop-lo-preserved-then-over c =
    let l = c.loop-lo in
    let m = c.args.m in
    (omega arith, omega arith, l.invariant.2, is-over m (l.lo + (l.hi - l.lo) / 2) c.over.ensures c.if-over.true)

pub loop-lo-preserved : goal.loop-lo-preserved
loop-lo-preserved c =
    let l = c.loop-lo in
    let m = c.args.m in
    (omega arith, l.invariant.1, not_over m (l.lo + (l.hi - l.lo) / 2) c.over.ensures c.if-over.false, l.invariant.3)

pub returns : goal.returns
returns c =
    let l = c.loop-lo in
    settled c.args.m l.lo l.hi (omega arith) (omega arith) l.invariant.2 l.invariant.3
