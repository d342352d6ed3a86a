use mathlib.Core.Path.{refl, ◌∙◌}
use native.Mathlib.Nat.{le_refl}
use native.Mathlib.Omega.{arith}
use Rattle.ieee.proofs.Steps.{room, quarter}
use Rattle.ieee.proofs.root.normalized.Goals as goal

pub loop-n-init : goal.loop-n-init
loop-n-init c = (refl, c.requires.0, c.requires.1, le_refl c.args.j)

pub overflow_sub-k : goal.overflow_sub-k
overflow_sub-k c = room c.args.m c.args.j c.loop-n.n c.loop-n.k c.loop-n.invariant.0 c.requires.0 c.requires.2 c.loop-n.invariant.2

pub loop-n-preserved : goal.loop-n-preserved
loop-n-preserved c =
    let l = c.loop-n in
    (quarter l.n l.k (room c.args.m c.args.j c.loop-n.n c.loop-n.k c.loop-n.invariant.0 c.requires.0 c.requires.2 c.loop-n.invariant.2) ∙ l.invariant.0, omega arith, omega arith, omega arith)

pub returns : goal.returns
returns c =
    let l = c.loop-n in
    record { same = l.invariant.0; range = record { from = c.loop-n-test.false; to = l.invariant.2 }; pos = room c.args.m c.args.j c.loop-n.n c.loop-n.k c.loop-n.invariant.0 c.requires.0 c.requires.2 c.loop-n.invariant.2; less = l.invariant.3 }
