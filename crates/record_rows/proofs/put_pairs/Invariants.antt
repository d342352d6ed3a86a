use mathlib.Core.Path.{◌≡◌}
use Rattle.record_rows.proofs.First.{ats, outs, grads, slips}
use Rattle.record_rows.proofs.put_pairs.Given as goal

-- the first i pairs are read
abbrev pub invariant-loop-i : goal.invariant-loop-i
invariant-loop-i l =
    (l.at ≡ ats l.m l.q l.margin l.i)
    × (l.out ≡ outs l.m l.q l.margin l.initial.out l.initial.grad l.initial.slip l.i)
    × (l.grad ≡ grads l.m l.q l.margin l.initial.out l.initial.grad l.initial.slip l.i)
    × (l.slip ≡ slips l.m l.q l.margin l.initial.out l.initial.grad l.initial.slip l.i)
