use Prim.Native.Nat.{ℕ, ◌+◌, ◌<◌, ◌≤◌}
use native.Mathlib.Omega.{arith}
use mathlib.Core.Path.{◌≡◌, ap, ap₂, ◌∙◌}
use mathlib.Core.List.{List}
use lib.ListN.{length}
use lib.Seq.{sets}
use lib.Ieee.{Float}
use Rattle.bodies.specs.declared.pose.Pose.{Pose}
use Rattle.mechanism.specs.declared.Mechanism.{Mechanism}
use Rattle.mechanism.specs.declared.rows.Row.{Row}
use Rattle.record_rows.specs.Records.{records_checked}
use Rattle.record_rows.specs.Steps.{held_in, PairRoom, PairRead}
use Rattle.record_rows.specs.declared.PairRecords.{PairRecords}
use Rattle.record_rows.proofs.First.{ats, outs, grads, slips, asks_pair, asks_put, then_at, then-out, then-grad, then-slip, outs-none, grads-none, slips-none, ats-none}
use Rattle.std.proofs.Common.{Ok}
use Rattle.record_rows.proofs.put_pairs.Goals as goal

-- a turn of the loop, at what the arrays hold then
module _ (m : Mechanism) (q : Pose) (margin : Float) (out : List Row) (grad slip : List Float)
    (e : records_checked m q (length out) (length grad) (length slip) ≡ Ok tt) (i : ℕ) (h : i < m.pairs.count) {at : ℕ} {o : List Row} {g s : List Float}
    (a : at ≡ ats m q margin i) (b : o ≡ outs m q margin out grad slip i) (c : g ≡ grads m q margin out grad slip i) (d : s ≡ slips m q margin out grad slip i) where
  pair_room : PairRoom m i at (length g) (length s)
  pair_room = rw (a, c, d) (asks_pair m q margin out grad slip e i h)

  module _ {r : PairRecords} {gs ss : List Float} (read : PairRead m q margin i at r g gs s ss) where
    read_at : PairRead m q margin i (ats m q margin i) r (grads m q margin out grad slip i) gs (slips m q margin out grad slip i) ss
    read_at = rw (a, c, d) at read

    put_room : (r.count ≤ 784) × (at + r.count ≤ length o)
    put_room = rw (a, b) (asks_put m q margin out grad slip e i h read_at)

    next_at : {k : ℕ} → k ≡ at + r.count → k ≡ ats m q margin (i + 1)
    next_at z = then_at m q margin out grad slip e i h read_at (z ∙ ap (λ (j : ℕ). j + r.count) a)

    next_out : {zs : List Row} → zs ≡ sets o at (held_in r) → zs ≡ outs m q margin out grad slip (i + 1)
    next_out z = then-out m q margin out grad slip e i h read_at (z ∙ ap₂ (λ (l : List Row) (j : ℕ). sets l j (held_in r)) b a)

    next_grad : gs ≡ grads m q margin out grad slip (i + 1)
    next_grad = then-grad m q margin out grad slip e i h read_at

    next_slip : ss ≡ slips m q margin out grad slip (i + 1)
    next_slip = then-slip m q margin out grad slip e i h read_at

pub loop-i-init : goal.loop-i-init
loop-i-init c =
    let s = c.args in (
      ats-none s.m s.q s.margin s.out.now s.grad.now s.slip.now,
      outs-none s.m s.q s.margin s.out.now s.grad.now s.slip.now,
      grads-none s.m s.q s.margin s.out.now s.grad.now s.slip.now,
      slips-none s.m s.q s.margin s.out.now s.grad.now s.slip.now,
    )

pub pair_records-p-requires : goal.pair_records-p-requires
pair_records-p-requires c =
    let s = c.args in
    let l = c.loop-i in
    pair_room s.m s.q s.margin s.out.now s.grad.now s.slip.now c.requires l.i (omega arith) l.invariant.0 l.invariant.1 l.invariant.2 l.invariant.3

pub put_records-at-requires : goal.put_records-at-requires
put_records-at-requires c =
    let s = c.args in
    let l = c.loop-i in
    put_room s.m s.q s.margin s.out.now s.grad.now s.slip.now c.requires l.i (omega arith) l.invariant.0 l.invariant.1 l.invariant.2 l.invariant.3 c.pair_records-p.ensures

pub loop-i-preserved : goal.loop-i-preserved
loop-i-preserved c =
    let s = c.args in
    let l = c.loop-i in
    let r = c.pair_records-p.ensures in (
      next_at s.m s.q s.margin s.out.now s.grad.now s.slip.now c.requires l.i (omega arith) l.invariant.0 l.invariant.1 l.invariant.2 l.invariant.3 r c.put_records-at.ensures.0,
      next_out s.m s.q s.margin s.out.now s.grad.now s.slip.now c.requires l.i (omega arith) l.invariant.0 l.invariant.1 l.invariant.2 l.invariant.3 r c.put_records-at.ensures.1,
      next_grad s.m s.q s.margin s.out.now s.grad.now s.slip.now c.requires l.i (omega arith) l.invariant.0 l.invariant.1 l.invariant.2 l.invariant.3 r,
      next_slip s.m s.q s.margin s.out.now s.grad.now s.slip.now c.requires l.i (omega arith) l.invariant.0 l.invariant.1 l.invariant.2 l.invariant.3 r,
    )

pub returns : goal.returns
returns c =
    let l = c.loop-i in
    let k : l.i ≡ c.args.m.pairs.count = omega arith in
    rw (← k) (l.invariant.0, l.invariant.1, l.invariant.2, l.invariant.3)
