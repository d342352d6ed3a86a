use native.Mathlib.Omega.{arith}
use Rattle.pair_rows.proofs.Along.{summed_start, summed_more, summed_skip, summed_end}
use Rattle.pair_rows.proofs.put_sums.Goals as goal
use Rattle.pair_rows.proofs.put_sums.Goals.{then-c-n, else-c-n}

pub loop-c-init : goal.loop-c-init
loop-c-init g c f reads = summed_start _ _ _ _ _ c.requires.0

pub loop-c-preserved : goal.loop-c-preserved
loop-c-preserved g c f reads = elim c.if-c-n.branch [
  | then-c-n w ↦ rw (w.out-is, reads _ _ _ w.change.ensures) (summed_more (c.loop-c.invariant f reads) _ c.loop-c-test.true c.requires.0 w.if-c-n.true)
  | else-c-n w ↦ rw w.out-is (summed_skip (c.loop-c.invariant f reads) _ c.loop-c-test.true c.requires.0 w.if-c-n.false)
]

pub returns : goal.returns
returns g c f reads = summed_end (c.loop-c.invariant f reads) (omega arith)
