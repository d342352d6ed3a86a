use native.Mathlib.Omega.{arith}
use lib.ListN.{length}
use mathlib.Core.Path.{◌≡◌, ap, ◌∙◌}
use Rattle.mechanism.specs.Rows.{pair_in, gap_in}
use Rattle.governing.specs.Governing.{records_in}
use Rattle.governing.proofs.Gaps.{best_of, best_none, best_takes, best_passes, row_is, gap_is}
use Rattle.governing.proofs.walked.Goals as goal
use Rattle.governing.proofs.walked.Goals.{then-rows-i, else-rows-i}

pub loop-i-init : goal.loop-i-init
loop-i-init c = best_none _ _ _

pub loop-i-preserved : goal.loop-i-preserved
loop-i-preserved c =
    let s = c.args.rows.now in
    elim c.if-rows-i.branch [
      | then-rows-i w ↦ w.best-is ∙ w.lesser_gap-best.ensures ∙ best_takes (pair_in s.places.now) (gap_in s.values.now) c.loop-i.invariant w.if-rows-i.true
      | else-rows-i w ↦ w.best-is ∙ best_passes (pair_in s.places.now) (gap_in s.values.now) c.loop-i.invariant w.if-rows-i.false
    ]

pub returns : goal.returns
returns c =
    let s = c.args.rows.now in
    let n = records_in s.count (length s.places.now) (length s.values.now) in
    let e : c.loop-i.i ≡ n = omega arith in
    let h = c.loop-i.invariant ∙ ap (λ k. best_of (pair_in s.places.now) (gap_in s.values.now) k c.args.pair) e in
    record { row = row_is (pair_in s.places.now) (gap_in s.values.now) n c.args.pair h; gap = gap_is (pair_in s.places.now) (gap_in s.values.now) n c.args.pair h }
