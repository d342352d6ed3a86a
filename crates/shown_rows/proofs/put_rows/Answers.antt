use native.Mathlib.Omega.{arith}
use mathlib.Core.Path.{refl, sym}
use lib.Seq.{length-take-le}
use Rattle.mechanism.proofs.Checks.{accepted-few}
use Rattle.sides.specs.Contacts.{mechanism_bound}
use Rattle.shown_rows.specs.Rows.{rows_of, grads_of, slips_of}
use Rattle.shown_rows.proofs.AllPairs.{pairs_start, pairs-room, pairs_end}
use Rattle.shown_rows.proofs.Bound.{bounds-part, rows-small}
use Rattle.shown_rows.proofs.OfPair.{there-long, there-few, there-put, next-pair}
use Rattle.pair_rows.proofs.Behind.{still_same, same_still}
use Rattle.shown_rows.proofs.put_rows.Goals as goal

pub loop-i-init : goal.loop-i-init
loop-i-init c = (refl, pairs_start _ _ _ _ _ _ _, same_still)

pub offset_bounds-m-i : goal.offset_bounds-m-i
offset_bounds-m-i c = let f = (accepted-few c.args.m c.requires.0).pairs.count in omega arith

pub bounds-m-i : goal.bounds-m-i
bounds-m-i c = let f = (accepted-few c.args.m c.requires.0).pairs.count in omega arith

pub slice_bounds-candidates-end : goal.slice_bounds-candidates-end
slice_bounds-candidates-end c = there-few c.args.m c.requires.0 c.loop-i.i (omega arith) c.args.q c.loop-i.invariant.0 c.pair_candidates-n.ensures

pub slice_bounds-put_shown-end : goal.slice_bounds-put_shown-end
slice_bounds-put_shown-end c = sym (length-take-le _ _ (there-few c.args.m c.requires.0 c.loop-i.i (omega arith) c.args.q c.loop-i.invariant.0 c.pair_candidates-n.ensures))

pub loop-i-preserved : goal.loop-i-preserved
loop-i-preserved c =
    let m = c.args.m in
    let l = c.loop-i in
    let w = c.pair_candidates-n.ensures in (
      there-long m c.requires.0 l.i (omega arith) c.args.q l.invariant.0 w,
      next-pair m c.args.q c.args.margin (omega arith) l.invariant.1
          (there-put m c.requires.0 l.i (omega arith) c.args.q l.invariant.0 w c.args.margin c.body_of_side.ensures c.body_of_side-in-loop-i.ensures
          (rows-small m c.requires.0 l.i (omega arith) l.invariant.1.upto)
          (pairs-room l.invariant.1 (mechanism_bound m) _ c.requires.1 (bounds-part m l.i (omega arith)) (omega arith))
          c.put_shown-at.ensures.written),
      still_same l.invariant.2 c.put_shown-at.ensures.same,
    )

pub returns : goal.returns
unfolding rows_of grads_of slips_of
returns c = record { written = pairs_end c.loop-i.invariant.1 (omega arith); same = c.loop-i.invariant.2 }
