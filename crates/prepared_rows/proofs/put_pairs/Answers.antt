use native.Mathlib.Omega.{arith}
use Prim.Native.Nat.{◌+◌, ◌<◌}
use Rattle.laws.proofs.Sums.{sum_more, sum_mono}
use Rattle.strips.specs.Strips.{table_rows}
use Rattle.candidates.specs.Prepared.{bound_in}
use Rattle.prepared_rows.specs.Prepared.{bounds_in}
use Rattle.shown_rows.proofs.AllPairs.{pairs_start, pairs-room, pairs-more, pairs_end}
use Rattle.prepared_rows.proofs.FromRows.{rows_few, grads-long, slips-long}
use Rattle.pair_rows.proofs.Behind.{still_same, same_still}
use Rattle.prepared_rows.proofs.put_pairs.Goals as goal

pub loop-pair-init : goal.loop-pair-init
loop-pair-init c = (pairs_start _ _ _ _ _ _ _, same_still)

pub put_pair-at-requires : goal.put_pair-at-requires
put_pair-at-requires c =
    let t = table_rows c.args.asked.now.tables.now in
    let h : c.loop-pair.pair < c.args.n = omega arith in
    let k = sum_more (bound_in t) c.loop-pair.pair in
    let m = sum_mono (bound_in t) (c.loop-pair.pair + 1) c.args.n (omega (arith, h)) in
    let u = c.loop-pair.invariant.0.upto in
    let p = c.requires.2 in
    (c.requires.0, omega (arith, k, m, u, p), pairs-room c.loop-pair.invariant.0 (bounds_in t c.args.n) _ c.requires.3 (omega (arith, k, m)) (omega arith))

pub loop-pair-preserved : goal.loop-pair-preserved
loop-pair-preserved c =
    let k = c.args.asked.now in
    let t = table_rows k.tables.now in
    let b = k.bodies.now in
    let i = c.loop-pair.pair in
    let more = pairs-more c.loop-pair.invariant.0 (omega arith) (rows_few t k.q i b k.margin) (grads-long t k.q i b k.margin) (slips-long t k.q i b k.margin) c.put_pair-at.ensures.written in
    (more, still_same c.loop-pair.invariant.1 c.put_pair-at.ensures.same)

pub returns : goal.returns
returns c = record { written = pairs_end c.loop-pair.invariant.0 (omega arith); same = c.loop-pair.invariant.1 }
