use native.Mathlib.Omega.{arith}
use Prim.Native.Nat.{◌<◌}
use lib.ListN.{length}
use Rattle.proximities.proofs.Wrote.{wrote_same, wrote_start, wrote_end}
use Rattle.candidates.proofs.Listing.{put_one, put-few, turn}
use Rattle.candidates.proofs.put_each.Goals as goal

pub loop-x-init : goal.loop-x-init
loop-x-init g c = (omega arith, λ f h. wrote_start f c.args.list.now _ _)

pub loop-x-preserved : goal.loop-x-preserved
loop-x-preserved g c =
    let x = c.x-item in
    let r = c.read-r in
    let w = c.loop-x.invariant in
    let few = w.0 in
    let long = c.loop-x.auto.out in
    let room = c.requires.room in
    let i = c.loop-x-test.true in
    let fits : c.loop-x.to < length c.loop-x.out = omega (arith, few, long, room, i) in
    let more = put-few r.result fits c.put_candidate-to.ensures in
    let one = put_one r.result fits c.put_candidate-to.ensures in
    (omega (arith, few, more), λ f h. turn f c.args.list.now x.result (w.1 f h) i x.is (wrote_same (h x.result r.result r.ensures) one))

pub returns-clause-few : goal.returns-clause-few
returns-clause-few g c = let w = c.loop-x.invariant.0 in let i = c.loop-x.auto.x-index-end in omega (arith, w, i)

pub returns-clause-written : goal.returns-clause-written
returns-clause-written g c = λ f h. wrote_end (c.loop-x.invariant.1 f h) c.loop-x-test.false
