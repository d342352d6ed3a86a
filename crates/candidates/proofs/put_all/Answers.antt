use native.Mathlib.Omega.{arith}
use Prim.Native.Nat.{◌*◌, ◌≤◌}
use native.Mathlib.Nat.{mul-le-mul}
use lib.ListN.{length}
use Rattle.std.proofs.Common.{rules}
use Rattle.laws.specs.Lists.{flat}
use Rattle.proximities.proofs.Wrote.{one_more, wrote_start, wrote_end}
use Rattle.candidates.proofs.Listing.{next_few, turn}
use Rattle.candidates.proofs.put_all.Goals as goal

pub loop-x-init : goal.loop-x-init
loop-x-init g c = (omega arith, λ f h. wrote_start (λ x. flat (f x) c.args.right.now) c.args.left.now _ _)

pub put_each-to-requires-clause-room : goal.put_each-to-requires-clause-room
put_each-to-requires-clause-room g c =
    let s = c.args in
    let few = c.loop-x.invariant.0 in
    let long = c.loop-x.auto.out in
    let room = c.requires.room in
    let more = one_more c.loop-x.x-index (length s.left.now) (length s.right.now) c.loop-x-test.true in
    omega (arith, few, long, room, more)

pub loop-x-preserved : goal.loop-x-preserved
loop-x-preserved g c =
    let s = c.args in
    let x = c.x-item in
    let w = c.loop-x.invariant in
    let few = next_few c.loop-x.x-index (length s.right.now) s.at c.loop-x.to c.put_each-to.result w.0 c.put_each-to.ensures.few in
    let one = c.put_each-to.ensures.written in
    (few, λ f h. turn (λ z. flat (f z) s.right.now) s.left.now {after = c.put_each-to.new.out} x.result (w.1 f h) c.loop-x-test.true x.is (one (f x.result) (λ y r p. search rules)))

pub returns-clause-few : goal.returns-clause-few
returns-clause-few g c =
    let n = length c.args.right.now in
    let w = c.loop-x.invariant.0 in
    let same : n ≤ n = omega arith in
    let m : c.loop-x.x-index * n ≤ length c.args.left.now * n = mul-le-mul c.loop-x.auto.x-index-end same in
    omega (arith, w, m)

pub returns-clause-written : goal.returns-clause-written
returns-clause-written g c = λ f h. wrote_end (c.loop-x.invariant.1 f h) c.loop-x-test.false
