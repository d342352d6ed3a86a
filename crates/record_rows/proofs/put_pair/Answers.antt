use native.Mathlib.Omega.{arith}
use Prim.Native.Nat.{◌≤◌}
use mathlib.Core.Path.{refl, sym}
use lib.Seq.{length-take-le}
use Rattle.mechanism.proofs.Checks.{accepted-few}
use Rattle.shown_rows.proofs.OfPair.{there-few, there-put}
use Rattle.record_rows.proofs.Read.{put-left}
use Rattle.record_rows.proofs.put_pair.Goals as goal

pub offset_bounds-m-i : goal.offset_bounds-m-i
offset_bounds-m-i c =
    let f = (accepted-few c.args.m c.requires.0).pairs.count in
    let h = c.requires.1 in
    omega arith

pub bounds-m-i : goal.bounds-m-i
bounds-m-i c =
    let f = (accepted-few c.args.m c.requires.0).pairs.count in
    let h = c.requires.1 in
    omega arith

pub slice_bounds-candidates-end : goal.slice_bounds-candidates-end
slice_bounds-candidates-end c = there-few c.args.m c.requires.0 c.args.i c.requires.1 c.args.q refl c.pair_candidates-n.ensures

pub slice_bounds-put_shown-end : goal.slice_bounds-put_shown-end
slice_bounds-put_shown-end c = sym (length-take-le _ _ (there-few c.args.m c.requires.0 c.args.i c.requires.1 c.args.q refl c.pair_candidates-n.ensures))

pub returns : goal.returns
returns c =
    let s = c.args in
    let same = c.put_shown.ensures.same in
    put-left
    (there-put s.m c.requires.0 s.i c.requires.1 s.q refl c.pair_candidates-n.ensures s.margin c.body_of_side.ensures c.body_of_side-2.ensures
    (let z : 0 ≤ 12544 = omega arith in z) c.requires.2 c.put_shown.ensures.written)
    (c.places-1.given.1.1 (sym same.places)) (c.values-1.given.1.1 (sym same.values)) (c.grad-1.given.1.1 (sym same.grad)) (c.slip-1.given.1.1 (sym same.slip))
