use native.Mathlib.Omega.{arith}
use Rattle.mechanism.proofs.Checks.{accepted-few}
use Rattle.mechanism.proofs.Drawn.{accepted-pair-drawn}
use Rattle.mechanism.specs.Description.{pair_at}
use Rattle.reading.proofs.OfPairs.{pair_read}
use Rattle.reading.proofs.read_pair.Goals as goal

pub offset_bounds-m-i : goal.offset_bounds-m-i
offset_bounds-m-i c =
    let h = c.requires.1 in
    let few = (accepted-few c.args.m.now c.requires.0).pairs.count in
    omega (arith, h, few)

pub bounds-m-i : goal.bounds-m-i
bounds-m-i c =
    let h = c.requires.1 in
    let few = (accepted-few c.args.m.now c.requires.0).pairs.count in
    omega (arith, h, few)

pub returns : goal.returns
returns c =
    let a = c.args in
    let m = a.m.now in
    pair_read m.parts m.outlines a.q a.rows.now.places.now a.rows.now.values.now (pair_at m.pairs a.i) a.rows.now.count a.i (accepted-pair-drawn m c.requires.0 a.i c.requires.1)
    c.pair_features_at-f.ensures c.pair_overlap_at.ensures c.sides_overlap.ensures c.governed.ensures
