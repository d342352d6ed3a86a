use native.Mathlib.Omega.{arith}
use Rattle.laws.proofs.Writing.{puts}
use Rattle.sides.proofs.Known.{pairs-long}
use Rattle.sides.proofs.Pairwise.{pairs_start, pairs-turn, pairs_end}
use Rattle.sides.proofs.contacts.all_contacts.Goals as goal

pub loop-i-init : goal.loop-i-init
loop-i-init c = pairs_start c.args.ps c.args.o c.args.pairs c.no_pair_features-all.ensures

pub pair_features-requires : goal.pair_features-requires
pair_features-requires c =
    let p = c.requires in
    let i = c.loop-i.i in
    (p.0, p.2.a i c.loop-i-test.true, p.2.b i c.loop-i-test.true)

pub offset_bounds-all-i : goal.offset_bounds-all-i
offset_bounds-all-i c = let w = c.loop-i.invariant.long in omega arith

pub bounds-all-i : goal.bounds-all-i
bounds-all-i c = let w = c.loop-i.invariant.long in omega arith

pub loop-i-preserved : goal.loop-i-preserved
loop-i-preserved c =
    let s = c in
    let k = pairs-long s.args.pairs _ s.well_formed.1.1.0 in
    puts (pairs-turn s.args.ps s.args.o s.args.pairs c.loop-i.i (omega arith) c.loop-i-test.true c.pair_features.ensures) c.loop-i.invariant

pub returns : goal.returns
returns c =
    let s = c in
    let k = pairs-long s.args.pairs _ s.well_formed.1.1.0 in
    pairs_end s.args.ps s.args.o s.args.pairs c.loop-i.i (omega arith) c.loop-i-test.false c.loop-i.invariant
