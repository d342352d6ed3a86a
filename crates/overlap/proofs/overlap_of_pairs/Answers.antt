use mathlib.Core.Path.{refl}
use lib.ListN.{replicate}
use Rattle.ieee.specs.Consts.{zero_f}
use Rattle.overlap.proofs.Same.{put-asks, pairs-put}
use Rattle.overlap.proofs.overlap_of_pairs.Goals as goal

pub deepest_pair-requires : goal.deepest_pair-requires
deepest_pair-requires c =
    let s = c.args.m.now in
    let k = c.segs_counted.ensures in
    let a = put-asks s.parts s.outlines (replicate 384 (replicate 8 zero_f)) 384 refl k k.1 c.put_segs.ensures in
    (a.0, a.1, a.2, c.requires.0)

pub returns : goal.returns
returns c =
    let s = c.args.m.now in
    let k = c.segs_counted.ensures in
    pairs-put s.parts s.outlines (replicate 384 (replicate 8 zero_f)) c.requires.1 k k.1 c.put_segs.ensures c.args.q s.pairs c.deepest_pair.ensures
