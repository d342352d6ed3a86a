use mathlib.Core.Path.{refl}
use lib.ListN.{replicate}
use Rattle.ieee.specs.Consts.{zero_f}
use Rattle.mechanism.proofs.Known.{outlines-long}
use Rattle.overlap.proofs.Same.{put-asks, overlap_put}
use Rattle.overlap.proofs.pair_overlap_at.Goals as goal

pub overlap_over-requires : goal.overlap_over-requires
overlap_over-requires c =
    let s = c in
    let k = c.segs_counted.ensures in
    put-asks s.args.ps s.args.o (replicate 384 (replicate 8 zero_f)) 384 refl k k.1 c.put_segs.ensures

pub returns : goal.returns
returns c =
    let s = c in
    let k = c.segs_counted.ensures in
    overlap_put s.args.ps s.args.o (replicate 384 (replicate 8 zero_f)) (outlines-long s.args.o _ s.well_formed.1.0) k k.1 c.put_segs.ensures s.args.q s.args.p c.overlap_over.ensures
