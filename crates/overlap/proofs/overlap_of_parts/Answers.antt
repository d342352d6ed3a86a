use native.Mathlib.Omega.{arith}
use mathlib.Core.Path.{refl}
use lib.ListN.{replicate}
use Rattle.std.proofs.Common.{rules, tests}
use Rattle.ieee.specs.Consts.{zero_f}
use Rattle.mechanism.specs.Segments.{outlines_in}
use Rattle.drawing.proofs.Laid.{counted-few}
use Rattle.overlap.specs.Overlap.{is_in}
use Rattle.overlap.proofs.Pairwise.{sunk_parts, parts-both}
use Rattle.overlap.proofs.Same.{put-asks, parts-put}
use Rattle.overlap.proofs.overlap_of_parts.Goals as goal

pub invariant_of-s : goal.invariant_of-s
invariant_of-s c =
    let s = c in
    let k = c.segs_counted.ensures in
    let n = counted-few s.args.m.now.parts s.requires.0 in
    let a = put-asks s.args.m.now.parts s.args.m.now.outlines (replicate 384 (replicate 8 zero_f)) 384 refl k k.1 c.put_segs.ensures in
    let x = a.0 in
    record { begun = c.part_starts.ensures; few = s.requires.0; there = omega (arith, n, x) }

pub sunk_between-d-requires : goal.sunk_between-d-requires
sunk_between-d-requires c =
    let s = c in
    let k = c.segs_counted.ensures in
    let n = counted-few s.args.m.now.parts s.requires.0 in
    let a = put-asks s.args.m.now.parts s.args.m.now.outlines (replicate 384 (replicate 8 zero_f)) 384 refl k k.1 c.put_segs.ensures in
    let y = a.1 in
    let z = a.2 in
    (omega (arith, n, y), omega (arith, n, z))

pub returns : goal.returns
returns c =
    let s = c in
    let k = c.segs_counted.ensures in
    let o = outlines_in c.put_segs.new.out in
    let two = c.sunk_between-d.ensures in
    let wa = c.owners_of-wa.ensures (is_in s.args.a.now) (λ i r h k. search (rules, tests)) in
    let wb = c.owners_of-wb.ensures (is_in s.args.b.now) (λ i r h k. search (rules, tests)) in
    parts-put s.args.m.now.parts s.args.m.now.outlines (replicate 384 (replicate 8 zero_f)) s.requires.3 k k.1 c.put_segs.ensures s.args.q s.args.a.now s.args.b.now
    (parts-both s.args.m.now.parts o s.args.q s.args.a.now s.args.b.now c.max.ensures
    (sunk_parts s.args.m.now.parts o s.args.q s.requires.0 s.args.a.now s.args.b.now s.requires.1 s.requires.2 two.0 wa c.owners_chosen-2.ensures wb)
    (sunk_parts s.args.m.now.parts o s.args.q s.requires.0 s.args.b.now s.args.a.now s.requires.2 s.requires.1 two.1 wb c.owners_chosen.ensures wa))
