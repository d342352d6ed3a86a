use native.Mathlib.Omega.{arith}
use mathlib.Core.Path.{sym, ◌∙◌}
use Rattle.mechanism.specs.Segments.{outlines_in}
use Rattle.sides.proofs.Accepted.{are_drawn}
use Rattle.overlap.proofs.Answers.{pair-drawn-is, pair-not_drawn}
use Rattle.drawing.proofs.Laid.{counted-few}
use Rattle.overlap.proofs.overlap_over.Goals as goal

pub invariant_of-s : goal.invariant_of-s
invariant_of-s c =
    let ps = c.args.ps.now in
    let few = (are_drawn ps c.args.p (sym c.pair_drawn.ensures ∙ c.if-pair_drawn.true)).0 in
    let k = counted-few ps few in
    let x = c.requires.0 in
    record { begun = c.part_starts.ensures; few = few; there = omega (arith, k, x) }

pub overlap_of_drawn-requires : goal.overlap_of_drawn-requires
overlap_of_drawn-requires c =
    let s = c in
    let drawn = sym c.pair_drawn.ensures ∙ c.if-pair_drawn.true in
    let k = counted-few s.args.ps.now (are_drawn s.args.ps.now s.args.p drawn).0 in
    let y = s.requires.1 in
    let z = s.requires.2 in
    (drawn, omega (arith, k, y), omega (arith, k, z))

pub returns-then-pair_drawn : goal.returns-then-pair_drawn
returns-then-pair_drawn c = let s = c in pair-drawn-is s.args.ps.now (outlines_in s.args.segs.now) s.args.q s.args.p c.pair_drawn.ensures c.if-pair_drawn.true c.overlap_of_drawn.ensures

pub returns : goal.returns
returns c = let s = c in pair-not_drawn s.args.ps.now (outlines_in s.args.segs.now) s.args.q s.args.p c.pair_drawn.ensures c.if-pair_drawn.false
