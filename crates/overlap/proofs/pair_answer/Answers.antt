use Rattle.std.proofs.lemmas.Result.{err_from_is_err_and}
use native.Mathlib.Omega.{arith}
use mathlib.Core.Path.{ap, ◌∙◌}
use mathlib.Core.Bool.{true}
use lib.Dec.{ltb}
use Rattle.mechanism.specs.Check.{then_called}
use Rattle.mechanism.specs.Segments.{described}
use Rattle.overlap.proofs.Answers.{pair-refused, pair-there, pair-few, pair-is-drawn, pair-answered}
use Rattle.drawing.proofs.Laid.{counted-few}
use Rattle.overlap.proofs.pair_answer.Goals as goal
use Rattle.bodies.specs.Check.{Checked}

pub pair_at-p-requires : goal.pair_at-p-requires
pair_at-p-requires c =
    let s = c.args in
    let called = c.then_called.ensures ∙ ap (λ (k : Checked). then_called k c.fits.result (ltb s.pair s.m.now.pairs.count) true) c.check_in.ensures in
    pair-there (described s.m.now.bodies s.m.now.parts s.segs.now s.m.now.pairs) s.q c.fits.ensures s.pair called c.in_ok-then_called.was

pub invariant_of-s : goal.invariant_of-s
invariant_of-s c =
    let s = c.args in
    let m = described s.m.now.bodies s.m.now.parts s.segs.now s.m.now.pairs in
    let called = c.then_called.ensures ∙ ap (λ (k : Checked). then_called k c.fits.result (ltb s.pair s.m.now.pairs.count) true) c.check_in.ensures in
    let few = pair-few m s.q c.fits.ensures s.pair called c.in_ok-then_called.was in
    let k = counted-few s.m.now.parts few in
    let x = c.requires.0 in
    record { begun = c.part_starts.ensures; few = few; there = omega (arith, k, x) }

pub overlap_of_drawn-requires : goal.overlap_of_drawn-requires
overlap_of_drawn-requires c =
    let s = c.args in
    let m = described s.m.now.bodies s.m.now.parts s.segs.now s.m.now.pairs in
    let called = c.then_called.ensures ∙ ap (λ (k : Checked). then_called k c.fits.result (ltb s.pair s.m.now.pairs.count) true) c.check_in.ensures in
    let taken = c.in_ok-then_called.was in
    let k = counted-few s.m.now.parts (pair-few m s.q c.fits.ensures s.pair called taken) in
    let y = c.requires.1 in
    let z = c.requires.2 in
    (pair-is-drawn m s.q c.fits.ensures s.pair called taken c.pair_at-p.ensures, omega (arith, k, y), omega (arith, k, z))

pub returns-in_err-then_called : goal.returns-in_err-then_called
returns-in_err-then_called c =
    let s = c.args in
    let called = c.then_called.ensures ∙ ap (λ (k : Checked). then_called k c.fits.result (ltb s.pair s.m.now.pairs.count) true) c.check_in.ensures in
    let p = err_from_is_err_and c.from_residual.result c.from_residual.ensures.1 in
    rw (p.1, p.2) (pair-refused (described s.m.now.bodies s.m.now.parts s.segs.now s.m.now.pairs) s.q c.fits.ensures s.pair called c.in_err-then_called.was)

pub returns : goal.returns
returns c =
    let s = c.args in
    let called = c.then_called.ensures ∙ ap (λ (k : Checked). then_called k c.fits.result (ltb s.pair s.m.now.pairs.count) true) c.check_in.ensures in
    pair-answered (described s.m.now.bodies s.m.now.parts s.segs.now s.m.now.pairs) s.q c.fits.ensures s.pair called c.in_ok-then_called.was c.overlap_of_drawn.ensures c.pair_at-p.ensures
