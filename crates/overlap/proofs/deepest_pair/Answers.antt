use native.Mathlib.Omega.{arith}
use mathlib.Core.Path.{sym, ap, ◌∙◌}
use Rattle.laws.proofs.Loops.{fold_on, fold_done}
use Rattle.ieee.specs.Num.{max_of}
use Rattle.mechanism.specs.Description.{pair_at}
use Rattle.mechanism.specs.Segments.{outlines_in}
use Rattle.overlap.specs.Overlap.{pair_overlap_at}
use Rattle.overlap.proofs.deepest_pair.Goals as goal

pub loop-i-preserved : goal.loop-i-preserved
loop-i-preserved c =
    let s = c.args in
    let o = outlines_in s.segs.now in
    fold_on (λ e j. max_of e (pair_overlap_at s.ps.now o s.q (pair_at s.pairs.now j))) s.pairs.now.count c.loop-i.i (omega arith)
    (sym (c.max-d.ensures ∙ ap (max_of c.loop-i.d) (c.overlap_over.ensures ∙ ap (pair_overlap_at s.ps.now o s.q) c.pair_at.ensures))) ∙ c.loop-i.invariant

pub returns : goal.returns
returns c =
    let s = c.args in
    let o = outlines_in s.segs.now in
    sym (fold_done (λ e j. max_of e (pair_overlap_at s.ps.now o s.q (pair_at s.pairs.now j))) c.loop-i.d s.pairs.now.count c.loop-i.i (omega arith)) ∙ c.loop-i.invariant
