use Prim.Native.Nat.{ℕ, ◌-◌}
use mathlib.Core.Path.{◌≡◌}
use Rattle.laws.specs.Loops.{fold_in}
use Rattle.ieee.specs.Consts.{zero_f}
use Rattle.ieee.specs.Num.{max_of}
use Rattle.mechanism.specs.Description.{pair_at}
use Rattle.mechanism.specs.Segments.{outlines_in}
use Rattle.overlap.specs.Overlap.{pair_overlap_at}
use Rattle.overlap.proofs.deepest_pair.Given as goal

abbrev pub invariant-loop-i : goal.invariant-loop-i
invariant-loop-i l =
    let depth = λ (j : ℕ). pair_overlap_at l.ps (outlines_in l.segs) l.q (pair_at l.pairs j) in
    fold_in (λ e j. max_of e (depth j)) l.d (l.pairs.count - l.i) l.i ≡ fold_in (λ e j. max_of e (depth j)) zero_f l.pairs.count 0
