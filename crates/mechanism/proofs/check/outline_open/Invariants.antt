use Prim.Native.Nat.{◌+◌, ◌-◌, ◌%◌}
use mathlib.Core.Path.{◌≡◌}
use Rattle.laws.specs.Loops.{any_in}
use Rattle.mechanism.specs.Description.{seg_at}
use Rattle.mechanism.specs.Check.{seg_open}
use Rattle.mechanism.specs.Segments.{outlines_in}
use Rattle.mechanism.proofs.check.outline_open.Given as goal

abbrev pub invariant-loop-i : goal.invariant-loop-i
invariant-loop-i l =
    any_in (λ k. seg_open (seg_at (outlines_in l.segs) (l.at + k)) (seg_at (outlines_in l.segs) (l.at + (k + 1) % l.n))) (l.n - l.i) l.i
    ≡ any_in (λ k. seg_open (seg_at (outlines_in l.segs) (l.at + k)) (seg_at (outlines_in l.segs) (l.at + (k + 1) % l.n))) l.n 0
