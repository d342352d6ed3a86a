use Prim.Native.Nat.{◌-◌}
use mathlib.Core.Path.{◌≡◌}
use Rattle.laws.specs.Loops.{any_in}
use Rattle.mechanism.specs.Description.{seg_at}
use Rattle.mechanism.specs.Check.{seg_lacks}
use Rattle.mechanism.specs.Segments.{outlines_in}
use Rattle.mechanism.proofs.check.outlines_lack.Given as goal

abbrev pub invariant-loop-i : goal.invariant-loop-i
invariant-loop-i l =
    any_in (λ k. seg_lacks (seg_at (outlines_in l.segs) k)) (l.n - l.i) l.i
    ≡ any_in (λ k. seg_lacks (seg_at (outlines_in l.segs) k)) l.n 0
