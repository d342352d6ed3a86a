use Prim.Native.Nat.{◌-◌}
use mathlib.Core.Path.{◌≡◌}
use Rattle.bodies.specs.Check.{first_refused}
use Rattle.mechanism.specs.Description.{part_at, start_of_part}
use Rattle.mechanism.specs.Check.{part_checked}
use Rattle.mechanism.specs.Segments.{outlines_in}
use Rattle.mechanism.proofs.check.parts_checked.Given as goal

abbrev pub invariant-loop-i : goal.invariant-loop-i
invariant-loop-i l =
    (l.at ≡ start_of_part l.p l.i)
    × (first_refused (λ k. part_checked l.bodies (outlines_in l.segs) (part_at l.p k) (start_of_part l.p k) k) (l.p.count - l.i) l.i
    ≡ first_refused (λ k. part_checked l.bodies (outlines_in l.segs) (part_at l.p k) (start_of_part l.p k) k) l.p.count 0)
