use Prim.Native.Nat.{◌+◌, ◌-◌}
use mathlib.Core.Path.{◌≡◌}
use Rattle.bodies.specs.Description.{body_at}
use Rattle.bodies.specs.Check.{first_refused, refused_if, misplaced}
use Rattle.bodies.specs.declared.Problem.TheVariants.{BodyNotPlaced}
use Rattle.bodies.proofs.check.bodies_checked.Given as goal

abbrev pub invariant-loop-i : goal.invariant-loop-i
invariant-loop-i l =
    first_refused (λ k. refused_if (misplaced l.b.coords (body_at l.b k) k) (BodyNotPlaced (k + 1))) (l.b.count - l.i) l.i
    ≡ first_refused (λ k. refused_if (misplaced l.b.coords (body_at l.b k) k) (BodyNotPlaced (k + 1))) l.b.count 0
