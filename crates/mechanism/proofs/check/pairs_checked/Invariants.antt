use Prim.Native.Nat.{◌-◌}
use mathlib.Core.Path.{◌≡◌}
use Rattle.bodies.specs.Check.{first_refused}
use Rattle.mechanism.specs.Description.{pair_at}
use Rattle.mechanism.specs.Check.{side_body, sides_checked}
use Rattle.mechanism.proofs.check.pairs_checked.Given as goal

abbrev pub invariant-loop-i : goal.invariant-loop-i
invariant-loop-i l =
    first_refused (λ k. sides_checked k (side_body l.ps k (pair_at l.pairs k).a) (side_body l.ps k (pair_at l.pairs k).b)) (l.pairs.count - l.i) l.i
    ≡ first_refused (λ k. sides_checked k (side_body l.ps k (pair_at l.pairs k).a) (side_body l.ps k (pair_at l.pairs k).b)) l.pairs.count 0
