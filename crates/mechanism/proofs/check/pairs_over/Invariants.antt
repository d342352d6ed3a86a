use Prim.Native.Nat.{◌-◌}
use mathlib.Core.Path.{◌≡◌}
use Rattle.laws.specs.Loops.{any_in}
use Rattle.mechanism.specs.Description.{pair_at}
use Rattle.mechanism.specs.Check.{pair_over}
use Rattle.mechanism.proofs.check.pairs_over.Given as goal

abbrev pub invariant-loop-i : goal.invariant-loop-i
invariant-loop-i l =
    any_in (λ k. pair_over (pair_at l.p k)) (l.p.count - l.i) l.i
    ≡ any_in (λ k. pair_over (pair_at l.p k)) l.p.count 0
