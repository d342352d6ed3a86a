use Prim.Native.Nat.{◌-◌}
use mathlib.Core.Path.{◌≡◌}
use Rattle.laws.specs.Loops.{fold_in}
use Rattle.mechanism.specs.Description.{range_at}
use Rattle.mechanism.specs.Check.{with_range}
use Rattle.std.proofs.Common.{Ok, None}
use Rattle.mechanism.proofs.check.side_body.Given as goal

abbrev pub invariant-loop-i : goal.invariant-loop-i
invariant-loop-i l =
    fold_in (λ t k. with_range l.ps l.pair t (range_at l.u k)) (Ok l.body) (l.u.count - l.i) l.i
    ≡ fold_in (λ t k. with_range l.ps l.pair t (range_at l.u k)) (Ok None) l.u.count 0
