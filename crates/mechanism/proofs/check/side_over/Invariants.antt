use Prim.Native.Nat.{◌+◌, ◌-◌, ◌*◌, ◌≤◌}
use mathlib.Core.Path.{◌≡◌}
use Rattle.laws.specs.Loops.{fold_in}
use Rattle.mechanism.specs.Description.{range_at, range_length}
use Rattle.mechanism.proofs.check.side_over.Given as goal

abbrev pub invariant-loop-i : goal.invariant-loop-i
invariant-loop-i l =
    (l.total ≤ 12 * l.i) × (fold_in (λ s k. s + range_length (range_at l.u k)) l.total (l.u.count - l.i) l.i ≡ fold_in (λ s k. s + range_length (range_at l.u k)) 0 l.u.count 0)
