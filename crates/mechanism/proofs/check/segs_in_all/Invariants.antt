use Prim.Native.Nat.{◌+◌, ◌-◌, ◌*◌, ◌≤◌}
use mathlib.Core.Path.{◌≡◌}
use Rattle.laws.specs.Loops.{fold_in}
use Rattle.mechanism.specs.Description.{segs_of}
use Rattle.mechanism.proofs.check.segs_in_all.Given as goal

abbrev pub invariant-loop-i : goal.invariant-loop-i
invariant-loop-i l =
    (l.total ≤ 48 * l.i)
    × (fold_in (λ s k. s + segs_of l.p k) l.total (l.p.count - l.i) l.i ≡ fold_in (λ s k. s + segs_of l.p k) 0 l.p.count 0)
