use Prim.Native.Nat.{◌+◌, ◌-◌, ◌*◌, ◌≤◌}
use mathlib.Core.Path.{◌≡◌}
use lib.Dec.{ltb}
use Rattle.laws.specs.Loops.{any_in, fold_in}
use Rattle.mechanism.specs.Description.{segs_of}
use Rattle.mechanism.proofs.check.parts_over.Given as goal

abbrev pub invariant-loop-i : goal.invariant-loop-i
invariant-loop-i l =
    (l.total ≤ 48 * l.i)
    × (any_in (λ k. ltb 48 (segs_of l.p k)) (l.p.count - l.i) l.i ≡ any_in (λ k. ltb 48 (segs_of l.p k)) l.p.count 0)
    × (fold_in (λ s k. s + segs_of l.p k) l.total (l.p.count - l.i) l.i ≡ fold_in (λ s k. s + segs_of l.p k) 0 l.p.count 0)
