use mathlib.Core.Path.{◌≡◌}
use Prim.Native.Nat.{◌-◌}
use mathlib.Core.Bool.{not}
use Rattle.laws.specs.Loops.{any_in}
use Rattle.silhouette.specs.Silhouette.{joins_next, outline_in}
use Rattle.silhouette.proofs.closed_counted.Given as goal

abbrev pub invariant-loop-i : goal.invariant-loop-i
invariant-loop-i l = any_in (λ k. not (joins_next (outline_in l.o) k)) (l.o.count - l.i) l.i ≡ any_in (λ k. not (joins_next (outline_in l.o) k)) l.o.count 0
