use Prim.Native.Nat.{◌-◌}
use mathlib.Core.Path.{◌≡◌}
use Rattle.laws.specs.Lists.{list_in, any}
use Rattle.mechanism.specs.Description.{part_at, range_at}
use Rattle.drawing.specs.Drawing.{is_sampled, has_own}
use Rattle.drawing.proofs.has_own.Given as goal

abbrev pub invariant-loop-k : goal.invariant-loop-k
invariant-loop-k l = any (λ r. is_sampled (part_at l.ps r.part)) (list_in (range_at l.u) (l.k-end - l.k) l.k) ≡ has_own l.ps l.u
