use Prim.Native.Nat.{◌-◌}
use mathlib.Core.Path.{◌≡◌}
use lib.Dec.{eqb}
use Rattle.laws.specs.Lists.{list_in, any}
use Rattle.mechanism.specs.Description.{range_at}
use Rattle.drawing.specs.Drawing.{is_own}
use Rattle.drawing.proofs.is_own.Given as goal

abbrev pub invariant-loop-k : goal.invariant-loop-k
invariant-loop-k l = any (λ r. eqb r.part l.i) (list_in (range_at l.u) (l.k-end - l.k) l.k) ≡ is_own l.u l.i
