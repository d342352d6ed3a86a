use Prim.Native.Nat.{ℕ, ◌-◌, ◌<◌}
use mathlib.Core.Path.{◌≡◌}
use mathlib.Core.Bool.{Bool, false, ◌&&◌}
use Rattle.laws.specs.Fill.{Filling}
use Rattle.laws.specs.Lists.{list_in}
use Rattle.mechanism.specs.Description.{part_at}
use Rattle.drawing.specs.Drawing.{is_sampled, what_is}
use Rattle.overlap.proofs.owners_of.Given as goal

abbrev pub invariant-loop-i : goal.invariant-loop-i
invariant-loop-i g l =
    (p : ℕ → Bool) → ((i : ℕ) (r : Bool) → i < 32 → goal.F-post g l.names i r → r ≡ p i)
    → Filling 32 (list_in (λ j. what_is (p j && is_sampled (part_at l.ps j)) false) 32 0) l.what l.i (list_in (λ j. what_is (p j && is_sampled (part_at l.ps j)) false) (32 - l.i) l.i)
