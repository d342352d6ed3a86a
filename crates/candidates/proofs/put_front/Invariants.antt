use Prim.Native.Nat.{ℕ, ◌-◌, ◌<◌}
use mathlib.Core.Path.{◌≡◌}
use Rattle.laws.specs.Lists.{list_in}
use Rattle.laws.specs.Loops.{Writing}
use Rattle.candidates.proofs.put_front.Given as goal

abbrev pub invariant-loop-i : goal.invariant-loop-i
invariant-loop-i g l =
    (f : ℕ → g.row.T.Denot) → ((i : ℕ) (x : g.row.T.Denot) → i < l.n → goal.F-post g l.element i x → x ≡ f i)
    → Writing l.initial.out 0 (list_in f l.n 0) l.out l.i (list_in f (l.n - l.i) l.i)
