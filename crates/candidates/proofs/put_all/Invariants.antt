use Prim.Native.Nat.{◌+◌, ◌*◌, ◌≤◌}
use mathlib.Core.Path.{◌≡◌}
use mathlib.Core.List.{List}
use lib.ListN.{length}
use Rattle.laws.specs.Lists.{flat}
use Rattle.proximities.specs.declared.Candidate.{Candidate}
use Rattle.proximities.proofs.Wrote.{Wrote}
use Rattle.candidates.specs.Candidates.{candidates_of}
use Rattle.candidates.specs.declared.Reading.{Reading}
use Rattle.candidates.proofs.put_all.Given as goal

abbrev pub invariant-loop-x : goal.invariant-loop-x
invariant-loop-x g l =
    (l.to ≤ l.at + l.x-index * length l.right)
    × ((f : g.row.A.Denot → g.row.B.Denot → List Candidate)
    → ((x : g.row.A.Denot) (y : g.row.B.Denot) (r : Reading) → goal.F-post g l.read x y r → candidates_of r ≡ f x y)
    → Wrote (λ x. flat (f x) l.right) l.left l.at l.to l.x-index l.initial.out l.out)
