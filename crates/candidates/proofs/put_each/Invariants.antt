use Prim.Native.Nat.{◌+◌, ◌≤◌}
use mathlib.Core.Path.{◌≡◌}
use mathlib.Core.List.{List}
use Rattle.proximities.specs.declared.Candidate.{Candidate}
use Rattle.proximities.proofs.Wrote.{Wrote}
use Rattle.candidates.specs.Candidates.{candidates_of}
use Rattle.candidates.specs.declared.Reading.{Reading}
use Rattle.candidates.proofs.put_each.Given as goal

abbrev pub invariant-loop-x : goal.invariant-loop-x
invariant-loop-x g l =
    (l.to ≤ l.at + l.x-index)
    × ((f : g.row.T.Denot → List Candidate) → ((x : g.row.T.Denot) (r : Reading) → goal.F-post g l.read x r → candidates_of r ≡ f x)
    → Wrote f l.list l.at l.to l.x-index l.initial.out l.out)
