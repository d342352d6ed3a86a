use mathlib.Core.Path.{◌≡◌}
use Rattle.laws.specs.Lists.{foldl}
use Rattle.sides.specs.Features.{faces_in}
use Rattle.faces.specs.Faces.{past_of}
use Rattle.faces.proofs.Held.{left}
use Rattle.faces.proofs.past.Given as goal

abbrev pub invariant-loop-i : goal.invariant-loop-i
invariant-loop-i g l =
    let step = past_of l.a0 l.a1 l.n l.b.place in
    let fs = faces_in (g.S.Side.features l.b.side.now) in
    foldl step l.d (left l.i fs) ≡ foldl step l.deepest (left 0 fs)
