use mathlib.Core.Path.{◌≡◌}
use Rattle.laws.specs.Lists.{foldl}
use Rattle.ieee.specs.Consts.{zero_f}
use Rattle.sides.specs.Features.{faces_in as placed_faces}
use Rattle.faces.specs.Faces.{step_of, faces_in}
use Rattle.faces.proofs.Held.{left}
use Rattle.faces.proofs.faces_overlap.Given as goal

abbrev pub invariant-loop-i : goal.invariant-loop-i
invariant-loop-i g l =
    let step = step_of l.a.place l.b.place (faces_in (g.S.Side.features l.b.side.now)) in
    let fs = placed_faces (g.S.Side.features l.a.side.now) in
    foldl step l.deepest (left l.i fs) ≡ foldl step zero_f (left 0 fs)
