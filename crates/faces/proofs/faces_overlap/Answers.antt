use mathlib.Core.Path.{◌≡◌, refl, sym, ◌∙◌}
use lib.Ieee.{of_bits}
use Rattle.sides.specs.Features.{faces_in as placed_faces}
use Rattle.faces.specs.Faces.{step_of, face_of, faces_in, faces_overlap}
use Rattle.faces.proofs.Held.{held_on, held-end}
use Rattle.faces.proofs.Steps.{step-taken, step_left}
use Rattle.faces.proofs.faces_overlap.Goals as goal
use Rattle.faces.proofs.faces_overlap.Goals.{then-is_long, else-is_long}

pub loop-i-init : goal.loop-i-init
unfolding of_bits
loop-i-init g c = refl

pub loop-i-preserved : goal.loop-i-preserved
loop-i-preserved g c =
    let a = c.args.a.now in
    let b = c.args.b.now in
    let fs = faces_in (g.S.Side.features b.side.now) in
    let f = face_of c.face.result in
    let step = step_of a.place b.place fs in
    let on : step c.loop-i.deepest f ≡ c.if-is_long.deepest → _ =
    λ e. held_on step (placed_faces (g.S.Side.features a.side.now)) c.loop-i.i c.faces-i-end.ensures.0 c.loop-i-test.true c.face.ensures e ∙ c.loop-i.invariant in
    elim c.if-is_long.branch [
      | then-is_long w ↦ on (step-taken a.place b.place fs c.loop-i.deepest f c.world-a0.ensures c.world-a1.ensures c.sub-e.ensures c.dot.ensures c.is_long.ensures
          w.if-is_long.true w.vector.ensures w.rotate.ensures (w.deepest-is ∙ w.past-deepest.ensures))
      | else-is_long w ↦ on (step_left a.place b.place fs c.loop-i.deepest f c.world-a0.ensures c.world-a1.ensures c.sub-e.ensures c.dot.ensures c.is_long.ensures
          w.if-is_long.false ∙ sym w.deepest-is)
    ]

pub returns : goal.returns
unfolding faces_overlap
returns g c =
    let a = c.args.a.now in
    let b = c.args.b.now in
    let step = step_of a.place b.place (faces_in (g.S.Side.features b.side.now)) in
    sym (held-end step (placed_faces (g.S.Side.features a.side.now)) c.loop-i.i c.faces-i-end.ensures.0 c.loop-i.deepest c.loop-i-test.false) ∙ c.loop-i.invariant
