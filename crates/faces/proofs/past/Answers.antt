use mathlib.Core.Path.{sym, ◌∙◌}
use Rattle.sides.specs.Features.{faces_in}
use Rattle.faces.specs.Faces.{past_of, face_of}
use Rattle.faces.proofs.Held.{held_on, held-end}
use Rattle.faces.proofs.Steps.{past-taken}
use Rattle.faces.proofs.past.Goals as goal

pub loop-i-preserved : goal.loop-i-preserved
loop-i-preserved g c =
    let s = c.args in
    let e = past-taken s.a0 s.a1 s.n s.b.now.place c.loop-i.d (face_of c.face.result) c.world.ensures c.world-in-loop-i.ensures c.over-d.ensures in
    held_on (past_of s.a0 s.a1 s.n s.b.now.place) (faces_in (g.S.Side.features s.b.now.side.now)) c.loop-i.i c.faces-i-end.ensures.0 c.loop-i-test.true c.face.ensures e ∙ c.loop-i.invariant

pub returns : goal.returns
returns g c =
    let s = c.args in
    sym (held-end (past_of s.a0 s.a1 s.n s.b.now.place) (faces_in (g.S.Side.features s.b.now.side.now)) c.loop-i.i c.faces-i-end.ensures.0 c.loop-i.d c.loop-i-test.false) ∙ c.loop-i.invariant
