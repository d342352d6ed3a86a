use mathlib.Core.Path.{sym, ◌∙◌}
use Rattle.sides.specs.Features.{faces_in}
use Rattle.mechanism.proofs.SamePiece.{equal_pieces}
use Rattle.bearings.proofs.Ends.{named-yes, named-no, named_none}
use Rattle.bearings.proofs.face_named.Goals as goal

pub returns-then-eq : goal.returns-then-eq
returns-then-eq g c =
    sym (named-yes c.args.piece (faces_in (g.S.Side.features c.args.s.now)) c.loop-i.i c.faces-i-end.ensures.0 c.loop-i-test.true c.face-p.ensures
    (sym (c.eq.ensures ∙ equal_pieces c.face-p.result.piece c.args.piece) ∙ c.if-eq.true)) ∙ c.loop-i.invariant

pub loop-i-preserved : goal.loop-i-preserved
loop-i-preserved g c =
    sym (named-no c.args.piece (faces_in (g.S.Side.features c.args.s.now)) c.loop-i.i c.faces-i-end.ensures.0 c.loop-i-test.true c.face-p.ensures
    (sym (c.eq.ensures ∙ equal_pieces c.face-p.result.piece c.args.piece) ∙ c.if-eq.false)) ∙ c.loop-i.invariant

pub returns : goal.returns
returns g c = sym (named_none c.args.piece (faces_in (g.S.Side.features c.args.s.now)) c.loop-i.i c.faces-i-end.ensures.0 c.loop-i-test.false) ∙ c.loop-i.invariant
