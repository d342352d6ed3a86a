use mathlib.Core.Path.{sym, ◌∙◌}
use Rattle.sides.specs.Features.{discs_in}
use Rattle.mechanism.proofs.SamePiece.{equal_pieces}
use Rattle.bearings.proofs.Ends.{first-yes, first-no, first-none}
use Rattle.bearings.proofs.first_end.Goals as goal

pub returns-then-eq : goal.returns-then-eq
returns-then-eq g c =
    sym (first-yes c.args.piece (discs_in (g.S.Side.features c.args.s.now)) c.loop-i.i c.discs-i-end.ensures.0 c.loop-i-test.true c.disc-p.ensures
    (sym (c.eq.ensures ∙ equal_pieces c.disc-p.result.piece c.args.piece) ∙ c.if-eq.true) c.on_circle.ensures) ∙ c.loop-i.invariant

pub loop-i-preserved : goal.loop-i-preserved
loop-i-preserved g c =
    sym (first-no c.args.piece (discs_in (g.S.Side.features c.args.s.now)) c.loop-i.i c.discs-i-end.ensures.0 c.loop-i-test.true c.disc-p.ensures
    (sym (c.eq.ensures ∙ equal_pieces c.disc-p.result.piece c.args.piece) ∙ c.if-eq.false)) ∙ c.loop-i.invariant

pub returns : goal.returns
returns g c = sym (first-none c.args.piece (discs_in (g.S.Side.features c.args.s.now)) c.loop-i.i c.discs-i-end.ensures.0 c.loop-i-test.false) ∙ c.loop-i.invariant
