use mathlib.Core.Path.{sym, ◌∙◌}
use Rattle.mechanism.proofs.SamePiece.{equal_pieces}
use Rattle.bearings.proofs.Ends.{put-start, put_two, put-no, put-long, put-done}
use Rattle.bearings.proofs.put_ends.Goals as goal
use Rattle.bearings.proofs.put_ends.Goals.{then-eq, else-eq}

pub loop-i-init : goal.loop-i-init
loop-i-init g c = put-start _ _ _

pub loop-i-preserved : goal.loop-i-preserved
loop-i-preserved g c =
    let all = c.discs-i-end.ensures.0 in
    elim c.if-eq.branch [
      | then-eq w ↦
          rw (w.ends-is, w.at-is)
          (put_two c.loop-i.invariant all c.loop-i-test.true c.disc-p.ensures (sym (c.eq.ensures ∙ equal_pieces c.disc-p.result.piece c.args.piece) ∙ w.if-eq.true)
          w.on_circle-a.ensures w.on_circle-b.ensures)
      | else-eq w ↦
          rw (w.ends-is, w.at-is) (put-no c.loop-i.invariant all c.loop-i-test.true c.disc-p.ensures (sym (c.eq.ensures ∙ equal_pieces c.disc-p.result.piece c.args.piece) ∙ w.if-eq.false))
    ]

pub shape_of-ends : goal.shape_of-ends
shape_of-ends g c = put-long c.loop-i.invariant

pub returns : goal.returns
returns g c = put-done c.loop-i.invariant c.discs-i-end.ensures.0 c.discs-i-end.ensures.1 c.loop-i.auto.i-end c.loop-i-test.false
