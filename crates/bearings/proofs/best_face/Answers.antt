use mathlib.Core.Path.{sym, ap, ◌∙◌}
use Rattle.std.proofs.Common.{rules, tests}
use Rattle.bearings.proofs.Best.{walked_start, walked_takes, walked_stays, walked_skips, walked-done, faced, better-is}
use Rattle.bearings.proofs.best_face.Goals as goal
use Rattle.bearings.proofs.best_face.Goals.{then-meets_any+then-is_none_or, then-meets_any+else-is_none_or, else-meets_any}

pub loop-i-init : goal.loop-i-init
loop-i-init g c by reads = walked_start _ by _

pub loop-i-preserved : goal.loop-i-preserved
loop-i-preserved g c by reads =
    let all = c.faces-i-end.ensures.0 in
    let so_far = c.loop-i.invariant by reads in
    elim c.if-meets_any.branch [
      | then-meets_any+then-is_none_or w ↦
          rw w.best-is
          (walked_takes so_far all c.loop-i-test.true c.face.ensures (sym c.meets_any.ensures ∙ w.if-meets_any.true) (reads _ _ w.score-x.ensures)
          (sym (better-is c.loop-i.best w.score-x.result w.is_none_or.ensures (λ b k. search (rules, tests))) ∙ w.if-is_none_or.true))
      | then-meets_any+else-is_none_or w ↦
          rw w.best-is
          (walked_stays so_far all c.loop-i-test.true c.face.ensures (sym c.meets_any.ensures ∙ w.if-meets_any.true) (reads _ _ w.score-x.ensures)
          (sym (better-is c.loop-i.best w.score-x.result w.is_none_or.ensures (λ b k. search (rules, tests))) ∙ w.if-is_none_or.false))
      | else-meets_any w ↦ rw w.best-is (walked_skips so_far all c.loop-i-test.true c.face.ensures (sym c.meets_any.ensures ∙ w.if-meets_any.false))
    ]

pub returns-in_err-best : goal.returns-in_err-best
returns-in_err-best g c by reads = c.from_residual.ensures ∙ sym (ap faced c.in_err-best.was) ∙ walked-done (c.loop-i.invariant by reads) c.faces-i-end.ensures.0 c.loop-i-test.false

pub returns : goal.returns
returns g c by reads = sym (ap faced c.in_ok-best.was) ∙ walked-done (c.loop-i.invariant by reads) c.faces-i-end.ensures.0 c.loop-i-test.false
