use native.Mathlib.Omega.{arith}
use mathlib.Core.Path.{sym, ap, subst, ◌∙◌}
use Rattle.sheet.specs.Limits.{Narrow, counted, within_limits}
use Rattle.sheet.specs.Grammar.{kind_of}
use Rattle.sheet.proofs.Counting.{bounds, room, narrow}
use Rattle.sheet.proofs.Reading.{reading-starts, line-piece, at-end, out_of_order, reads-past, reads_over, reads_on, reads-edge, one-edge, not-edge}
use Rattle.sheet.proofs.read_lines.Goals as goal

pub loop-line-init : goal.loop-line-init
loop-line-init c =
    reading-starts c.args.text.now c.no_draft-made.ensures c.no_tally-tally.ensures c.no_outlines-seg.ensures c.no_line-stands.ensures

pub slice_bounds-line-end : goal.slice_bounds-line-end
slice_bounds-line-end c =
    let p = line-piece c.loop-line.invariant c.find-e.ensures in
    omega arith

pub returns-then-e-text : goal.returns-then-e-text
returns-then-e-text c =
    at-end c.loop-line.invariant c.find-e.ensures c.if-e-text.true c.may_end-fit.ensures c.end.ensures

pub returns-then-not-may_follow : goal.returns-then-not-may_follow
returns-then-not-may_follow c =
    out_of_order c.loop-line.invariant c.find-e.ensures c.if-e-text.false c.record_of-r.ensures (sym c.if-not-may_follow.ensures)

pub overflow_add-n : goal.overflow_add-n
overflow_add-n c =
    let p = line-piece c.loop-line.invariant c.find-e.ensures in
    omega arith

pub overflow_add-at : goal.overflow_add-at
overflow_add-at c =
    let p = line-piece c.loop-line.invariant c.find-e.ensures in
    omega arith

pub count-tally-requires : goal.count-tally-requires
count-tally-requires c =
    (c.loop-line.invariant.bounded c.if-good.true, subst Narrow (sym c.record_of-r.ensures) (narrow _))

pub put-made-requires : goal.put-made-requires
put-made-requires c =
    room c.loop-line.tally c.record_of-r.result (bounds (counted c.loop-line.tally c.record_of-r.result) (ap within_limits (sym c.count-tally.ensures) ∙ sym c.if-good-2.ensures))

pub bounds-seg-t : goal.bounds-seg-t
bounds-seg-t c =
    let b = bounds (counted c.loop-line.tally c.record_of-r.result) (ap within_limits (sym c.count-tally.ensures) ∙ sym c.if-good-2.ensures) in
    omega (arith, b.segs, one-edge c.loop-line.tally c.record_of-r.result (ap kind_of c.in-Edge.is))

pub loop-line-preserved-in-Edge : goal.loop-line-preserved-in-Edge
loop-line-preserved-in-Edge c =
    reads-edge c.loop-line.invariant c.find-e.ensures c.if-e-text.false c.record_of-r.ensures (sym c.if-not-may_follow.ensures)
    c.after-stands.ensures c.if-good.true c.count-tally.ensures c.within-good.ensures c.if-good-2.true c.put-made.ensures c.in-Edge.is

pub loop-line-preserved-in_default : goal.loop-line-preserved-in_default
loop-line-preserved-in_default c =
    reads_on c.loop-line.invariant c.find-e.ensures c.if-e-text.false c.record_of-r.ensures (sym c.if-not-may_follow.ensures)
    c.after-stands.ensures c.if-good.true c.count-tally.ensures c.within-good.ensures c.if-good-2.true c.put-made.ensures (not-edge c.record_of-r.result c.in_default.not-Edge)

pub loop-line-preserved-else-good-2 : goal.loop-line-preserved-else-good-2
loop-line-preserved-else-good-2 c =
    reads_over c.loop-line.invariant c.find-e.ensures c.if-e-text.false c.record_of-r.ensures (sym c.if-not-may_follow.ensures)
    c.after-stands.ensures c.if-good.true c.count-tally.ensures c.within-good.ensures c.if-good-2.false

pub loop-line-preserved : goal.loop-line-preserved
loop-line-preserved c =
    reads-past c.loop-line.invariant c.find-e.ensures c.if-e-text.false c.record_of-r.ensures (sym c.if-not-may_follow.ensures) c.after-stands.ensures c.if-good.false
