use native.Mathlib.Omega.{arith}
use Rattle.text.proofs.Pieces.{piece}
use Rattle.text.proofs.FieldLaws.{passes-end, passes, passed}
use Rattle.text.proofs.fields.field.Goals as goal

pub returns-then-e-line : goal.returns-then-e-line
returns-then-e-line c =
    let p = piece c.args.line.now 44 c.loop-i.at c.find-e.result c.loop-i.invariant.within c.find-e.ensures in
    passes-end c.loop-i.invariant p c.loop-i-test.true c.if-e-line.true

pub overflow_add-at : goal.overflow_add-at
overflow_add-at c =
    let p = piece c.args.line.now 44 c.loop-i.at c.find-e.result c.loop-i.invariant.within c.find-e.ensures in
    omega arith

pub loop-i-preserved : goal.loop-i-preserved
loop-i-preserved c =
    let p = piece c.args.line.now 44 c.loop-i.at c.find-e.result c.loop-i.invariant.within c.find-e.ensures in
    passes c.loop-i.invariant p c.loop-i-test.true c.if-e-line.false

pub slice_bounds-result-end-2 : goal.slice_bounds-result-end-2
slice_bounds-result-end-2 c =
    let p = piece c.args.line.now 44 c.loop-i.at c.find-e-2.result c.loop-i.invariant.within c.find-e-2.ensures in
    omega arith

pub returns : goal.returns
returns c =
    let p = piece c.args.line.now 44 c.loop-i.at c.find-e-2.result c.loop-i.invariant.within c.find-e-2.ensures in
    passed c.loop-i.invariant p c.loop-i-test.false
