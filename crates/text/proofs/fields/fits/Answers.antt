use native.Mathlib.Omega.{arith}
use mathlib.Core.Path.{sym}
use Rattle.text.proofs.Pieces.{piece}
use Rattle.text.proofs.FieldLaws.{fits-no, fits_last, fits_more, fits-done}
use Rattle.text.proofs.fields.fits.Goals as goal

pub slice_bounds-is_kind-end : goal.slice_bounds-is_kind-end
slice_bounds-is_kind-end c =
    let p = piece c.args.line.now 44 c.loop-j.at c.find-e.result c.loop-j.invariant.within c.find-e.ensures in
    omega arith

pub returns-then-not-is_kind : goal.returns-then-not-is_kind
returns-then-not-is_kind c =
    let p = piece c.args.line.now 44 c.loop-j.at c.find-e.result c.loop-j.invariant.within c.find-e.ensures in
    fits-no c.loop-j-test.true c.loop-j.invariant p (sym c.if-not-is_kind.ensures)

pub returns-then-e-line : goal.returns-then-e-line
returns-then-e-line c =
    let p = piece c.args.line.now 44 c.loop-j.at c.find-e.result c.loop-j.invariant.within c.find-e.ensures in
    fits_last c.loop-j-test.true c.loop-j.invariant p (sym c.if-not-is_kind.ensures) c.if-e-line.true

pub loop-j-preserved : goal.loop-j-preserved
loop-j-preserved c =
    let p = piece c.args.line.now 44 c.loop-j.at c.find-e.result c.loop-j.invariant.within c.find-e.ensures in
    fits_more c.loop-j-test.true c.loop-j.invariant p (sym c.if-not-is_kind.ensures) c.if-e-line.false

pub returns : goal.returns
returns c = fits-done c.loop-j-test.false c.loop-j.invariant
