use native.Mathlib.Omega.{arith}
use mathlib.Core.Path.{sym}
use Rattle.text.proofs.FieldLaws.{not_written, digits-start, not_digit, too_large, digits_more, digits-end}
use Rattle.text.proofs.fields.number_of.Goals as goal

pub returns-then-not-well_written : goal.returns-then-not-well_written
returns-then-not-well_written c = not_written c.args.f.now (sym c.if-not-well_written.ensures)

pub loop-b-init : goal.loop-b-init
loop-b-init c = digits-start c.args.f.now (sym c.if-not-well_written.ensures)

pub returns-then-not-is_digit : goal.returns-then-not-is_digit
returns-then-not-is_digit c = not_digit c.loop-b-test.true c.loop-b.invariant (sym c.if-not-is_digit.ensures)

pub returns-then-v-gt65535 : goal.returns-then-v-gt65535
returns-then-v-gt65535 c = too_large c.loop-b-test.true c.loop-b.invariant (omega (arith, c.from.ensures))

pub loop-b-preserved : goal.loop-b-preserved
loop-b-preserved c =
    rw c.from.ensures (digits_more c.loop-b-test.true c.loop-b.invariant (sym c.if-not-is_digit.ensures) (omega (arith, c.from.ensures)))

pub returns : goal.returns
returns c = digits-end c.loop-b-test.false c.loop-b.invariant
