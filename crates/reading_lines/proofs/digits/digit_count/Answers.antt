use native.Mathlib.Omega.{arith}
use mathlib.Core.Path.{sym}
use Rattle.reading_lines.proofs.DigitLaws.{count-one, count-power}
use Rattle.reading_lines.proofs.digits.digit_count.Goals as goal

pub returns-in-Some : goal.returns-in-Some
returns-in-Some c =
    let e = c.in-Some.ensures in
    sym (count-power 19 c.in-Some.k c.args.v (omega (arith, e.bound)) e.power_le e.next_power_gt)

pub returns-in-None : goal.returns-in-None
returns-in-None c = sym (count-one 19 c.args.v (omega (arith, c.in-None.ensures.none)))
