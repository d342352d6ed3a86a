use native.Mathlib.Omega.{arith}
use Rattle.reading_lines.proofs.DigitLaws.{writes_more, writes_end}
use Rattle.reading_lines.proofs.digits.put_digits.Goals as goal

pub loop-i-preserved : goal.loop-i-preserved
loop-i-preserved c = writes_more c.loop-i.invariant _ (omega arith) c.digit.ensures

pub returns : goal.returns
returns c = writes_end c.loop-i.invariant (omega arith)
