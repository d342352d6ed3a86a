use Rattle.reading_lines.proofs.DigitLaws.{Backwards}
use Rattle.reading_lines.proofs.digits.put_digits.Given as goal

abbrev pub invariant-loop-i : goal.invariant-loop-i
invariant-loop-i l = Backwards l.initial.out l.at l.base l.n l.v l.out l.i l.rest
