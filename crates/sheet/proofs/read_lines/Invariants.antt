use Prim.Native.Nat.{◌+◌, ◌-◌}
use lib.ListN.{length}
use Rattle.sheet.proofs.Reading.{Reading}
use Rattle.sheet.proofs.read_lines.Given as goal

abbrev pub invariant-loop-line : goal.invariant-loop-line
invariant-loop-line l = Reading l.text l.seg l.made l.tally l.good l.stands l.n l.at

abbrev pub decreases-loop-line : goal.decreases-loop-line
decreases-loop-line l = length l.text + 1 - l.at
