use mathlib.Core.Path.{◌≡◌}
use lib.ListN.{replicate}
use lib.Seq.{sets}
use Rattle.ieee.specs.Consts.{zero_f}
use Rattle.pair_rows.proofs.put_zeros.Given as goal

abbrev pub invariant-loop-i : goal.invariant-loop-i
invariant-loop-i l = l.out ≡ sets l.initial.out l.at (replicate l.i zero_f)
