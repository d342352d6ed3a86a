use mathlib.Core.Path.{◌≡◌}
use Rattle.mechanism.specs.Rows.{pair_in, gap_in}
use Rattle.governing.proofs.Gaps.{best_of}
use Rattle.governing.proofs.walked.Given as goal

abbrev pub invariant-loop-i : goal.invariant-loop-i
invariant-loop-i l = l.best ≡ best_of (pair_in l.rows.places.now) (gap_in l.rows.values.now) l.i l.pair
