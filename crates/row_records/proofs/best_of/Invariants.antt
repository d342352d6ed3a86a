use mathlib.Core.Path.{◌≡◌}
use Rattle.row_records.specs.Private.{found_of}
use Rattle.row_records.proofs.best_of.Given as goal

abbrev pub invariant-loop-at : goal.invariant-loop-at
invariant-loop-at l = l.best ≡ found_of l.rows l.pair l.at
