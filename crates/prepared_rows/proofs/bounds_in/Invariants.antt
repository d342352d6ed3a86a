use Prim.Native.Nat.{◌*◌, ◌≤◌}
use mathlib.Core.Path.{◌≡◌}
use Rattle.mechanism.specs.Description.{sum_in}
use Rattle.strips.specs.Strips.{table_rows}
use Rattle.candidates.specs.Prepared.{bound_in}
use Rattle.prepared_rows.proofs.bounds_in.Given as goal

abbrev pub invariant-loop-i : goal.invariant-loop-i
invariant-loop-i l = (l.sum ≡ sum_in (bound_in (table_rows l.t)) l.i 0) × (l.sum ≤ l.i * 1456)
