use Prim.Native.Nat.{◌*◌, ◌≤◌}
use mathlib.Core.Path.{◌≡◌}
use Rattle.mechanism.specs.Description.{sum_in}
use Rattle.strips.specs.Strips.{table_rows}
use Rattle.drawing.specs.Prepared.{drawn_in}
use Rattle.drawing.proofs.prepared.all_drawn.Given as goal

abbrev pub invariant-loop-i : goal.invariant-loop-i
invariant-loop-i l = (l.sum ≡ sum_in (drawn_in (table_rows l.t)) l.i 0) × (l.sum ≤ l.i * 752)
