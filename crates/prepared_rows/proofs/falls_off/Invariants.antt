use Prim.Native.Nat.{◌-◌}
use mathlib.Core.Path.{◌≡◌}
use Rattle.laws.specs.Loops.{any_in}
use Rattle.strips.specs.Strips.{table_rows}
use Rattle.prepared_rows.specs.Prepared.{falls_off}
use Rattle.prepared_rows.proofs.falls_off.Given as goal

abbrev pub invariant-loop-i : goal.invariant-loop-i
invariant-loop-i l = any_in (falls_off l.bodies (table_rows l.t)) (l.n - l.i) l.i ≡ any_in (falls_off l.bodies (table_rows l.t)) l.n 0
