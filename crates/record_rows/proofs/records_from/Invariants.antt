use Prim.Native.Nat.{◌-◌}
use Rattle.laws.specs.Lists.{list_in}
use Rattle.laws.specs.Fill.{Filling}
use Rattle.record_rows.specs.Steps.{row_at, records_in}
use Rattle.record_rows.proofs.records_from.Given as goal

abbrev pub invariant-loop-i : goal.invariant-loop-i
invariant-loop-i l = Filling 784 (records_in l.places l.values l.n) l.row l.i (list_in (row_at l.places l.values) (l.n - l.i) l.i)
