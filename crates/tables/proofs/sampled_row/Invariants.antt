use Prim.Native.Nat.{◌-◌}
use Rattle.laws.specs.Fill.{Filling}
use Rattle.laws.specs.Lists.{list_in}
use Rattle.tables.specs.Tables.{sampled_row}
use Rattle.tables.proofs.Written.{sampled_at}
use Rattle.tables.proofs.sampled_row.Given as goal

abbrev pub invariant-loop-i : goal.invariant-loop-i
invariant-loop-i l = Filling 32 (sampled_row l.ps l.u) l.what l.i (list_in (sampled_at l.ps l.u) (32 - l.i) l.i)
