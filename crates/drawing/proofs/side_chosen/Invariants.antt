use Prim.Native.Nat.{◌-◌}
use Rattle.laws.specs.Fill.{Filling}
use Rattle.laws.specs.Lists.{list_in}
use Rattle.drawing.proofs.Sides.{what_of}
use Rattle.drawing.proofs.side_chosen.Given as goal

abbrev pub invariant-loop-i : goal.invariant-loop-i
invariant-loop-i l = Filling 32 (list_in (what_of l.ps l.u l.cuts) 32 0) l.what l.i (list_in (what_of l.ps l.u l.cuts) (32 - l.i) l.i)
