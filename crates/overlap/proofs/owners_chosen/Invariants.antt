use Prim.Native.Nat.{◌-◌}
use Rattle.laws.specs.Fill.{Filling}
use Rattle.laws.specs.Lists.{list_in}
use Rattle.overlap.proofs.Listed.{choice_of}
use Rattle.overlap.proofs.owners_chosen.Given as goal

abbrev pub invariant-loop-i : goal.invariant-loop-i
invariant-loop-i l = Filling 32 (list_in (choice_of l.ps l.w) 32 0) l.what l.i (list_in (choice_of l.ps l.w) (32 - l.i) l.i)
