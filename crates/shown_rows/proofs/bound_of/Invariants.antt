use mathlib.Core.Path.{◌≡◌}
use Rattle.mechanism.specs.Description.{sum_in}
use Rattle.sides.specs.Contacts.{pair_bound}
use Rattle.shown_rows.proofs.bound_of.Given as goal

abbrev pub invariant-loop-i : goal.invariant-loop-i
invariant-loop-i l = l.sum ≡ sum_in (pair_bound l.m) l.i 0
