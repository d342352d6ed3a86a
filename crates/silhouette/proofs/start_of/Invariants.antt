use mathlib.Core.Path.{◌≡◌}
use Rattle.mechanism.specs.Description.{start_of_part}
use Rattle.silhouette.proofs.start_of.Given as goal

abbrev pub invariant-loop-k : goal.invariant-loop-k
invariant-loop-k l = l.at ≡ start_of_part l.ps l.k
