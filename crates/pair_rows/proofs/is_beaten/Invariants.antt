use Prim.Native.Nat.{◌-◌}
use mathlib.Core.Path.{◌≡◌}
use lib.ListN.{length}
use Rattle.laws.specs.Loops.{any_in}
use Rattle.showing.specs.Showing.{hides}
use Rattle.pair_rows.specs.PairRows.{gap_at, decides_at, alike_at}
use Rattle.pair_rows.proofs.is_beaten.Given as goal

abbrev pub invariant-loop-j : goal.invariant-loop-j
invariant-loop-j l =
    let hidden_by = hides (gap_at l.candidates) (decides_at l.candidates) (alike_at l.candidates) l.i in
    any_in hidden_by (length l.candidates - l.j) l.j ≡ any_in hidden_by (length l.candidates) 0
