use Rattle.std.proofs.Common.{◌-◌, ◌≤◌}
use Rattle.room_calls.proofs.fewest.Given as goal

abbrev pub invariant-loop-low : goal.invariant-loop-low
invariant-loop-low l = (l.low ≤ l.high) × (l.high ≤ 4096)

abbrev pub decreases-loop-low : goal.decreases-loop-low
decreases-loop-low l = l.high - l.low
