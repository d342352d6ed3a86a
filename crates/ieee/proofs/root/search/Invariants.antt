-- `root::search` meets its contract. The invariant: m * 2 ^ 52 is over lo, and not over hi. The measure: hi - lo. Assumes nothing.
use Prim.Native.Nat.{◌+◌, ◌-◌, ◌*◌, ◌^◌, ◌≤◌, ◌<◌}
use Rattle.ieee.proofs.root.search.Given as goal

abbrev pub invariant-loop-lo : goal.invariant-loop-lo
invariant-loop-lo l = (l.lo < l.hi) × (l.hi ≤ 9007199254740991) × (l.lo * l.lo + l.lo < l.m * 2 ^ 52) × (l.m * 2 ^ 52 ≤ l.hi * l.hi + l.hi)

abbrev pub decreases-loop-lo : goal.decreases-loop-lo
decreases-loop-lo l = l.hi - l.lo
