use Prim.Native.Nat.{◌-◌, ◌≤◌}
use lib.ListN.{replicate}
use Rattle.laws.specs.Loops.{Writing}
use Rattle.bodies.specs.Pose.{columns_up, columns_of, no_column}
use Rattle.bodies.proofs.pose.columns_at.Given as goal

abbrev pub invariant-loop : goal.invariant-loop
invariant-loop l = (l.n ≤ l.counter) × Writing (replicate 15 no_column) 0 (columns_of l.b l.q l.p l.body) l.out l.n (columns_up l.b l.q l.p (15 - l.counter) l.at)
