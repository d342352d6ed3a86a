-- The arrays of the structs have their declared lengths.
use Prim.Native.Nat.{ℕ}
use mathlib.Core.Path.{◌≡◌}
use mathlib.Core.List.{List}
use lib.ListN.{length}
use mir.Val.{Val}
use denote.Laws.{Is}
use denote.Array.{Array}
use denote.RattleType.{RattleType}
use Rattle.bodies.specs.declared.pose.Pose.{Pose}
use Rattle.bodies.specs.contracts.pose.Placement as P
use Rattle.bodies.specs.contracts.pose.Pose as Q

pub array_length : (R : RattleType) (n : ℕ) (xs : List R.Denot) (vs : List Val) → Is (Array R n) xs vs → length xs ≡ n
array_length R n xs vs p = p.1.0.1

pub pose-long : (q : Pose) (vs : List Val) → Is Q.the_row q vs → length q.placement ≡ 16
pose-long q vs p = array_length P.the_row 16 q.placement _ p.1.1.1.0
