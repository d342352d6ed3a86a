-- The arrays of the structs have their declared lengths. Assumes nothing.
use mathlib.Core.Path.{◌≡◌}
use mathlib.Core.List.{List}
use lib.ListN.{length}
use mir.Val.{Val}
use denote.Laws.{Is}
use Rattle.mechanism.specs.declared.Parts.{Parts}
use Rattle.mechanism.specs.declared.pair.Surface.{Surface}
use Rattle.bodies.specs.declared.pose.Pose.{Pose}
use Rattle.mechanism.specs.contracts.Parts as P
use Rattle.mechanism.specs.contracts.part.Part as E
use Rattle.mechanism.specs.contracts.pair.Surface as U
use Rattle.mechanism.specs.contracts.part.SurfaceRef as R
use Rattle.bodies.specs.contracts.pose.Pose as Q
use Rattle.bodies.specs.contracts.pose.Placement as L
use Rattle.bodies.proofs.Known.{array_length}

pub parts-long : (s : Parts) (vs : List Val) → Is P.the_row s vs → length s.part ≡ 32
parts-long s vs p = array_length E.the_row 32 s.part _ p.1.1.1.0

pub surface_long : (s : Surface) (vs : List Val) → Is U.the_row s vs → length s.range ≡ 4
surface_long s vs p = array_length R.the_row 4 s.range _ p.1.1.1.0

pub pose-long : (s : Pose) (vs : List Val) → Is Q.the_row s vs → length s.placement ≡ 16
pose-long s vs p = array_length L.the_row 16 s.placement _ p.1.1.1.0
