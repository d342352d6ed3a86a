-- The arrays of the structs have their declared lengths. Assumes nothing.
use mathlib.Core.Path.{◌≡◌}
use mathlib.Core.List.{List}
use lib.ListN.{length}
use mir.Val.{Val}
use denote.Laws.{Is}
use Rattle.mechanism.specs.declared.Pairs.{Pairs}
use Rattle.mechanism.specs.declared.pair.Surface.{Surface}
use Rattle.mechanism.specs.contracts.Pairs as P
use Rattle.mechanism.specs.contracts.pair.ContactPair as C
use Rattle.mechanism.specs.contracts.pair.Surface as U
use Rattle.mechanism.specs.contracts.part.SurfaceRef as R
use Rattle.bodies.proofs.Known.{array_length}
use Rattle.sides.specs.declared.Traversals.{Traversals}
use Rattle.sides.specs.contracts.Traversal as T
use Rattle.sides.specs.contracts.Traversals as S

pub runs_long : (t : Traversals) (vs : List Val) → Is S.the_row t vs → length t.traversal ≡ 4
runs_long t vs p = array_length T.the_row 4 t.traversal _ p.1.1.1.0

pub ranges_long : (u : Surface) (vs : List Val) → Is U.the_row u vs → length u.range ≡ 4
ranges_long u vs p = array_length R.the_row 4 u.range _ p.1.1.1.0

pub pairs-long : (p : Pairs) (vs : List Val) → Is P.the_row p vs → length p.pair ≡ 16
pairs-long p vs q = array_length C.the_row 16 p.pair _ q.1.1.1.0
