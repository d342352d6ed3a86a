use mathlib.Core.Path.{◌≡◌}
use lib.Ieee.{Float}
use Rattle.std.specs.List.{list_any}
use Rattle.geometry.specs.declared.signed.Face.{Face}
use Rattle.sides.specs.Features.{faces_in}
use Rattle.bearings.specs.Bearing.{meets_row}
use Rattle.bearings.proofs.Best.{Walked}
use Rattle.bearings.proofs.best_face.Given as goal

abbrev pub invariant-loop-i : goal.invariant-loop-i
invariant-loop-i g l =
    (by : Face → Float) → ((f : Face) (x : Float) → goal.F-post g l.score f x → x ≡ by f)
    → Walked (λ f. list_any (meets_row f) l.ends) by (faces_in (g.S.Side.features l.s)) l.best l.i
