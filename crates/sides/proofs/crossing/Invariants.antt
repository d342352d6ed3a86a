use Prim.Native.Nat.{ℕ}
use mathlib.Core.Path.{◌≡◌}
use mathlib.Core.List.{List, map}
use lib.Ieee.{Float}
use Rattle.laws.specs.Fill.{range}
use Rattle.geometry.specs.Geometry.{start_of}
use Rattle.mechanism.specs.Segments.{outlines_in}
use Rattle.mechanism.specs.declared.part.Part.{Part}
use Rattle.silhouette.specs.Silhouette.{silhouette_from}
use Rattle.sides.specs.Features.{seg_in, crossing_of}
use Rattle.sides.proofs.crossing.Given as goal
use Rattle.std.proofs.Common.{Option}
use Rattle.geometry.specs.declared.Point.{Point}

abbrev crossed : List (List Float) → ℕ → Part → Float → ℕ → ℕ → Option Point
crossed segs first p axis i past = crossing_of axis (map (λ j. start_of (seg_in (silhouette_from (outlines_in segs) first p) j)) (range i past))

abbrev pub invariant-loop-i : goal.invariant-loop-i
invariant-loop-i l = crossed l.segs l.first l.p l.axis l.i l.past ≡ crossed l.segs l.first l.p l.axis l.from l.past
