use Prim.Native.Nat.{◌+◌}
use mathlib.Core.List.{map}
use lib.ListN.{drop}
use Rattle.laws.specs.Loops.{Writing}
use Rattle.mechanism.specs.Segments.{outlines_in}
use Rattle.silhouette.specs.Silhouette.{silhouette_from}
use Rattle.drawing.specs.Samples.{ends_of, mouth_row}
use Rattle.drawing.proofs.samples.put_ends.Given as goal

abbrev pub invariant-loop-i : goal.invariant-loop-i
invariant-loop-i l = Writing l.initial.mouths l.at (map mouth_row (map ends_of (silhouette_from (outlines_in l.segs) l.first l.p))) l.mouths (l.at + l.i)
    (map mouth_row (map ends_of (drop l.i (silhouette_from (outlines_in l.segs) l.first l.p))))
