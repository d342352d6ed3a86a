use Rattle.mechanism.specs.Segments.{outlines_in}
use Rattle.silhouette.specs.Silhouette.{silhouette_from}
use Rattle.drawing.specs.Samples.{mouths_in, samples_of}
use Rattle.drawing.proofs.Puts.{self}
use Rattle.drawing.proofs.Segments.{Places, Placed}
use Rattle.drawing.proofs.points.put_sampled.Given as goal

abbrev pub invariant-loop-i : goal.invariant-loop-i
invariant-loop-i l =
    Places 17 (samples_of (mouths_in l.mouths)) (silhouette_from (outlines_in l.segs) l.first l.p) l.at l.to l.i
    × Placed (samples_of (mouths_in l.mouths)) self (silhouette_from (outlines_in l.segs) l.first l.p) l.initial.out l.at l.out l.to l.i
