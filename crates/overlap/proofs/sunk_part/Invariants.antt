use mathlib.Core.Path.{◌≡◌}
use lib.ListN.{length}
use Rattle.mechanism.specs.Segments.{outlines_in}
use Rattle.bodies.specs.Pose.{world_of}
use Rattle.silhouette.specs.Silhouette.{silhouette_from}
use Rattle.material.specs.Material.{drawn_material}
use Rattle.drawing.specs.Samples.{mouths_in, samples_of}
use Rattle.overlap.proofs.Deepest.{segs_from}
use Rattle.overlap.proofs.sunk_part.Given as goal

abbrev pub invariant-loop-k : goal.invariant-loop-k
invariant-loop-k l =
    let squares = segs_from (drawn_material l.m.material) (world_of l.place) (samples_of (mouths_in l.mouths)) (silhouette_from (outlines_in l.segs) l.first l.p) in
    record { long : length l.samples ≡ 17; deep : squares l.d l.k ≡ squares l.from 0 }
