use mathlib.Core.Path.{◌≡◌}
use Rattle.geometry.specs.declared.Point.{Point}
use Rattle.mechanism.specs.Segments.{outlines_in}
use Rattle.silhouette.specs.Silhouette.{silhouette_from}
use Rattle.drawing.specs.Drawing.{drawn_points}
use Rattle.drawing.proofs.Segments.{Places, Placed}
use Rattle.drawing.proofs.draw_polygon.Given as goal

abbrev pub invariant-loop-i : goal.invariant-loop-i
invariant-loop-i f l =
    Places 8 drawn_points (silhouette_from (outlines_in l.segs) l.first l.p) l.at l.to l.i
    × ((g : Point → Point) → ((x : Point) (r : Point) → goal.F-post f l.place x r → r ≡ g x)
    → Placed drawn_points g (silhouette_from (outlines_in l.segs) l.first l.p) l.initial.points l.at l.points l.to l.i)
