use mathlib.Core.Path.{◌≡◌}
use Rattle.mechanism.specs.Description.{start_of_part}
use Rattle.mechanism.specs.Segments.{outlines_in}
use Rattle.drawing.proofs.Puts.{Puts}
use Rattle.drawing.proofs.points.put_parts.Given as goal

abbrev pub invariant-loop-i : goal.invariant-loop-i
invariant-loop-i l = record {
  row : l.first ≡ start_of_part l.ps l.i;
  put : Puts l.ps (outlines_in l.segs) l.initial.drawn l.initial.sampled l.initial.parts l.drawn l.sampled l.parts l.at l.i;
}
