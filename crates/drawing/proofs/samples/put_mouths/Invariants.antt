use mathlib.Core.Path.{◌≡◌}
use Rattle.mechanism.specs.Description.{start_of_part}
use Rattle.mechanism.specs.Segments.{outlines_in}
use Rattle.drawing.proofs.Mouths.{Mouths}
use Rattle.drawing.proofs.samples.put_mouths.Given as goal

abbrev pub invariant-loop-i : goal.invariant-loop-i
invariant-loop-i l = (l.first ≡ start_of_part l.ps l.i) × Mouths l.ps (outlines_in l.segs) l.initial.mouths l.mouths l.at l.i
