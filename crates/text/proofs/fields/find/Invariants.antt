use mathlib.Core.Path.{◌≡◌}
use Rattle.text.specs.Pieces.{piece_end}
use Rattle.text.proofs.fields.find.Given as goal

abbrev pub invariant-loop-i : goal.invariant-loop-i
invariant-loop-i l = piece_end l.c l.s l.i ≡ piece_end l.c l.s l.at
