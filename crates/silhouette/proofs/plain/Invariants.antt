use mathlib.Core.List.{map}
use lib.ListN.{drop, replicate}
use Rattle.laws.specs.Loops.{Writing}
use Rattle.silhouette.specs.Silhouette.{boxed, no_line, outline_in}
use Rattle.silhouette.proofs.plain.Given as goal

abbrev pub invariant-loop-i : goal.invariant-loop-i
invariant-loop-i l = Writing (replicate 94 (boxed no_line)) 0 (map boxed (outline_in l.o)) l.seg l.i (map boxed (drop l.i (outline_in l.o)))
