use mathlib.Core.List.{map}
use lib.ListN.{drop, replicate}
use Rattle.laws.specs.Loops.{Writing}
use Rattle.silhouette.specs.Silhouette.{boxed, no_line, turned_seg, outline_in}
use Rattle.silhouette.proofs.turned.Given as goal

abbrev pub invariant-loop-i : goal.invariant-loop-i
invariant-loop-i l = Writing (replicate 94 (boxed no_line)) 0 (map boxed (map (turned_seg l.axis) (outline_in l.o))) l.seg l.i (map boxed (map (turned_seg l.axis) (drop l.i (outline_in l.o))))
