use lib.ListN.{take, drop, replicate}
use Rattle.laws.specs.Loops.{Writing}
use Rattle.silhouette.specs.Silhouette.{boxed, no_line}
use Rattle.silhouette.proofs.segs_from.Given as goal

abbrev pub invariant-loop-i : goal.invariant-loop-i
invariant-loop-i l = Writing (replicate 48 (boxed no_line)) 0 (take l.n (drop l.at l.o.seg)) l.seg l.i (drop l.i (take l.n (drop l.at l.o.seg)))
