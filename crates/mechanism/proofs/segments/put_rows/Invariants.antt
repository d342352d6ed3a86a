use mathlib.Core.List.{map}
use lib.ListN.{take, drop}
use Rattle.laws.specs.Loops.{Writing}
use Rattle.mechanism.specs.Segments.{row_of_seg, seg_rows}
use Rattle.mechanism.proofs.segments.put_rows.Given as goal

abbrev pub invariant-loop-i : goal.invariant-loop-i
invariant-loop-i l =
    Writing l.initial.out 0 (seg_rows l.o l.n) l.out l.i (map row_of_seg (drop l.i (take l.n l.o.seg)))
