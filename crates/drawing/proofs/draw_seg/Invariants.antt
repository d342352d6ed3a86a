use Prim.Native.Nat.{◌+◌}
use mathlib.Core.Path.{◌≡◌}
use mathlib.Core.List.{map}
use lib.ListN.{take, drop}
use Rattle.laws.specs.Loops.{Writing}
use Rattle.geometry.specs.declared.Point.{Point}
use Rattle.drawing.specs.Drawing.{row_of}
use Rattle.drawing.proofs.draw_seg.Given as goal

abbrev pub invariant-loop-k : goal.invariant-loop-k
invariant-loop-k f l =
    (g : Point → Point) → ((p : Point) (r : Point) → goal.F-post f l.place p r → r ≡ g p)
    → Writing l.initial.points l.at (map row_of (map g (take l.d.count l.d.points))) l.points (l.at + l.k) (map row_of (map g (drop l.k (take l.d.count l.d.points))))
