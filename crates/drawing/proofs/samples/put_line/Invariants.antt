use Prim.Native.Nat.{◌+◌, ◌-◌}
use mathlib.Core.Path.{◌≡◌}
use mathlib.Core.List.{map}
use Rattle.laws.specs.Lists.{list_in}
use Rattle.laws.specs.Loops.{Writing}
use Rattle.geometry.specs.declared.Point.{Point}
use Rattle.drawing.specs.Drawing.{row_of}
use Rattle.drawing.specs.Samples.{on_line}
use Rattle.drawing.proofs.samples.put_line.Given as goal

abbrev pub invariant-loop-k : goal.invariant-loop-k
invariant-loop-k f l =
    (g : Point → Point) → ((p : Point) (r : Point) → goal.F-post f l.place p r → r ≡ g p)
    → Writing l.initial.samples l.at (map row_of (map g (list_in (on_line l.a l.b) 17 0))) l.samples (l.at + l.k) (map row_of (map g (list_in (on_line l.a l.b) (17 - l.k) l.k)))
