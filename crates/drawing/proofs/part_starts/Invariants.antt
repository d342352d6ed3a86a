use Prim.Native.Nat.{◌-◌, ◌*◌, ◌≤◌}
use mathlib.Core.Path.{◌≡◌}
use Rattle.laws.specs.Fill.{Filling}
use Rattle.laws.specs.Lists.{list_in}
use Rattle.drawing.specs.Drawing.{start_within, part_starts}
use Rattle.drawing.proofs.part_starts.Given as goal

abbrev pub invariant-loop-i : goal.invariant-loop-i
invariant-loop-i l =
    (l.at ≡ start_within l.ps l.i) × (l.at ≤ 48 * l.i)
    × Filling 32 (part_starts l.ps) l.starts l.i (list_in (start_within l.ps) (32 - l.i) l.i)
