use Prim.Native.Nat.{◌+◌, ◌-◌}
use mathlib.Core.List.{map, reverse}
use lib.ListN.{take}
use Rattle.laws.specs.Loops.{Writing}
use Rattle.silhouette.specs.Silhouette.{boxed, mirrored, outline_in}
use Rattle.silhouette.proofs.mirror.Given as goal

abbrev pub invariant-loop-i : goal.invariant-loop-i
invariant-loop-i l = Writing l.initial.seg l.s.count (map boxed (map (mirrored l.axis) (reverse (outline_in l.o)))) l.seg (l.s.count + l.i) (map boxed (map (mirrored l.axis) (reverse (take (l.o.count - l.i) (outline_in l.o)))))
