use Prim.Native.Nat.{◌-◌}
use mathlib.Core.Path.{◌≡◌}
use mathlib.Core.List.{[]}
use lib.ListN.{length, get_or}
use Rattle.laws.specs.Lists.{list_in, any}
use Rattle.drawing.specs.Samples.{same_ends, is_mouth, mouth_in, mouths_in}
use Rattle.drawing.proofs.samples.is_mouth.Given as goal

abbrev pub invariant-loop-m : goal.invariant-loop-m
invariant-loop-m l = any (same_ends (record { a = l.a; b = l.b })) (list_in (λ j. mouth_in (get_or l.mouths j [])) (length l.mouths - l.m-index) l.m-index) ≡ is_mouth
    (mouths_in l.mouths) (record { a = l.a; b = l.b })
