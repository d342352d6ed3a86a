use native.Mathlib.Omega.{arith}
use mathlib.Core.Path.{sym, ap, ◌∙◌}
use mathlib.Core.List.{[]}
use native.Mathlib.Nat.{sub-zero}
use lib.ListN.{length, get_or}
use Rattle.laws.specs.Lists.{list_in, any}
use Rattle.laws.proofs.Lists.{list_map, any-yes, any-no, any-done}
use Rattle.drawing.specs.Samples.{same_ends, mouth_in}
use Rattle.drawing.proofs.samples.is_mouth.Goals as goal

pub loop-m-init : goal.loop-m-init
loop-m-init c =
    let s = c.args in
    ap (λ k. any (same_ends (record { a = s.a; b = s.b })) (list_in (λ j. mouth_in (get_or s.mouths.now j [])) k 0)) (sub-zero (length s.mouths.now))
    ∙ ap (any (same_ends (record { a = s.a; b = s.b }))) (sym (list_map mouth_in s.mouths.now []))

pub returns-then-same_ends : goal.returns-then-same_ends
returns-then-same_ends c =
    let s = c.args in
    sym (any-yes (same_ends (record { a = s.a; b = s.b })) (λ j. mouth_in (get_or s.mouths.now j [])) (length s.mouths.now) c.loop-m.m-index (omega arith)
    (sym c.same_ends.ensures ∙ c.if-same_ends.true)) ∙ c.loop-m.invariant

pub loop-m-preserved : goal.loop-m-preserved
loop-m-preserved c =
    let s = c.args in
    sym (any-no (same_ends (record { a = s.a; b = s.b })) (λ j. mouth_in (get_or s.mouths.now j [])) (length s.mouths.now) c.loop-m.m-index (omega arith)
    (sym c.same_ends.ensures ∙ c.if-same_ends.false)) ∙ c.loop-m.invariant

pub returns : goal.returns
returns c =
    let s = c.args in
    sym (any-done (same_ends (record { a = s.a; b = s.b })) (λ j. mouth_in (get_or s.mouths.now j [])) (length s.mouths.now) c.loop-m.m-index (omega arith)) ∙ c.loop-m.invariant
