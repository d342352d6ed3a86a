use native.Mathlib.Nat.{sub-zero}
use mathlib.Core.Path.{sym, ap, ◌∙◌}
use mathlib.Core.List.{◌∷◌}
use Prim.Native.Nat.{ℕ, ◌+◌, ◌-◌}
use Rattle.laws.specs.Lists.{list_in}
use Rattle.laws.proofs.Lists.{list_turn, list_done}
use Rattle.laws.proofs.Writing.{starts, puts, ends}
use Rattle.candidates.proofs.put_front.Goals as goal

pub loop-i-init : goal.loop-i-init
loop-i-init g c = λ f h. starts (ap (λ (k : ℕ). list_in f k 0) (sub-zero c.args.n))

pub loop-i-preserved : goal.loop-i-preserved
loop-i-preserved g c = λ f h.
    let n = c.args.n in
    let i = c.loop-i.i in
    let t = c.loop-i-test.true in
    let e = list_turn f n i t ∙ ap (λ x. x ∷ list_in f (n - (i + 1)) (i + 1)) (sym (h i _ t c.element.ensures)) in
    puts {rest' = list_in f (n - (i + 1)) (i + 1)} e (c.loop-i.invariant f h)

pub returns : goal.returns
returns g c = λ f h. ends (list_done f c.args.n c.loop-i.i c.loop-i-test.false) (c.loop-i.invariant f h)
