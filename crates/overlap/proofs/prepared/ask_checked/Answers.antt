use mathlib.Core.Path.{sym, ap, ◌∙◌}
use mathlib.Core.Bool.{Bool, true}
use borrow.Author.Tests.{lt-ltb, le-ltb}
use lib.Dec.{ltb}
use Rattle.bodies.specs.Check.{Checked, bodies_stand}
use Rattle.bodies.specs.declared.Problem.TheVariants.{LimitPassed}
use Rattle.bodies.proofs.Checks.{stops-if, goes-on_if}
use Rattle.mechanism.specs.Check.{then_called}
use Rattle.overlap.proofs.prepared.ask_checked.Goals as goal

pub returns-then-pairs-gt16 : goal.returns-then-pairs-gt16
returns-then-pairs-gt16 c = sym (stops-if LimitPassed _ (lt-ltb 16 c.args.pairs c.if-pairs-gt16.true))

pub returns : goal.returns
returns c =
    let b = c in
    let a = b.args in
    let known = ltb a.pair a.pairs in
    c.then_called.ensures
    ∙ ap (λ (s : Checked). then_called s c.fits.result known true) b.bodies_stand.ensures
    ∙ ap (λ (f : Bool). then_called (bodies_stand a.bodies) f known true) c.fits.ensures
    ∙ sym (goes-on_if LimitPassed _ (le-ltb 16 a.pairs b.if-pairs-gt16.false))
