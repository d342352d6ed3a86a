use mathlib.Core.Path.{refl}
use native.Mathlib.Nat.{sub-zero}
use Rattle.laws.specs.Loops.{fold_in}
use Rattle.mechanism.proofs.check.parts_checked.Goals as goal

pub loop-i-init : goal.loop-i-init
unfolding fold_in
loop-i-init c = (refl, simp sub-zero)
