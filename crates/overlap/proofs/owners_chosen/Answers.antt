use native.Mathlib.Omega.{arith}
use mathlib.Core.Path.{ap, ap₂, ◌∙◌}
use mathlib.Core.Bool.{◌&&◌}
use Rattle.laws.proofs.Fill.{fill_put}
use Rattle.drawing.specs.Drawing.{what_is}
use Rattle.overlap.specs.Overlap.{owner_at}
use Rattle.overlap.proofs.Flags.{flag_turn, flags_done}
use Rattle.overlap.proofs.Listed.{choice_of}
use Rattle.overlap.proofs.owners_chosen.Goals as goal

pub loop-i-preserved : goal.loop-i-preserved
loop-i-preserved c =
    let s = c.args in
    let e = c.what_is.ensures ∙ ap (what_is (owner_at s.w c.loop-i.i)) (ap₂ ◌&&◌ c.is_read_cut.ensures c.any_on.ensures) in
    fill_put c.loop-i-test.true (flag_turn (choice_of s.ps.now s.w) c.loop-i.i _ (omega arith) e) c.loop-i.invariant

pub returns : goal.returns
returns c =
    let s = c.args in
    ap (λ l. record { what = l }) (flags_done (choice_of s.ps.now s.w) (omega arith) c.loop-i.invariant)
