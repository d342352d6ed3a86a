use native.Mathlib.Omega.{arith}
use mathlib.Core.Path.{◌≡◌, ap, ap₂, ◌∙◌}
use mathlib.Core.Bool.{Bool, false, ◌&&◌}
use Rattle.laws.proofs.Fill.{fill_put}
use Rattle.mechanism.specs.Description.{part_at}
use Rattle.drawing.specs.Drawing.{is_sampled, what_is}
use Rattle.overlap.proofs.Flags.{flag_turn, flags_done}
use Rattle.overlap.proofs.owners_of.Goals as goal

pub loop-i-preserved : goal.loop-i-preserved
loop-i-preserved g c p reads =
    let s = c.args in
    let h = c.loop-i-test.true in
    let flag = λ (x y : Bool). what_is (x && y) false in
    let made : c.what_is.result ≡ flag c.names.result c.is_sampled.result = c.what_is.ensures in
    let e = made ∙ ap₂ flag (reads c.loop-i.i _ h c.names.ensures) c.is_sampled.ensures in
    fill_put h (flag_turn (λ j. what_is (p j && is_sampled (part_at s.ps.now j)) false) c.loop-i.i _ (omega arith) e) (c.loop-i.invariant p reads)

pub returns : goal.returns
returns g c p reads =
    let s = c.args in
    ap (λ l. record { what = l }) (flags_done (λ j. what_is (p j && is_sampled (part_at s.ps.now j)) false) (omega arith) (c.loop-i.invariant p reads))
