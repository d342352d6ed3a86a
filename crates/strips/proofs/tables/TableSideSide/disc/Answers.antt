use native.Mathlib.Omega.{arith}
use mathlib.Core.Path.{◌∙◌}
use Rattle.strips.proofs.Sides.{discs_counted, disc_held}
use Rattle.strips.proofs.tables.TableSideSide.disc.Goals as goal

pub returns-then-i-discs : goal.returns-then-i-discs
returns-then-i-discs c =
    let s = c.args.self.now in
    let e = discs_counted s in
    c.disc.ensures ∙ disc_held s c.args.i (omega (arith, e, c.discs.ensures.0))
