use mathlib.Core.Path.{sym, ap}
use lib.ListN.{get_or-eq_default}
use lib.Ieee.{div, of_bits}
use Rattle.strips.specs.Strips.{disc_from}
use Rattle.strips.proofs.tables.disc_at.Goals as goal

pub returns : goal.returns
unfolding div of_bits
returns c = ap disc_from (sym (get_or-eq_default c.args.discs.now _ c.if-i-discs.false))
