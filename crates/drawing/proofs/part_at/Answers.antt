use native.Mathlib.Omega.{arith}
use mathlib.Core.Path.{sym}
use lib.Ieee.{div, of_bits}
use lib.ListN.{get_or-eq_default}
use Rattle.drawing.proofs.Known.{parts-long}
use Rattle.drawing.proofs.part_at.Goals as goal

pub returns : goal.returns
unfolding div of_bits
returns c =
    let s = c in
    let k = parts-long s.args.ps _ s.well_formed.0 in
    sym (get_or-eq_default s.args.ps.part _ (omega arith))
