use mathlib.Core.Path.{sym, ap}
use lib.ListN.{get_or-eq_default}
use lib.Ieee.{div, of_bits}
use Rattle.strips.specs.Strips.{face_from}
use Rattle.strips.proofs.tables.face_at.Goals as goal

pub returns : goal.returns
unfolding div of_bits
returns c = ap face_from (sym (get_or-eq_default c.args.faces.now _ c.if-i-faces.false))
