use mathlib.Core.Path.{sym}
use Rattle.mechanism.proofs.Checks.{few-parts}
use Rattle.mechanism.proofs.check.segs_counted.Goals as goal

pub segs_in_all-requires : goal.segs_in_all-requires
segs_in_all-requires c = few-parts _ (sym c.if-parts_over.ensures)
