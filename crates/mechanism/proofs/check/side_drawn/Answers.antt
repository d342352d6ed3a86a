use mathlib.Core.Path.{sym}
use Rattle.mechanism.proofs.Checks.{side_counted}
use Rattle.mechanism.proofs.check.side_drawn.Goals as goal

pub side_body-requires : goal.side_body-requires
side_body-requires c = side_counted _ _ (sym c.if-parts_over.ensures) (sym c.if-side_over.ensures)
