use Rattle.row_records.proofs.Laws.{found_none}
use Rattle.std.proofs.Common.{sym}
use Rattle.row_records.proofs.best_of.Goals as goal

pub loop-at-init : goal.loop-at-init
loop-at-init c = sym (found_none c.args.rows.now c.args.pair)
