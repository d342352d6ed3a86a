use Rattle.std.proofs.Common.{sym, ◌∙◌}
use Rattle.row_records.proofs.Laws.{number_is}
use Rattle.row_records.proofs.governing.Goals as goal

pub returns-in_err-best_of : goal.returns-in_err-best_of
returns-in_err-best_of c = let e = number_is c.args.rows.now c.args.pair (sym c.in_err-best_of.was ∙ c.best_of.ensures) in cc

pub returns : goal.returns
returns c = number_is c.args.rows.now c.args.pair (sym c.in_ok-best_of.was ∙ c.best_of.ensures)
