use Rattle.tables.proofs.Known.{discs_long}
use Rattle.tables.proofs.Written.{rows_start, rows_next, rows_end}
use Rattle.tables.proofs.put_disc_names.Goals as goal

pub loop-i-init : goal.loop-i-init
loop-i-init c = rows_start (discs_long c.args.s _ c.well_formed.1.1.0)

pub loop-i-preserved : goal.loop-i-preserved
loop-i-preserved c = rows_next _ c.loop-i-test.true c.from.ensures c.loop-i.invariant

pub returns : goal.returns
returns c = rows_end c.loop-i-test.false c.loop-i.invariant
