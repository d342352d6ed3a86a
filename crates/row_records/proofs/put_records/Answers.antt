use mathlib.Core.Path.{ap₂, ◌∙◌}
use mathlib.Core.List.{List}
use lib.ListN.{set}
use Rattle.mechanism.specs.declared.rows.Row.{Row}
use Rattle.bearings.specs.Bearing.{row_at}
use Rattle.row_records.proofs.Put.{put-none, put-more}
use Rattle.row_records.proofs.put_records.Goals as goal

pub loop-i-init : goal.loop-i-init
loop-i-init c = put-none (row_at c.args.rows.now.places.now c.args.rows.now.values.now) c.args.out.now

pub loop-i-preserved : goal.loop-i-preserved
loop-i-preserved c =
    ap₂ (λ (l : List Row) (r : Row). set l c.loop-i.i r) c.loop-i.invariant c.row.ensures
    ∙ put-more (row_at c.args.rows.now.places.now c.args.rows.now.values.now) c.args.out.now c.loop-i.i
