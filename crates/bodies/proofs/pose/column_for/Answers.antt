use mathlib.Core.Path.{ap, ◌∙◌}
use Rattle.bodies.specs.Pose.{no_move, last_column}
use Rattle.bodies.proofs.Walk.{columns-read}
use Rattle.bodies.proofs.pose.column_for.Goals as goal

pub last_column-requires : goal.last_column-requires
last_column-requires c = (columns-read c.args.b c.args.q _ c.args.p.body _ c.columns_at.ensures).0

pub returns : goal.returns
returns c =
    c.last_column.ensures
    ∙ ap (last_column c.args.coord no_move) (columns-read c.args.b c.args.q _ c.args.p.body _ c.columns_at.ensures).1
    ∙ simp (c.world-at.ensures, c.placement_at.ensures)
