use mathlib.Core.Path.{ap, ◌∙◌}
use Rattle.row_records.specs.declared.Found.{Found}
use Rattle.row_records.specs.Private.{bearing_found}
use Rattle.row_records.proofs.Answered.{bearing-is}
use Rattle.row_records.proofs.bearing.Goals as goal
use Rattle.std.proofs.Common.{Option}

pub returns : goal.returns
returns c =
    c.bearing_found.ensures
    ∙ ap (λ (x : Option Found). bearing_found c.args.m c.args.q x c.args.pair) c.best_of.ensures
    ∙ bearing-is c.args.m c.args.q c.args.rows.now c.args.pair
