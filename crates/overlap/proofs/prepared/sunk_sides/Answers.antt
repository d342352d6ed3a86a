use mathlib.Core.Path.{ap, ap₂, ◌∙◌}
use Rattle.ieee.specs.Consts.{zero_f}
use Rattle.ieee.specs.Num.{max_of}
use Rattle.strips.specs.Strips.{table_rows}
use Rattle.overlap.specs.Prepared.{sunk_in}
use Rattle.overlap.proofs.PairRows.{sunk_rows_lem}
use Rattle.overlap.proofs.prepared.sunk_sides.Goals as goal

pub returns : goal.returns
unfolding sunk_in
returns c =
    let s = c.args in
    let t = table_rows s.t.now in
    let both = c.sunk_both-s.ensures in
    c.max-2.ensures
    ∙ ap₂ max_of
    (c.max.ensures ∙ ap (max_of zero_f) (sunk_rows_lem t s.q s.a s.b both.0 c.choice_at.ensures c.row_of_sampled.ensures c.choice_at-4.ensures c.row_of_material-2.ensures))
    (sunk_rows_lem t s.q s.b s.a both.1 c.choice_at-3.ensures c.row_of_sampled-2.ensures c.choice_at-2.ensures c.row_of_material.ensures)
