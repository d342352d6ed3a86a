use Rattle.std.proofs.Common.{sym, ◌∙◌}
use Rattle.mechanism.specs.Rows.{lists_of}
use Rattle.strips.specs.Strips.{table_rows}
use Rattle.reading.proofs.Over.{over-ready, over-accepted}
use Rattle.reading.proofs.prepared.read_posed.Goals as goal

pub read_by-requires : goal.read_by-requires
read_by-requires c =
    let a = c.args in
    let e = c.rows_in.ensures in
    over-ready (table_rows a.t.now) a.bodies a.pairs a.q a.margin (lists_of a.rows.now) (sym c.in_ok-n.was ∙ e.value) e.after

pub returns-clause-value : goal.returns-clause-value
returns-clause-value c =
    let a = c.args in
    let e = c.rows_in.ensures in
    over-accepted (table_rows a.t.now) a.bodies a.pairs a.q a.margin (lists_of a.rows.now) (sym c.in_ok-n.was ∙ e.value) e.after c.read_by.ensures
