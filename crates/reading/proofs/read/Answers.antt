use Rattle.std.proofs.Common.{sym, ◌∙◌}
use Rattle.mechanism.specs.Rows.{lists_of}
use Rattle.reading.proofs.Answer.{ready, read_accepted}
use Rattle.reading.proofs.read.Goals as goal

pub read_by-requires : goal.read_by-requires
read_by-requires c =
    let s = c.args in
    let e = c.rows_in_numbers.ensures in
    ready s.m s.q s.margin (lists_of s.rows.now) (sym c.in_ok-n.was ∙ e.value) e.after

pub returns-clause-value : goal.returns-clause-value
returns-clause-value c =
    let s = c.args in
    let e = c.rows_in_numbers.ensures in
    read_accepted s.m s.q s.margin (lists_of s.rows.now) (sym c.in_ok-n.was ∙ e.value) e.after c.read_by.ensures
