use native.Mathlib.Omega.{arith}
use Rattle.reading_lines.proofs.LineLaws.{wrote_as}
use Rattle.reading_lines.proofs.WholeLaws.{blank_rows, blank_long, read_refused, read_ready, read_accepted}
use Rattle.reading_lines.proofs.whole.read_lines.Goals as goal

pub all_lines-requires : goal.all_lines-requires
all_lines-requires c =
    let a = c.args in
    let e = c.in-Ok.ensures in
    read_ready a.m a.q a.margin blank_rows blank_long e.value e.after _ (omega arith)

pub returns-in-Err : goal.returns-in-Err
returns-in-Err c =
    let a = c.args in
    wrote_as (read_refused a.m a.q a.margin blank_rows blank_long c.in-Err.ensures.value) c.refused.ensures

pub returns-in-Ok : goal.returns-in-Ok
returns-in-Ok c =
    let a = c.args in
    let e = c.in-Ok.ensures in
    wrote_as (read_accepted a.m a.q a.margin blank_rows blank_long e.value e.after) c.all_lines.ensures
