use mathlib.Core.Path.{◌≡◌, sym, ◌∙◌}
use lib.ListN.{length}
use Rattle.laws.proofs.Lists.{fold_on, fold_done}
use Rattle.material.specs.Range.{range_with}
use Rattle.material.proofs.Parts.{row_point}
use Rattle.material.proofs.Outside.{range-starts}
use native.Mathlib.Omega.{arith}
use Rattle.material.proofs.y_range.Goals as goal

pub loop-v-init : goal.loop-v-init
loop-v-init c = range-starts _ _ _ c.infinity-lo.ensures c.infinity-hi.ensures

pub loop-v-preserved : goal.loop-v-preserved
loop-v-preserved c =
    let l = c.loop-v in
    let s = c.args in
    let e : range_with (record { lo = l.lo; hi = l.hi }) (row_point s.points.now l.v-index) ≡ record { lo = c.low-lo.result; hi = c.high-hi.result } =
    rw (c.low-lo.ensures, c.high-hi.ensures) in
    fold_on range_with (row_point s.points.now) (length s.points.now) l.v-index (omega arith) e ∙ l.invariant

pub returns : goal.returns
returns c =
    let l = c.loop-v in
    let s = c.args in
    sym (fold_done range_with (row_point s.points.now) (record { lo = l.lo; hi = l.hi }) (length s.points.now) l.v-index (omega arith)) ∙ l.invariant
