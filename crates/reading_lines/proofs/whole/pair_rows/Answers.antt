use borrow.Author.Tests.{eq-eqb, ne_eqb}
use Rattle.laws.proofs.Choice.{cond_yes, cond_no}
use Rattle.reading_lines.specs.Readings.{pair_rows_in}
use Rattle.reading_lines.proofs.LineLaws.{room_as, wrote_as}
use Rattle.reading_lines.proofs.WholeLaws.{parts-start, parts-room, parts_more, parts-skip, parts-end}
use Rattle.reading_lines.proofs.whole.pair_rows.Goals as goal
use Rattle.reading_lines.proofs.whole.pair_rows.Goals.{then-rows-j, else-rows-j}

pub loop-j-init : goal.loop-j-init
unfolding pair_rows_in
loop-j-init c = parts-start _ _ _ _ c.requires.1

pub row_lines-k-requires : goal.row_lines-k-requires
row_lines-k-requires c =
    (c.requires.0, c.loop-j-test.true, room_as (cond_yes _ _ (eq-eqb _ _ c.if-rows-j.true)) (parts-room c.loop-j.invariant c.loop-j-test.true))

pub loop-j-preserved : goal.loop-j-preserved
loop-j-preserved c =
    let p = c.loop-j.invariant in
    let t = c.loop-j-test.true in
    elim c.if-rows-j.branch [
      | then-rows-j w ↦ rw (w.out-is, w.k-is) (parts_more p t (wrote_as (cond_yes _ _ (eq-eqb _ _ w.if-rows-j.true)) w.row_lines-k.ensures))
      | else-rows-j w ↦ rw (w.out-is, w.k-is) (parts-skip p t (cond_no _ _ (ne_eqb _ _ w.if-rows-j.false)))
    ]

pub returns : goal.returns
unfolding pair_rows_in
returns c = parts-end c.loop-j.invariant c.loop-j-test.false
