use Rattle.reading_lines.specs.Readings.{all_lines_in}
use Rattle.reading_lines.proofs.LineLaws.{wrote_then, wrote_as, room-first, room-rest, room_as}
use Rattle.reading_lines.proofs.WholeLaws.{parts-start, parts-room, parts_more, parts-end, reading-long, other_same}
use Rattle.reading_lines.proofs.whole.all_lines.Goals as goal

pub loop-i-init : goal.loop-i-init
unfolding all_lines_in
loop-i-init c = parts-start _ _ _ _ c.requires.2

pub pair_rows-to-requires : goal.pair_rows-to-requires
pair_rows-to-requires c = (c.requires.0, room-first _ _ (parts-room c.loop-i.invariant c.loop-i-test.true))

pub other_lines-k-requires : goal.other_lines-k-requires
other_lines-k-requires c =
    let o = other_same c.args.r c.loop-i.i _ (reading-long c.args.r _ c.well_formed.1.1.1.0) c.loop-i-test.true c.requires.1 in
    room_as o (room-rest _ _ (parts-room c.loop-i.invariant c.loop-i-test.true) c.pair_rows-to.ensures)

pub loop-i-preserved : goal.loop-i-preserved
loop-i-preserved c =
    let o = other_same c.args.r c.loop-i.i _ (reading-long c.args.r _ c.well_formed.1.1.1.0) c.loop-i-test.true c.requires.1 in
    parts_more c.loop-i.invariant c.loop-i-test.true (wrote_then _ _ c.pair_rows-to.ensures (wrote_as o c.other_lines-k.ensures))

pub returns : goal.returns
unfolding all_lines_in
returns c = parts-end c.loop-i.invariant c.loop-i-test.false
