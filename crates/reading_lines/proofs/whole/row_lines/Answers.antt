use native.Mathlib.Omega.{arith}
use Prim.Native.Nat.{◌*◌}
use mathlib.Core.Path.{sym, ap, ap₂}
use Rattle.mechanism.specs.Rows.{lists_of}
use Rattle.reading_lines.specs.Lines.{row_line, columns_line}
use Rattle.reading_lines.proofs.LineLaws.{wrote_then, wrote_as, room-first, room-rest, room_as}
use Rattle.reading_lines.proofs.WholeLaws.{columns_within, columns_part}
use Rattle.reading_lines.proofs.whole.row_lines.Goals as goal

pub row_line-k-requires : goal.row_line-k-requires
row_line-k-requires c = room_as (ap row_line (sym c.from-r.ensures)) (room-first _ _ c.requires.2)

pub overflow_mul-from : goal.overflow_mul-from
overflow_mul-from c = let w = columns_within c.requires.0 c.requires.1 in omega arith

pub overflow_add-to : goal.overflow_add-to
overflow_add-to c = let w = columns_within c.requires.0 c.requires.1 in omega arith

pub offset_bounds-rows-from : goal.offset_bounds-rows-from
offset_bounds-rows-from c = let w = columns_within c.requires.0 c.requires.1 in omega arith

pub slice_bounds-columns_line-end : goal.slice_bounds-columns_line-end
slice_bounds-columns_line-end c = let w = columns_within c.requires.0 c.requires.1 in omega arith

pub offset_bounds-rows-from-2 : goal.offset_bounds-rows-from-2
offset_bounds-rows-from-2 c = let w = columns_within c.requires.0 c.requires.1 in omega arith

pub slice_bounds-columns_line-end-2 : goal.slice_bounds-columns_line-end-2
slice_bounds-columns_line-end-2 c = let w = columns_within c.requires.0 c.requires.1 in omega arith

pub columns_line-requires : goal.columns_line-requires
columns_line-requires c =
    let a = c.args in
    let p = c.requires in
    let r = c.from-r.ensures in
    let w = c.row_line-k.ensures in
    let g = columns_part (lists_of a.rows.now).grad (a.j * a.coords) a.coords in
    let s = columns_part (lists_of a.rows.now).slip (a.j * a.coords) a.coords in
    room_as (ap₂ columns_line (sym g) (sym s)) (room-rest _ _ p.2 (wrote_as (ap row_line (sym r)) w))

pub returns : goal.returns
returns c =
    let a = c.args in
    let r = c.from-r.ensures in
    let w = c.row_line-k.ensures in
    let g = columns_part (lists_of a.rows.now).grad (a.j * a.coords) a.coords in
    let s = columns_part (lists_of a.rows.now).slip (a.j * a.coords) a.coords in
    wrote_then _ _ (wrote_as (ap row_line (sym r)) w) (wrote_as (ap₂ columns_line (sym g) (sym s)) c.columns_line.ensures)
