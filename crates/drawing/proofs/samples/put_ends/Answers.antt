use native.Mathlib.Omega.{arith}
use mathlib.Core.Path.{refl}
use Rattle.laws.proofs.Writing.{ends}
use Rattle.drawing.proofs.Segments.{ends-turn, ends-done, first-row, next_row, rows-count}
use Rattle.drawing.proofs.samples.put_ends.Goals as goal

pub loop-i-init : goal.loop-i-init
loop-i-init c = first-row refl

pub overflow_add-at : goal.overflow_add-at
overflow_add-at c =
    let e = c.silhouette_count-n.ensures.0 in
    let w = c.loop-i.invariant.long in
    omega arith

pub offset_bounds-mouths-at : goal.offset_bounds-mouths-at
offset_bounds-mouths-at c =
    let e = c.silhouette_count-n.ensures.0 in
    let w = c.loop-i.invariant.long in
    omega arith

pub bounds-mouths-at : goal.bounds-mouths-at
bounds-mouths-at c =
    let e = c.silhouette_count-n.ensures.0 in
    let w = c.loop-i.invariant.long in
    omega arith

pub loop-i-preserved : goal.loop-i-preserved
loop-i-preserved c =
    let s = c in
    let e = c.silhouette_count-n.ensures.0 in
    let k = rows-count s.args.segs.now s.args.first s.args.p s.requires.0 s.requires.1 in
    next_row _ c.loop-i.i (ends-turn _ c.loop-i.i (omega arith) c.silhouette_seg-s.ensures c.start-a.ensures c.end-e.ensures) c.loop-i.invariant

pub overflow_add-result : goal.overflow_add-result
overflow_add-result c =
    let e = c.silhouette_count-n.ensures.0 in
    let w = c.loop-i.invariant.long in
    omega arith

pub shape_of-mouths : goal.shape_of-mouths
shape_of-mouths c = c.loop-i.invariant.long

pub returns : goal.returns
returns c =
    let s = c in
    let e = c.silhouette_count-n.ensures.0 in
    let k = rows-count s.args.segs.now s.args.first s.args.p s.requires.0 s.requires.1 in
    (omega arith, ends (ends-done _ c.loop-i.i (omega arith)) c.loop-i.invariant)
