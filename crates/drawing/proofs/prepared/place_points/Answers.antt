use native.Mathlib.Omega.{arith}
use mathlib.Core.Path.{ap, ◌∙◌}
use Rattle.laws.proofs.Writing.{ends}
use Rattle.bodies.specs.Pose.{world_of}
use Rattle.strips.specs.Strips.{drawn_at, table_rows}
use Rattle.drawing.proofs.Lays.{row-turn, row_done, row-start}
use Rattle.drawing.proofs.Segments.{first-row, next_row}
use Rattle.drawing.proofs.prepared.place_points.Goals as goal

pub loop-i-init : goal.loop-i-init
loop-i-init c = first-row (row-start _ _ _ _)

pub offset_bounds-points-at : goal.offset_bounds-points-at
offset_bounds-points-at c = let w = c.loop-i.invariant.long in omega arith

pub bounds-points-at : goal.bounds-points-at
bounds-points-at c = let w = c.loop-i.invariant.long in omega arith

pub loop-i-preserved : goal.loop-i-preserved
loop-i-preserved c =
    let s = c.args in
    next_row _ c.loop-i.i (row-turn (world_of s.place) (drawn_at (table_rows s.t.now)) s.first s.n c.loop-i.i _ (omega arith)
    (c.world-p.ensures ∙ ap (world_of s.place) c.drawn_point.ensures)) c.loop-i.invariant

pub shape_of-points : goal.shape_of-points
shape_of-points c = c.loop-i.invariant.long

pub returns : goal.returns
returns c =
    let s = c.args in
    ends (row_done (world_of s.place) (drawn_at (table_rows s.t.now)) s.first s.n c.loop-i.i (omega arith)) c.loop-i.invariant
