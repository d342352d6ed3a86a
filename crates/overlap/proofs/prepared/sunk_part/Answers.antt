use Prim.Native.Nat.{◌+◌}
use native.Mathlib.Omega.{arith}
use mathlib.Core.Path.{◌≡◌, sym, ap, ◌∙◌}
use Rattle.ieee.specs.Num.{max_of}
use Rattle.geometry.specs.declared.Point.{Point}
use Rattle.bodies.specs.Pose.{world_of}
use Rattle.material.specs.Material.{drawn_material, square_depth}
use Rattle.strips.specs.Strips.{sampled_at, table_rows}
use Rattle.overlap.proofs.Deepest.{squares-start, squares-more, squares-end}
use Rattle.overlap.proofs.prepared.sunk_part.Goals as goal

pub loop-i-init : goal.loop-i-init
loop-i-init c =
    let s = c.args in
    squares-start (drawn_material s.m.now.material) (world_of s.place) (sampled_at (table_rows s.t.now)) s.first s.n s.from

pub loop-i-preserved : goal.loop-i-preserved
loop-i-preserved c =
    let a = c in
    let s = a.args in
    let m = drawn_material s.m.now.material in
    let p : c.world-p.result ≡ world_of s.place (sampled_at (table_rows s.t.now) (s.first + c.loop-i.i)) = c.world-p.ensures ∙ ap (world_of s.place) c.sampled_point.ensures in
    let e : max_of c.loop-i.d (square_depth m (world_of s.place (sampled_at (table_rows s.t.now) (s.first + c.loop-i.i)))) ≡ c.deeper_square-d.result =
    sym (c.deeper_square-d.ensures ∙ ap (λ (x : Point). max_of c.loop-i.d (square_depth m x)) p) in
    squares-more m (world_of s.place) (sampled_at (table_rows s.t.now)) s.first s.n c.loop-i.d c.deeper_square-d.result c.loop-i.i (omega arith) e ∙ c.loop-i.invariant

pub returns : goal.returns
returns c =
    let s = c.args in
    let m = drawn_material s.m.now.material in
    sym (squares-end m (world_of s.place) (sampled_at (table_rows s.t.now)) s.first s.n c.loop-i.d c.loop-i.i (omega arith)) ∙ c.loop-i.invariant
