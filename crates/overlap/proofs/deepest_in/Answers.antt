use native.Mathlib.Omega.{arith}
use mathlib.Core.Path.{◌≡◌, sym, ap, ◌∙◌}
use lib.ListN.{length}
use Rattle.laws.proofs.Lists.{fold_on, fold_done}
use Rattle.ieee.specs.Num.{max_of}
use Rattle.material.specs.Material.{drawn_material, square_depth, deepest_square}
use Rattle.material.proofs.Parts.{row_point, points_of-rows}
use Rattle.overlap.proofs.deepest_in.Goals as goal

pub loop-v-preserved : goal.loop-v-preserved
loop-v-preserved c =
    let a = c in
    let s = a.args in
    let m = drawn_material s.m.now.material in
    let e : max_of c.loop-v.d (square_depth m (row_point s.samples.now c.loop-v.v-index)) ≡ c.deeper_square-d.result =
    sym c.deeper_square-d.ensures in
    fold_on (λ x p. max_of x (square_depth m p)) (row_point s.samples.now) (length s.samples.now) c.loop-v.v-index (omega arith) e ∙ c.loop-v.invariant

pub returns : goal.returns
returns c =
    let s = c.args in
    let m = drawn_material s.m.now.material in
    sym (fold_done (λ x p. max_of x (square_depth m p)) (row_point s.samples.now) c.loop-v.d (length s.samples.now) c.loop-v.v-index (omega arith))
    ∙ c.loop-v.invariant ∙ ap (deepest_square m s.from) (sym (points_of-rows s.samples.now))
