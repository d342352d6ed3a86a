use native.Mathlib.Omega.{arith}
use mathlib.Core.Path.{◌∙◌}
use Rattle.text.proofs.FieldLaws.{not_sixteen, hexes_start, not_hex, hexes_more, hexes_room, hexes_small, hexes_end}
use Rattle.text.proofs.fields.real_of.Goals as goal

pub returns-then-f-ne16 : goal.returns-then-f-ne16
returns-then-f-ne16 c = not_sixteen c.args.f.now c.if-f-ne16.true

pub loop-b-init : goal.loop-b-init
loop-b-init c = hexes_start c.args.f.now c.if-f-ne16.false

pub overflow_mul-v : goal.overflow_mul-v
overflow_mul-v c = omega (arith, hexes_room c.loop-b-test.true c.loop-b.invariant)

pub returns-in_err-v : goal.returns-in_err-v
returns-in_err-v c = c.from_residual.ensures ∙ not_hex c.loop-b-test.true c.loop-b.invariant c.in_err-v.ensures

pub overflow_add-v : goal.overflow_add-v
overflow_add-v c = let h = hexes_more c.loop-b-test.true c.loop-b.invariant c.in_ok-v.ensures in omega (arith, hexes_small h)

pub loop-b-preserved : goal.loop-b-preserved
loop-b-preserved c = hexes_more c.loop-b-test.true c.loop-b.invariant c.in_ok-v.ensures

pub returns : goal.returns
returns c = hexes_end c.loop-b-test.false c.loop-b.invariant c.of_pattern.ensures
