use native.Mathlib.Omega.{arith}
use mathlib.Core.Path.{refl}
use Rattle.drawing.proofs.Segments.{drawn_known, rows-turn, first-row, next_row, drawn-end}
use Rattle.drawing.proofs.draw_seg.Goals as goal

pub loop-k-init : goal.loop-k-init
loop-k-init f c = λ g h. first-row refl

pub loop-k-preserved : goal.loop-k-preserved
loop-k-preserved f c = λ g h.
    let d = c.drawn-d.result in
    let few = (drawn_known d c.args.s c.drawn-d.ensures).1 in
    let long = (drawn_known d c.args.s c.drawn-d.ensures).2 in
    next_row _ c.loop-k.k (rows-turn g d.points d.count c.loop-k.k _ _ (omega (arith, few, long)) c.loop-k-test.true (h _ _ c.place-p.ensures)) (c.loop-k.invariant g h)

pub returns-clause-written : goal.returns-clause-written
returns-clause-written f c = λ g h. drawn-end g c.args.s c.drawn-d.ensures c.loop-k-test.false (c.loop-k.invariant g h)
