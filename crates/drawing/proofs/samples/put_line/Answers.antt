use mathlib.Core.Path.{refl, ap, ◌∙◌}
use Rattle.laws.proofs.Writing.{ends}
use Rattle.drawing.specs.Samples.{on_line}
use Rattle.drawing.proofs.Mouths.{line-turn, line-done}
use Rattle.drawing.proofs.Segments.{first-row, next_row}
use Rattle.drawing.proofs.samples.put_line.Goals as goal

pub loop-k-init : goal.loop-k-init
loop-k-init f c = λ g h. first-row refl

pub loop-k-preserved : goal.loop-k-preserved
loop-k-preserved f c = λ g h.
    let s = c.args in
    next_row _ c.loop-k.k (line-turn g (on_line s.a s.b) c.loop-k.k _ c.loop-k-test.true (h _ _ c.place-p.ensures ∙ ap g c.on_line.ensures)) (c.loop-k.invariant g h)

pub returns-clause-written : goal.returns-clause-written
returns-clause-written f c = λ g h. let s = c.args in ends (line-done g (on_line s.a s.b) c.loop-k.k c.loop-k-test.false) (c.loop-k.invariant g h)
