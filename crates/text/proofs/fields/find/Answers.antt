use mathlib.Core.Path.{◌∙◌}
use Rattle.text.proofs.Pieces.{looks_on, found, not-there}
use Rattle.text.proofs.fields.find.Goals as goal

pub returns-then-s-i : goal.returns-then-s-i
returns-then-s-i c = found c.args.s.now c.args.c c.loop-i.i c.loop-i-test.true c.if-s-i.true ∙ c.loop-i.invariant

pub loop-i-preserved : goal.loop-i-preserved
loop-i-preserved c = looks_on c.args.s.now c.args.c c.loop-i.i c.loop-i-test.true c.if-s-i.false ∙ c.loop-i.invariant

pub returns : goal.returns
returns c = c.max.ensures ∙ not-there c.args.s.now c.args.c c.args.at c.loop-i.i c.loop-i-test.false c.loop-i.auto.i-end c.loop-i.invariant
