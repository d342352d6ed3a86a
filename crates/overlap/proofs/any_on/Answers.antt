use native.Mathlib.Omega.{arith}
use mathlib.Core.Path.{sym, ◌∙◌}
use mathlib.Core.Bool.{◌&&◌}
use lib.Dec.{eqb}
use Rattle.laws.proofs.Loops.{any-yes, any-no, any-done}
use Rattle.mechanism.specs.Description.{part_at}
use Rattle.overlap.specs.Overlap.{owner_at}
use Rattle.overlap.proofs.any_on.Goals as goal

pub returns-then-w-j : goal.returns-then-w-j
returns-then-w-j c =
    let s = c.args in
    sym (any-yes (λ i. owner_at s.w i && eqb (part_at s.ps.now i).body s.body) s.ps.now.count c.loop-j.j (omega arith) c.if-w-j.true) ∙ c.loop-j.invariant

pub loop-j-preserved : goal.loop-j-preserved
loop-j-preserved c =
    let s = c.args in
    sym (any-no (λ i. owner_at s.w i && eqb (part_at s.ps.now i).body s.body) s.ps.now.count c.loop-j.j (omega arith) c.if-w-j.false) ∙ c.loop-j.invariant

pub returns : goal.returns
returns c =
    let s = c.args in
    sym (any-done (λ i. owner_at s.w i && eqb (part_at s.ps.now i).body s.body) s.ps.now.count c.loop-j.j (omega arith)) ∙ c.loop-j.invariant
