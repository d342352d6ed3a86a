use native.Mathlib.Omega.{arith}
use mathlib.Core.Path.{sym, ◌∙◌}
use Rattle.laws.proofs.Choice.{cond_yes, cond_no}
use Rattle.sides.specs.Features.{center_of_side}
use Rattle.sides.proofs.Accepted.{is-drawn}
use Rattle.sides.proofs.center_of.Goals as goal

pub offset_bounds-ps-i : goal.offset_bounds-ps-i
offset_bounds-ps-i c =
    let d = is-drawn _ _ (sym c.side_drawn.ensures ∙ c.if-side_drawn.true) in
    let p = (d.1.drawn 0 d.1.some).part in
    let f = d.0.count in
    omega arith

pub bounds-ps-i : goal.bounds-ps-i
bounds-ps-i c =
    let d = is-drawn _ _ (sym c.side_drawn.ensures ∙ c.if-side_drawn.true) in
    let p = (d.1.drawn 0 d.1.some).part in
    let f = d.0.count in
    omega arith

pub center_in-requires : goal.center_in-requires
center_in-requires c = is-drawn _ _ (sym c.side_drawn.ensures ∙ c.if-side_drawn.true)

pub returns-then-side_drawn : goal.returns-then-side_drawn
unfolding center_of_side
returns-then-side_drawn c = simp c.center_in.ensures (sym (cond_yes _ _ (sym c.side_drawn.ensures ∙ c.if-side_drawn.true)))

pub returns : goal.returns
unfolding center_of_side
returns c = sym (cond_no _ _ (sym c.side_drawn.ensures ∙ c.if-side_drawn.false))
