use native.Mathlib.Omega.{arith}
use mathlib.Core.Path.{sym, ap, ◌∙◌}
use Rattle.laws.proofs.Lists.{any-yes, any-no, any-done}
use Rattle.mechanism.specs.Description.{part_at, range_at}
use Rattle.drawing.specs.Drawing.{is_sampled}
use Rattle.drawing.proofs.Known.{surface_long}
use Rattle.drawing.proofs.Sides.{ranges_list}
use Rattle.drawing.proofs.has_own.Goals as goal

pub loop-k-init : goal.loop-k-init
loop-k-init c =
    let s = c in
    ranges_list (λ r. is_sampled (part_at s.args.ps r.part)) s.args.u _ (surface_long s.args.u _ s.well_formed.1.0) c.ranges-k-end.ensures

pub offset_bounds-u-k : goal.offset_bounds-u-k
offset_bounds-u-k c = let h = c.ranges-k-end.ensures.0 in omega arith

pub bounds-u-k : goal.bounds-u-k
bounds-u-k c = let h = c.ranges-k-end.ensures.0 in omega arith

pub returns-then-is_sampled : goal.returns-then-is_sampled
returns-then-is_sampled c =
    let s = c in
    sym (any-yes (λ r. is_sampled (part_at s.args.ps r.part)) (range_at s.args.u) _ c.loop-k.k (omega arith)
    (ap is_sampled (sym c.part_at.ensures) ∙ sym c.is_sampled.ensures ∙ c.if-is_sampled.true)) ∙ c.loop-k.invariant

pub loop-k-preserved : goal.loop-k-preserved
loop-k-preserved c =
    let s = c in
    sym (any-no (λ r. is_sampled (part_at s.args.ps r.part)) (range_at s.args.u) _ c.loop-k.k (omega arith)
    (ap is_sampled (sym c.part_at.ensures) ∙ sym c.is_sampled.ensures ∙ c.if-is_sampled.false)) ∙ c.loop-k.invariant

pub returns : goal.returns
returns c =
    let s = c in
    sym (any-done (λ r. is_sampled (part_at s.args.ps r.part)) (range_at s.args.u) _ c.loop-k.k (omega arith)) ∙ c.loop-k.invariant
