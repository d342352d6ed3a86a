use native.Mathlib.Omega.{arith}
use mathlib.Core.Path.{sym, ◌∙◌}
use lib.Dec.{eqb}
use borrow.Author.Tests.{eq-eqb, ne_eqb}
use Rattle.laws.proofs.Lists.{any-yes, any-no, any-done}
use Rattle.mechanism.specs.Description.{range_at}
use Rattle.drawing.proofs.Known.{surface_long}
use Rattle.drawing.proofs.Sides.{ranges_list}
use Rattle.drawing.proofs.is_own.Goals as goal

pub loop-k-init : goal.loop-k-init
loop-k-init c =
    let s = c in
    ranges_list (λ r. eqb r.part s.args.i) s.args.u _ (surface_long s.args.u _ s.well_formed.0) c.ranges-k-end.ensures

pub offset_bounds-u-k : goal.offset_bounds-u-k
offset_bounds-u-k c = let h = c.ranges-k-end.ensures.0 in omega arith

pub bounds-u-k : goal.bounds-u-k
bounds-u-k c = let h = c.ranges-k-end.ensures.0 in omega arith

pub returns-then-u-k : goal.returns-then-u-k
returns-then-u-k c =
    let s = c in
    sym (any-yes (λ r. eqb r.part s.args.i) (range_at s.args.u) _ c.loop-k.k (omega arith) (eq-eqb _ _ c.if-u-k.true)) ∙ c.loop-k.invariant

pub loop-k-preserved : goal.loop-k-preserved
loop-k-preserved c =
    let s = c in
    sym (any-no (λ r. eqb r.part s.args.i) (range_at s.args.u) _ c.loop-k.k (omega arith) (ne_eqb _ _ c.if-u-k.false)) ∙ c.loop-k.invariant

pub returns : goal.returns
returns c =
    let s = c in
    sym (any-done (λ r. eqb r.part s.args.i) (range_at s.args.u) _ c.loop-k.k (omega arith)) ∙ c.loop-k.invariant
