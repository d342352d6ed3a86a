use Rattle.std.proofs.lemmas.Result.{err_from_is_err_and}
use native.Mathlib.Omega.{arith}
use mathlib.Core.Path.{sym, ap, ◌∙◌}
use mathlib.Core.Bool.{true}
use Rattle.mechanism.specs.Check.{call_checked}
use Rattle.mechanism.proofs.Checks.{call_accepted}
use Rattle.shown_rows.proofs.Answer.{room-is, columns_small, all-refused, all-accepted, too_few}
use Rattle.shown_rows.proofs.rows_checked.Goals as goal

pub bound_of-bound-requires : goal.bound_of-bound-requires
bound_of-bound-requires c = (call_accepted c.args.m c.fits.result true true (sym c.call_checked.ensures ∙ c.in_ok-call_checked.was)).0

pub overflow_mul-columns : goal.overflow_mul-columns
overflow_mul-columns c =
    let a = call_accepted c.args.m c.fits.result true true (sym c.call_checked.ensures ∙ c.in_ok-call_checked.was) in
    let p = columns_small c.args.m c.bound_of-bound.result a.0 c.bound_of-bound.ensures.1 in
    omega arith

pub returns-then-bound-places : goal.returns-then-bound-places
returns-then-bound-places c =
    let s = c.args in
    let e = ap (λ f. call_checked s.m f true true) (sym c.fits.ensures) ∙ sym c.call_checked.ensures ∙ c.in_ok-call_checked.was in
    let r = room-is s.m s.places s.values s.grad s.slip c.bound_of-bound.ensures.0 c.if-bound-places.true in
    sym (all-accepted s.m s.q s.places s.values s.grad s.slip e r)

pub returns-in_err-call_checked : goal.returns-in_err-call_checked
returns-in_err-call_checked c =
    let s = c.args in
    let p = err_from_is_err_and c.from_residual.result c.from_residual.ensures.1 in
    let e = ap (λ f. call_checked s.m f true true) (sym c.fits.ensures) ∙ sym c.call_checked.ensures ∙ c.in_err-call_checked.was in
    rw (p.1, p.2) (sym (all-refused s.m s.q s.places s.values s.grad s.slip _ e))

pub returns : goal.returns
returns c =
    let s = c.args in
    let e = ap (λ f. call_checked s.m f true true) (sym c.fits.ensures) ∙ sym c.call_checked.ensures ∙ c.in_ok-call_checked.was in
    let r = room-is s.m s.places s.values s.grad s.slip c.bound_of-bound.ensures.0 c.if-bound-places.false in
    sym (too_few s.m s.q s.places s.values s.grad s.slip e r)
