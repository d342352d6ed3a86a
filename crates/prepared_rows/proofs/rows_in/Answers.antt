use native.Mathlib.Omega.{arith}
use mathlib.Core.Path.{◌≡◌, refl, sym, ap, ◌∙◌}
use borrow.Author.Tests.{lt-ltb, le-ltb, eq-eqb, ne_eqb}
use Rattle.std.proofs.lemmas.Result.{err_from_is_err_and}
use Rattle.bodies.specs.Check.{bodies_stand}
use Rattle.bodies.proofs.Checks.{stand_few}
use Rattle.mechanism.specs.Rows.{lists_of}
use Rattle.strips.specs.Strips.{table_rows}
use Rattle.prepared_rows.specs.Prepared.{all_rows, all_grads, all_slips}
use Rattle.prepared_rows.proofs.FromRows.{checked-is, columns_few, room-tested, has_room-in}
use Rattle.shown_rows.proofs.Answer.{rows-over}
use Rattle.pair_rows.proofs.Behind.{same_still}
use Rattle.prepared_rows.proofs.rows_in.Goals as goal
use Rattle.std.proofs.Common.{Ok}

pub returns-then-n-gt16 : goal.returns-then-n-gt16
returns-then-n-gt16 c =
    let a = c.args in
    let e = checked-is a.bodies a.n (table_rows a.t.now) a.q (lists_of a.rows.now)
    (lt-ltb 16 a.n c.if-n-gt16.true) refl refl refl refl in
    record { value = rw e; after = rw e; same = same_still }

pub returns-in_err-bodies_stand : goal.returns-in_err-bodies_stand
returns-in_err-bodies_stand c =
    let a = c.args in
    let p = err_from_is_err_and c.from_residual.result c.from_residual.ensures.1 in
    let e = checked-is a.bodies a.n (table_rows a.t.now) a.q (lists_of a.rows.now)
    (le-ltb 16 a.n c.if-n-gt16.false) (sym c.bodies_stand.ensures ∙ c.in_err-bodies_stand.was) refl refl refl in
    record { value = rw (p.1, p.2, e); after = rw e; same = same_still }

pub overflow_add-bodies : goal.overflow_add-bodies
overflow_add-bodies c = let a = c.args in let b : bodies_stand a.bodies ≡ Ok tt = sym c.bodies_stand.ensures ∙ c.in_ok-bodies_stand.was in let f = stand_few a.bodies b in omega (arith, f.0)

pub returns-then-q-bodies : goal.returns-then-q-bodies
returns-then-q-bodies c =
    let a = c.args in
    let b : bodies_stand a.bodies ≡ Ok tt = sym c.bodies_stand.ensures ∙ c.in_ok-bodies_stand.was in
    let e = checked-is a.bodies a.n (table_rows a.t.now) a.q (lists_of a.rows.now)
    (le-ltb 16 a.n c.if-n-gt16.false) b (ne_eqb _ _ c.if-q-bodies.true) refl refl in
    record { value = rw e; after = rw e; same = same_still }

pub returns-then-falls_off : goal.returns-then-falls_off
returns-then-falls_off c =
    let a = c.args in
    let b : bodies_stand a.bodies ≡ Ok tt = sym c.bodies_stand.ensures ∙ c.in_ok-bodies_stand.was in
    let e = checked-is a.bodies a.n (table_rows a.t.now) a.q (lists_of a.rows.now)
    (le-ltb 16 a.n c.if-n-gt16.false) b (eq-eqb _ _ c.if-q-bodies.false) (sym c.falls_off.ensures ∙ c.if-falls_off.true) refl in
    record { value = rw e; after = rw e; same = same_still }

pub overflow_mul-columns : goal.overflow_mul-columns
overflow_mul-columns c =
    let a = c.args in
    let b : bodies_stand a.bodies ≡ Ok tt = sym c.bodies_stand.ensures ∙ c.in_ok-bodies_stand.was in
    let k = columns_few _ a.bodies.coords c.bounds_in-bound.ensures.1 (stand_few a.bodies b).1 in
    omega (arith, k)

pub put_pairs-requires : goal.put_pairs-requires
put_pairs-requires c =
    let a = c.args in
    let b : bodies_stand a.bodies ≡ Ok tt = sym c.bodies_stand.ensures ∙ c.in_ok-bodies_stand.was in (
      (stand_few a.bodies b).1,
      c.if-n-gt16.false,
      let d = c.bounds_in-bound.ensures in omega (arith, d.0, d.1),
      has_room-in a.bodies (table_rows a.t.now) a.n (lists_of a.rows.now) (room-tested a.bodies (table_rows a.t.now) a.n _ _ _ _ c.bounds_in-bound.ensures.0 c.if-bound-rows.true),
    )

pub returns-then-bound-rows : goal.returns-then-bound-rows
returns-then-bound-rows c =
    let a = c.args in
    let b : bodies_stand a.bodies ≡ Ok tt = sym c.bodies_stand.ensures ∙ c.in_ok-bodies_stand.was in
    let e = checked-is a.bodies a.n (table_rows a.t.now) a.q (lists_of a.rows.now)
    (le-ltb 16 a.n c.if-n-gt16.false) b (eq-eqb _ _ c.if-q-bodies.false) (sym c.falls_off.ensures ∙ c.if-falls_off.false)
    (room-tested a.bodies (table_rows a.t.now) a.n _ _ _ _ c.bounds_in-bound.ensures.0 c.if-bound-rows.true) in
    let l = table_rows a.t.now in
    let all = rows-over a.bodies.coords (all_rows l a.q a.margin a.n) (all_grads l a.bodies a.q a.margin a.n)
    (all_slips l a.bodies a.q a.margin a.n) c.put_pairs.ensures.written in
    record { value = rw e (ap (λ k. Ok k) all.0); after = rw e all.1; same = c.put_pairs.ensures.same }

pub returns : goal.returns
returns c =
    let a = c.args in
    let b : bodies_stand a.bodies ≡ Ok tt = sym c.bodies_stand.ensures ∙ c.in_ok-bodies_stand.was in
    let e = checked-is a.bodies a.n (table_rows a.t.now) a.q (lists_of a.rows.now)
    (le-ltb 16 a.n c.if-n-gt16.false) b (eq-eqb _ _ c.if-q-bodies.false) (sym c.falls_off.ensures ∙ c.if-falls_off.false)
    (room-tested a.bodies (table_rows a.t.now) a.n _ _ _ _ c.bounds_in-bound.ensures.0 c.if-bound-rows.false) in
    record { value = rw e; after = rw e; same = same_still }
