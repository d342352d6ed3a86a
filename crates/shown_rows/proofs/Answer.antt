-- What `rows_in_numbers` answers and leaves in the lent arrays, refused and accepted. Assumes nothing.
use Prim.Native.Nat.{ℕ, ◌*◌, ◌≤◌}
use native.Mathlib.Omega.{arith}
use native.Mathlib.Nat.{zero-add, zero-mul, mul-le-mul}
use mathlib.Core.Path.{◌≡◌, sym, ap, ap₂, subst, ◌∙◌}
use mathlib.Core.Bool.{Bool, true, false, false≢true, not, ◌&&◌}
use mathlib.Core.List.{List, map}
use lib.Dec.{leb}
use lib.Ieee.{Float}
use lib.ListN.{length, length-map}
use lib.Seq.{sets}
use borrow.Author.Tests.{leb-true}
use Rattle.mechanism.specs.Rows.{RowLists, place_row, value_row}
use Rattle.laws.proofs.Choice.{both}
use Rattle.bodies.specs.Check.{Checked, and_then, refused_if}
use Rattle.mechanism.specs.Check.{check_of, call_checked}
use Rattle.bodies.specs.Pose.{pose_fits}
use Rattle.mechanism.specs.declared.Mechanism.{Mechanism}
use Rattle.bodies.specs.declared.Problem.{Problem}
use Rattle.bodies.specs.declared.Problem.TheVariants.{PoseNotMatching, NoSuchThing, TooFewRows}
use Rattle.bodies.specs.declared.pose.Pose.{Pose}
use Rattle.mechanism.specs.declared.rows.Row.{Row}
use Rattle.mechanism.proofs.Checks.{call_accepted, accepted-few}
use Rattle.sides.specs.Contacts.{mechanism_bound}
use Rattle.pair_rows.specs.PairRows.{Put, Room}
use Rattle.shown_rows.specs.Rows.{room_for, rows_checked, rows_over}
use Rattle.std.proofs.Common.{Ok, Err, is_ok}

-- ---- the list of a call whose room is asked last
still_refused : (c : Checked) (fits room : Bool) (p : Problem)
    → and_then c (and_then (refused_if (not fits) PoseNotMatching) (and_then (refused_if (not true) NoSuchThing) (refused_if (not true) TooFewRows))) ≡ Err p
    → and_then c (and_then (refused_if (not fits) PoseNotMatching) (and_then (refused_if (not true) NoSuchThing) (refused_if (not room) TooFewRows))) ≡ Err p
still_refused (Ok tt) true room p e = absurd (false≢true (sym (ap is_ok e)))
still_refused (Ok tt) false room p e = e
still_refused (Err x) fits room p e = e

pub call_refused : (m : Mechanism) (fits room : Bool) (p : Problem) → call_checked m fits true true ≡ Err p → call_checked m fits true room ≡ Err p
call_refused m fits room p e = still_refused (check_of m) fits room p e

pub room-last : (m : Mechanism) (fits room : Bool) → call_checked m fits true true ≡ Ok tt → call_checked m fits true room ≡ refused_if (not room) TooFewRows
room-last m fits room e =
    let a = call_accepted m fits true true e in
    ap₂ (λ (c : Checked) (b : Bool). and_then c (and_then (refused_if (not b) PoseNotMatching) (and_then (refused_if (not true) NoSuchThing) (refused_if (not room) TooFewRows)))) a.0 a.1

-- ---- room for k rows of `coords` numbers each, as it is tested
pub has_room-for : (coords k : ℕ) (l : RowLists)
    → ((leb k (length l.places) && leb k (length l.values)) && (leb (k * coords) (length l.grad) && leb (k * coords) (length l.slip))) ≡ true → Room coords 0 k l
has_room-for coords k l e =
    let x = both (leb k (length l.places) && leb k (length l.values)) (leb (k * coords) (length l.grad) && leb (k * coords) (length l.slip)) e in
    let y = both (leb k (length l.places)) (leb k (length l.values)) x.0 in
    let w = both (leb (k * coords) (length l.grad)) (leb (k * coords) (length l.slip)) x.1 in
    let z = zero-add k in
    record {
      places_room = subst (λ (j : ℕ). j ≤ length l.places) (sym z) (leb-true k (length l.places) y.0);
      values_room = subst (λ (j : ℕ). j ≤ length l.values) (sym z) (leb-true k (length l.values) y.1);
      grad_room = subst (λ (j : ℕ). j * coords ≤ length l.grad) (sym z) (leb-true (k * coords) (length l.grad) w.0);
      slip_room = subst (λ (j : ℕ). j * coords ≤ length l.slip) (sym z) (leb-true (k * coords) (length l.slip) w.1);
    }

module _ (m : Mechanism) where
  -- what is tested with the bound that was computed
  pub room-is : (places values grad slip : ℕ) {bound : ℕ} {b : Bool} → bound ≡ mechanism_bound m
      → ((leb bound places && leb bound values) && (leb (bound * m.bodies.coords) grad && leb (bound * m.bodies.coords) slip)) ≡ b
      → room_for m places values grad slip ≡ b
  room-is places values grad slip e t =
      ap (λ (k : ℕ). (leb k places && leb k values) && (leb (k * m.bodies.coords) grad && leb (k * m.bodies.coords) slip)) (sym e) ∙ t

  pub has_room : (l : RowLists) → room_for m (length l.places) (length l.values) (length l.grad) (length l.slip) ≡ true → Room m.bodies.coords 0 (mechanism_bound m) l
  has_room l e = has_room-for m.bodies.coords (mechanism_bound m) l e

pub columns_small : (m : Mechanism) (bound : ℕ) → check_of m ≡ Ok tt → bound ≤ 12544 → bound * m.bodies.coords ≤ 200704
columns_small m bound e h =
    let p : bound * m.bodies.coords ≤ 12544 * 16 = mul-le-mul h (accepted-few m e).coords in
    omega (arith, p)

-- ---- what is left in the arrays, where all rows are written and the call is not refused
pub rows-over : (coords : ℕ) (rows : List Row) (gs ss : List Float) {n : ℕ} {before after : RowLists}
    → Put coords (map place_row rows) (map value_row rows) gs ss 0 n before after
    → (n ≡ length rows) × (after ≡ rows_over (Ok tt) (record { places = map place_row rows; values = map value_row rows; grad = gs; slip = ss }) before)
rows-over coords rows gs ss {before = before} u =
    let z = zero-mul coords in (
      u.end ∙ zero-add (length (map place_row rows)) ∙ length-map rows place_row,
      lists_are u.placed u.valued (u.grads ∙ ap (λ (k : ℕ). sets before.grad k gs) z) (u.slips ∙ ap (λ (k : ℕ). sets before.slip k ss) z),
    )
  where
    lists_are : {l m : RowLists} → l.places ≡ m.places → l.values ≡ m.values → l.grad ≡ m.grad → l.slip ≡ m.slip → l ≡ m
    lists_are {l} {m} p v g s =
        ap₂ (λ (x : List (List ℕ)) (y : List (List Float)). record { places = x; values = y; grad = l.grad; slip = l.slip }) p v
        ∙ ap₂ (λ (x y : List Float). record { places = m.places; values = m.values; grad = x; slip = y }) g s

-- the answer of the whole list of refusals, where all but the room is known
module _ (m : Mechanism) (q : Pose) (a b c d : ℕ) where
  pub all-refused : (p : Problem) → call_checked m (pose_fits m.bodies q) true true ≡ Err p → rows_checked m q a b c d ≡ Err p
  all-refused p e = call_refused m (pose_fits m.bodies q) (room_for m a b c d) p e

  pub all-accepted : call_checked m (pose_fits m.bodies q) true true ≡ Ok tt → room_for m a b c d ≡ true → rows_checked m q a b c d ≡ Ok tt
  all-accepted e r = room-last m (pose_fits m.bodies q) (room_for m a b c d) e ∙ ap (λ (t : Bool). refused_if (not t) TooFewRows) r

  pub too_few : call_checked m (pose_fits m.bodies q) true true ≡ Ok tt → room_for m a b c d ≡ false → rows_checked m q a b c d ≡ Err TooFewRows
  too_few e r = room-last m (pose_fits m.bodies q) (room_for m a b c d) e ∙ ap (λ (t : Bool). refused_if (not t) TooFewRows) r
