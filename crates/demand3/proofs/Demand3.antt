-- Demand 3, whole. Assumes nothing.
use Prim.Native.Nat.{ℕ, ◌<◌, ◌≤◌}
use mathlib.Core.Path.{◌≡◌, refl, sym, ap, ◌∙◌}
use mathlib.Core.Bool.{Bool, true, false, cond}
use mathlib.Core.List.{List, map}
use borrow.Author.Tests.{ltb-true, ltb-false}
use lib.Dec.{ltb}
use lib.ListN.{length, get_or}
use lib.Ieee.{Float}
use Rattle.mechanism.specs.Check.{check_of, then_called, call_checked}
use Rattle.mechanism.specs.Description.{pair_at}
use Rattle.mechanism.specs.Rows.{place_row, value_row}
use Rattle.mechanism.proofs.Checks.{call_accepted, accepted-few}
use Rattle.bodies.specs.Pose.{pose_fits}
use Rattle.mechanism.specs.declared.Mechanism.{Mechanism}
use Rattle.mechanism.specs.declared.bearing.Bearing.{Bearing}
use Rattle.bodies.specs.declared.pose.Pose.{Pose}
use Rattle.mechanism.specs.declared.rows.Row.{Row}
use Rattle.sides.specs.Contacts.{pair_features}
use Rattle.shown_rows.specs.Rows.{features_of_pair, rows_of, rows_checked, room_for}
use Rattle.shown_rows.proofs.Total.{all-few}
use Rattle.governing.specs.Governing.{governing_of}
use Rattle.governing.proofs.First.{governing-first}
use Rattle.bearings.specs.Bearing.{governed_bearing, bearing_if, bearing_from}
use Rattle.bearings.proofs.Repeats.{bearing-governed}
use Rattle.reading.specs.Reading.{no_pair_reading, pair_readings, read_if, reading_of}
use Rattle.reading.specs.declared.PairReading.{PairReading}
use Rattle.reading.specs.declared.Reading.{Reading}
use Rattle.reading.proofs.Arrays.{read_back, bearing-of-rows}
use Rattle.reading.proofs.There.{pair-there, pair-not_there}
use Rattle.demand3.specs.Demand3.{Repeats, Demand3}
use Rattle.demand3.proofs.Pieces.{at_most_one}
use Rattle.demand3.proofs.Pairs.{of_pair}
use Rattle.demand3.proofs.Rows.{all-margins, all-grads, all-slips, grad_long, slip_long, all_named}
use Rattle.std.proofs.Common.{Option, Some, None, Ok, Err}
use Rattle.bodies.specs.Check.{Checked}

-- ---- a bearing is of a pair of the description
known-pair : (c : Checked) (t : Bool) (x : Option Bearing) (b : Bearing) → bearing_if c (cond t x None) ≡ Ok (Some b) → t ≡ true
known-pair (Ok tt) true x b e = refl
known-pair (Ok tt) false x b e = absurd cc
known-pair (Err p) t x b e = absurd cc

module _ (m : Mechanism) (q : Pose) (row : ℕ → Row) (n p : ℕ) (b : Bearing) (e : bearing_from m q row n p ≡ Ok (Some b)) where
  in_description : p < m.pairs.count
  in_description = ltb-true p m.pairs.count (known-pair (call_checked m (pose_fits m.bodies q) true true) (ltb p m.pairs.count)
      (governed_bearing (pair_features m.parts m.outlines (pair_at m.pairs p)) q row (governing_of (λ k. (row k).pair) (λ k. (row k).gap) n p)) b e)

  repeats : Repeats row n p b
  repeats = let g = bearing-governed m q row n p b e in record { by = g.0; governs = g.1; gap = g.2; point = g.3 }

-- ---- the bearing of a whole reading is the one that is read by its own rows
-- room is asked for last
without_room : (c : Checked) (fits room : Bool) → then_called c fits true room ≡ Ok tt → then_called c fits true true ≡ Ok tt
without_room (Ok tt) true room e = refl
without_room (Ok tt) false room e = e
without_room (Err p) fits room e = e

module _ (m : Mechanism) (q : Pose) (g : Float) (places values grad slip p : ℕ) (none : Row) where
  abbrev rows : List Row
  rows = rows_of m q g

  abbrev whole : Reading
  whole = record { count = length rows; pairs = m.pairs.count; pair = pair_readings m q (map place_row rows) (map value_row rows) (length rows) }

  abbrev held : Reading → Option Bearing
  held r = (get_or r.pair p no_pair_reading).bearing

  -- by the rows themselves
  abbrev by_rows : Option Bearing
  by_rows = governed_bearing (features_of_pair m p) q (λ k. get_or rows k none)
      (governing_of (λ k. (get_or rows k none).pair) (λ k. (get_or rows k none).gap) (length rows) p)

  held-there : m.pairs.count ≤ 16 → p < m.pairs.count → held whole ≡ by_rows
  held-there few h =
      ap (λ (x : PairReading). x.bearing) (pair-there m q (map place_row rows) (map value_row rows) (length rows) p few h)
      ∙ bearing-of-rows (features_of_pair m p) q rows none p

  held-past : m.pairs.count ≤ 16 → m.pairs.count ≤ p → held whole ≡ None
  held-past few h = ap (λ (x : PairReading). x.bearing) (pair-not_there m q (map place_row rows) (map value_row rows) (length rows) p few h)

  module _ (b : Bearing) where
    accepted-bears : rows_checked m q places values grad slip ≡ Ok tt → held whole ≡ Some b
        → bearing_from m q (λ k. get_or rows k none) (length rows) p ≡ Ok (Some b)
    accepted-bears e h =
        let c = call_accepted m (pose_fits m.bodies q) true (room_for m places values grad slip) e in
        let few = (accepted-few m c.0).pairs.count in
        ap (λ (x : Checked). bearing_if x (cond (ltb p m.pairs.count) by_rows None))
        (without_room (check_of m) (pose_fits m.bodies q) (room_for m places values grad slip) e)
        ∙ ap Ok (there few (ltb p m.pairs.count) refl)
      where
        there : m.pairs.count ≤ 16 → (t : Bool) → ltb p m.pairs.count ≡ t → cond t by_rows None ≡ Some b
        there few true l = sym (held-there few (ltb-true p m.pairs.count l)) ∙ h
        there few false l = sym (held-past few (ltb-false p m.pairs.count l)) ∙ h

    read_bears : (c : Checked) (r : Reading) → rows_checked m q places values grad slip ≡ c → read_if c m q rows ≡ Ok r → held r ≡ Some b
        → bearing_from m q (λ k. get_or rows k none) (length rows) p ≡ Ok (Some b)
    read_bears (Ok tt) r e k h = let z : whole ≡ r = cc in accepted-bears e (ap held z ∙ h)
    read_bears (Err x) r e k h = absurd cc

    reading-bears : (r : Reading) → reading_of m q g places values grad slip ≡ Ok r → held r ≡ Some b
        → bearing_from m q (λ k. get_or rows k none) (length rows) p ≡ Ok (Some b)
    unfolding reading_of
    reading-bears r k h = read_bears (rows_checked m q places values grad slip) r refl k h

-- ---- all of it
pub demand_3 : (m : Mechanism) (q : Pose) → Demand3 m q
demand_3 m q = record {
  pairs = λ i. of_pair m q i;
  at_most_one = at_most_one;
  bound = λ g. all-few m q g;
  named = λ g i h. all_named m q g i h;
  margins = λ g h e. all-margins m q g h e;
  gradients = λ g. all-grads m q g;
  slips = λ g. all-slips m q g;
  gradient_long = λ r. grad_long m q r;
  slip_long = λ r. slip_long m q r;
  written = λ g places values j none a b h. read_back (rows_of m q g) places values j none a b h;
  governing = λ pair gap n p. governing-first pair gap n p;
  bearing = λ row n p b e. (in_description m q row n p b e, repeats m q row n p b e);
  reading_bearing = λ g places values grad slip p r b none k e.
      let row : ℕ → Row = λ k. get_or (rows_of m q g) k none in
      let n = length (rows_of m q g) in
      let h = reading-bears m q g places values grad slip p none b r k e in
      (in_description m q row n p b h, repeats m q row n p b h);
}
