-- What `read` answers where it is accepted. Assumes nothing.
use Prim.Native.Nat.{ℕ, ◌≤◌}
use native.Mathlib.Omega.{arith}
use mathlib.Core.Path.{◌≡◌, sym, ap, ◌∙◌}
use mathlib.Core.Bool.{true}
use mathlib.Core.List.{List}
use lib.Ieee.{Float}
use lib.ListN.{length}
use Rattle.mechanism.specs.Check.{check_of}
use Rattle.mechanism.specs.Description.{pair_at}
use Rattle.bodies.specs.Pose.{pose_fits}
use Rattle.mechanism.specs.Rows.{RowLists}
use Rattle.mechanism.specs.declared.Mechanism.{Mechanism}
use Rattle.bodies.specs.declared.pose.Pose.{Pose}
use Rattle.mechanism.specs.declared.rows.Row.{Row}
use Rattle.mechanism.proofs.Checks.{call_accepted}
use Rattle.overlap.specs.Overlap.{pair_overlap}
use Rattle.faces.specs.Faces.{sides_overlap}
use Rattle.shown_rows.specs.Rows.{features_of_pair, rows_of, grads_of, slips_of, rows_asked, room_for, shown_lists, answer_if, rows_over}
use Rattle.shown_rows.proofs.Total.{all-few}
use Rattle.shown_rows.proofs.Answer.{has_room}
use Rattle.reading.specs.Reading.{pair_reading, pair_readings, read_if, reading_of, reading_asked}
use Rattle.reading.specs.declared.PairReading.{PairReading}
use Rattle.reading.specs.declared.Reading.{Reading}
use Rattle.reading.proofs.Arrays.{bearing-back}
use Rattle.reading.proofs.Told.{Fit, Back, known, there, read_by_rows}
use Rattle.std.proofs.Common.{Option, Ok}
use Rattle.bodies.specs.Check.{Checked}
use Rattle.mechanism.specs.declared.bearing.Bearing.{Bearing}

module _ (m : Mechanism) (q : Pose) (margin : Float) (b : RowLists) where
  abbrev checked : Checked
  checked = rows_asked m q b

  abbrev rows : List Row
  rows = rows_of m q margin

  fits : checked ≡ Ok tt → (check_of m ≡ Ok tt) × Fit m.pairs.count (pair_reading m q) rows b
  fits e =
      let a = call_accepted m (pose_fits m.bodies q) true (room_for m (length b.places) (length b.values) (length b.grad) (length b.slip)) e in
      let r = has_room m b a.3 in
      let p = r.places_room in
      let v = r.values_room in
      let f = all-few m q margin in
      (a.0, (omega (arith, p, f), omega (arith, v, f)))

  back : Back m.pairs.count (pair_reading m q) rows b
  back i h = ap bears_by (bearing-back (features_of_pair m i) q rows b.places b.values i h.0 h.1)
    where
      bears_by : Option Bearing → PairReading
      bears_by g = record { overlap = pair_overlap m.parts m.outlines q (pair_at m.pairs i); face_overlap = sides_overlap (features_of_pair m i) q; bearing = g }

  module _ {n : ℕ} {a : RowLists} (e : Ok n ≡ answer_if checked (length rows)) (after : a ≡ rows_over checked (shown_lists m q margin) b) where
    fit : checked ≡ Ok tt → Fit m.pairs.count (pair_reading m q) rows b
    fit h = (fits h).1

    accepted : checked ≡ Ok tt
    accepted = (known m.pairs.count (pair_reading m q) rows b (grads_of m q margin) (slips_of m q margin) checked fit e after).0

    -- what `read_by` asks for
    pub ready : (check_of m ≡ Ok tt) × (n ≤ length a.places) × (n ≤ length a.values)
    ready =
        let t = there m.pairs.count (pair_reading m q) rows b (grads_of m q margin) (slips_of m q margin) checked fit e after in
        ((fits accepted).0, t.0, t.1)

    pub read_accepted : {r : Reading} → r ≡ record { count = n; pairs = m.pairs.count; pair = pair_readings m q a.places a.values n } → Ok r ≡ reading_asked m q margin b
    unfolding reading_of
    read_accepted k =
        ap Ok (k ∙ read_by_rows m.pairs.count (pair_reading m q) rows b (grads_of m q margin) (slips_of m q margin) checked fit e after back)
        ∙ sym (ap (λ (c : Checked). read_if c m q rows) accepted)
