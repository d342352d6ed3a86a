-- What `read_in` answers over a prepared description where it is accepted. Assumes nothing.
use Prim.Native.Nat.{ℕ, ◌≤◌}
use native.Mathlib.Omega.{arith}
use mathlib.Core.Path.{◌≡◌, sym, ap, ◌∙◌}
use mathlib.Core.List.{List}
use lib.Ieee.{Float}
use lib.ListN.{length}
use Rattle.bodies.specs.Check.{Checked}
use Rattle.mechanism.specs.Rows.{RowLists}
use Rattle.bodies.specs.declared.Bodies.{Bodies}
use Rattle.bodies.specs.declared.pose.Pose.{Pose}
use Rattle.mechanism.specs.declared.rows.Row.{Row}
use Rattle.strips.specs.Strips.{TableRows, pair_in}
use Rattle.overlap.specs.Prepared.{pair_overlap_in}
use Rattle.faces.specs.Prepared.{face_overlap_in}
use Rattle.shown_rows.specs.Rows.{answer_if, rows_over}
use Rattle.prepared_rows.specs.Prepared.{all_rows, all_grads, all_slips, prepared_asked, prepared_lists}
use Rattle.prepared_rows.proofs.FromRows.{accepted-room, all-rows-few}
use Rattle.reading.specs.Prepared.{pair_reading_in, pair_readings_in, read_in}
use Rattle.reading.specs.declared.PairReading.{PairReading}
use Rattle.reading.specs.declared.Reading.{Reading}
use Rattle.reading.proofs.Arrays.{bearing-back}
use Rattle.reading.proofs.Told.{Fit, Back, known, there, read_by_rows}
use Rattle.std.proofs.Common.{Option, Ok}
use Rattle.mechanism.specs.declared.bearing.Bearing.{Bearing}

module _ (t : TableRows) (bodies : Bodies) (pairs : ℕ) (q : Pose) (margin : Float) (b : RowLists) where
  abbrev checked : Checked
  checked = prepared_asked bodies pairs t q b

  abbrev rows : List Row
  rows = all_rows t q margin pairs

  fits : checked ≡ Ok tt → (pairs ≤ 16) × Fit pairs (pair_reading_in t q) rows b
  fits e =
      let a = accepted-room bodies pairs t q b e in
      let f = all-rows-few t bodies q margin pairs in
      (a.0, (omega (arith, a.1, f), omega (arith, a.2, f)))

  back : Back pairs (pair_reading_in t q) rows b
  back i h = ap bears_by (bearing-back (pair_in t i) q rows b.places b.values i h.0 h.1)
    where
      bears_by : Option Bearing → PairReading
      bears_by g = record { overlap = pair_overlap_in t q i; face_overlap = face_overlap_in t q i; bearing = g }

  module _ {n : ℕ} {a : RowLists} (e : Ok n ≡ answer_if checked (length rows)) (after : a ≡ rows_over checked (prepared_lists t bodies q margin pairs) b) where
    fit : checked ≡ Ok tt → Fit pairs (pair_reading_in t q) rows b
    fit h = (fits h).1

    accepted : checked ≡ Ok tt
    accepted = (known pairs (pair_reading_in t q) rows b (all_grads t bodies q margin pairs) (all_slips t bodies q margin pairs) checked fit e after).0

    -- what `read_by` asks for
    pub over-ready : (pairs ≤ 16) × (n ≤ length a.places) × (n ≤ length a.values)
    over-ready =
        let k = there pairs (pair_reading_in t q) rows b (all_grads t bodies q margin pairs) (all_slips t bodies q margin pairs) checked fit e after in
        ((fits accepted).0, k.0, k.1)

    pub over-accepted : {r : Reading} → r ≡ record { count = n; pairs = pairs; pair = pair_readings_in t q a.places a.values n pairs } → Ok r ≡ read_in t checked pairs q rows
    over-accepted k =
        ap Ok (k ∙ read_by_rows pairs (pair_reading_in t q) rows b (all_grads t bodies q margin pairs) (all_slips t bodies q margin pairs) checked fit e after back)
        ∙ sym (ap (λ (c : Checked). read_in t c pairs q rows) accepted)
