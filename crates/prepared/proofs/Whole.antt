-- What is read over the tables of an accepted description is what the description gives, over all pairs. Assumes nothing.
use Prim.Native.Nat.{ℕ, zero, suc, ◌+◌, ◌*◌, ◌<◌, ◌≤◌}
use native.Mathlib.Omega.{arith}
use mathlib.Core.Path.{◌≡◌, refl, sym, ap, ap₂, subst, ◌∙◌}
use mathlib.Core.Bool.{Bool, true, false, not, ◌&&◌}
use mathlib.Core.List.{List, ◌∷◌, ◌++◌, map}
use lib.Dec.{leb, ltb, eqb}
use lib.ListN.{length}
use lib.Ieee.{Float}
use borrow.Author.Tests.{le-ltb, ltb-true}
use Rattle.laws.specs.Fill.{filled}
use Rattle.laws.specs.Lists.{list_in, flat}
use Rattle.laws.specs.Loops.{any_in}
use Rattle.laws.proofs.Choice.{or_no}
use Rattle.laws.proofs.Finite.{any-all}
use Rattle.laws.proofs.Sums.{sum_same}
use Rattle.bodies.specs.Check.{Checked, and_then, refused_if, bodies_stand}
use Rattle.mechanism.specs.Check.{check_of, then_called, call_checked, answer_of}
use Rattle.mechanism.specs.Description.{pair_at}
use Rattle.bodies.specs.Pose.{bodies_placed, bodies_posed, pose_fits}
use Rattle.mechanism.specs.Pose.{pose_checked}
use Rattle.mechanism.specs.Rows.{place_row, value_row, gap_in}
use Rattle.mechanism.specs.Rows as Rows
use Rattle.mechanism.specs.declared.Mechanism.{Mechanism}
use Rattle.bodies.specs.declared.Problem.TheVariants.{LimitPassed, PoseNotMatching, NoSuchThing, TooFewRows}
use Rattle.bodies.specs.declared.pose.Pose.{Pose}
use Rattle.mechanism.specs.declared.rows.Row.{Row}
use Rattle.bodies.proofs.Checks.{goes_on, goes-on_if}
use Rattle.mechanism.proofs.Checks.{accepted-few, accepted-stand, posed_bodies}
use Rattle.sides.specs.Contacts.{pair_bound, mechanism_bound}
use Rattle.sides.specs.declared.contacts.PairFeatures.{PairFeatures}
use Rattle.strips.specs.Strips.{TableRows, side_at, row_a, row_b}
use Rattle.candidates.specs.Prepared.{bound_in}
use Rattle.proximities.specs.declared.Candidate.{Candidate}
use Rattle.overlap.specs.Overlap.{pair_overlap, pair_overlap_answer}
use Rattle.overlap.specs.Prepared.{pair_overlap_in, ask_checked, pair_overlap_answer_in}
use Rattle.governing.specs.Governing.{governing_of}
use Rattle.bearings.specs.Bearing.{row_at}
use Rattle.shown_rows.specs.Rows.{grad_of, slip_of, pair_rows, rows_of_pair, grads_of_pair, slips_of_pair, rows_of, grads_of, slips_of, rows_checked}
use Rattle.pair_rows.specs.PairRows.{candidate_at, shown_of, row_of}
use Rattle.prepared_rows.specs.Prepared.{rows_from, grads_from, slips_from, all_rows, all_grads, all_slips, bounds_in, falls_off, prepared_checked}
use Rattle.shown_rows.proofs.Fits.{feature_a, feature_b}
use Rattle.shown_rows.proofs.Fits as Fits
use Rattle.reading.specs.Reading.{no_pair_reading, pair_reading, pair_readings, read_if, reading_of}
use Rattle.reading.specs.Prepared.{pair_reading_in, pair_readings_in, read_in, read_checked}
use Rattle.reading.specs.declared.PairReading.{PairReading}
use Rattle.reading.specs.declared.Reading.{Reading}
use Rattle.prepared.specs.Prepared.{Holds, ReadsAs}
use Rattle.prepared.proofs.Pairs.{body_a_lem, body_b, features_read, bound-read, face-overlap_read, bearing-read, candidates_read, pair-overlap_read}
use Rattle.std.proofs.Common.{Option, Result, Ok, Err, is_ok}
use Rattle.bodies.specs.declared.Problem.{Problem}
use Rattle.mechanism.specs.declared.bearing.Bearing.{Bearing}

-- ---- lists over indexes on which two functions agree
flat_in : {A : Type 0} (f g : ℕ → List A) (k j : ℕ) → ((i : ℕ) → i < j + k → f i ≡ g i) → flat f (list_in (λ i. i) k j) ≡ flat g (list_in (λ i. i) k j)
unfolding flat list_in
flat_in f g zero j e = refl
flat_in {A} f g (suc k) j e = ap₂ (λ (a l : List A). a ++ l) (e j (omega arith)) (flat_in f g k (suc j) (λ i h. e i (omega arith)))

list_in_lem : {A : Type 0} (f g : ℕ → A) (k j : ℕ) → ((i : ℕ) → i < j + k → f i ≡ g i) → list_in f k j ≡ list_in g k j
unfolding list_in
list_in_lem f g zero j e = refl
list_in_lem {A} f g (suc k) j e = ap₂ (λ (a : A) (l : List A). a ∷ l) (e j (omega arith)) (list_in_lem f g k (suc j) (λ i h. e i (omega arith)))

-- ---- checks
-- where there is no such pair the number does not matter
no_pair_lem : (c : Checked) (fits : Bool) (x y : Float) → answer_of (then_called c fits false true) x ≡ answer_of (then_called c fits false true) y
no_pair_lem (Ok tt) true x y = refl
no_pair_lem (Ok tt) false x y = refl
no_pair_lem (Err p) fits x y = refl

module _ (m : Mechanism) (e : check_of m ≡ Ok tt) {t : TableRows} (held : Holds m t) where
  -- ---- the rows
  module _ (q : Pose) (margin : Float) where
    rows-of-pair : (i : ℕ) → i < m.pairs.count → rows_from t q margin i ≡ rows_of_pair m q margin i
    unfolding rows_from pair_rows
    rows-of-pair i h = ap (λ (cs : List Candidate). map (λ k. row_of i (candidate_at cs k)) (shown_of cs margin)) (candidates_read m e held i h q)

    grads-of-pair : (i : ℕ) → i < m.pairs.count → grads_from t m.bodies q margin i ≡ grads_of_pair m q margin i
    unfolding grads_from
    grads-of-pair i h = ap₂ (λ (f : PairFeatures) (l : List Row). flat (grad_of m.bodies q f) l) (features_read m e held i h) (rows-of-pair i h)

    slips-of-pair : (i : ℕ) → i < m.pairs.count → slips_from t m.bodies q margin i ≡ slips_of_pair m q margin i
    unfolding slips_from
    slips-of-pair i h = ap₂ (λ (f : PairFeatures) (l : List Row). flat (slip_of m.bodies q f) l) (features_read m e held i h) (rows-of-pair i h)

    all-rows : all_rows t q margin m.pairs.count ≡ rows_of m q margin
    unfolding rows_of
    all-rows = flat_in (rows_from t q margin) (rows_of_pair m q margin) m.pairs.count 0 (λ i h. rows-of-pair i (omega (arith, h)))

    all-grads : all_grads t m.bodies q margin m.pairs.count ≡ grads_of m q margin
    unfolding grads_of
    all-grads = flat_in (grads_from t m.bodies q margin) (grads_of_pair m q margin) m.pairs.count 0 (λ i h. grads-of-pair i (omega (arith, h)))

    all-slips : all_slips t m.bodies q margin m.pairs.count ≡ slips_of m q margin
    unfolding slips_of
    all-slips = flat_in (slips_from t m.bodies q margin) (slips_of_pair m q margin) m.pairs.count 0 (λ i h. slips-of-pair i (omega (arith, h)))

  -- ---- the checks
  all-bounds : bounds_in t m.pairs.count ≡ mechanism_bound m
  unfolding mechanism_bound
  all-bounds = sum_same (bound_in t) (pair_bound m) m.pairs.count (λ i h. bound-read m e held i h)

  few-pairs : ltb 16 m.pairs.count ≡ false
  few-pairs = le-ltb 16 m.pairs.count (accepted-few m e).pairs.count

  on_a_lem : (i : ℕ) → i < m.pairs.count → (side_at t (row_a i)).body ≤ m.bodies.count
  on_a_lem i h = subst (λ (b : ℕ). b ≤ m.bodies.count) (sym (body_a_lem m e held i h ∙ sym (feature_a m.parts m.outlines (pair_at m.pairs i)))) (Fits.body_a_lem m e i h)

  on_b_lem : (i : ℕ) → i < m.pairs.count → (side_at t (row_b i)).body ≤ m.bodies.count
  on_b_lem i h = subst (λ (b : ℕ). b ≤ m.bodies.count) (sym (body_b m e held i h ∙ sym (feature_b m.parts m.outlines (pair_at m.pairs i)))) (Fits.body_b m e i h)

  none-off : any_in (falls_off m.bodies.count t) m.pairs.count 0 ≡ false
  none-off = any-all (falls_off m.bodies.count t) m.pairs.count 0
      (λ i l h. or_no (ltb m.bodies.count (side_at t (row_b i)).body) (le-ltb m.bodies.count (side_at t (row_a i)).body (on_a_lem i (omega (arith, h))))
      ∙ le-ltb m.bodies.count (side_at t (row_b i)).body (on_b_lem i (omega (arith, h))))

  module _ (q : Pose) (w x y z : ℕ) where
    abbrev from : Bool → ℕ → Checked
    from off bound =
        let columns = bound * m.bodies.coords in
        and_then (refused_if (not (eqb q.count (m.bodies.count + 1))) PoseNotMatching)
        (and_then (refused_if off NoSuchThing)
        (refused_if (not ((leb bound w && leb bound x) && (leb columns y && leb columns z))) TooFewRows))

    checked-as : prepared_checked m.bodies m.pairs.count t q w x y z ≡ rows_checked m q w x y z
    unfolding prepared_checked
    checked-as =
        let here = from (any_in (falls_off m.bodies.count t) m.pairs.count 0) (bounds_in t m.pairs.count) in
        goes-on_if LimitPassed (and_then (bodies_stand m.bodies) here) few-pairs
        ∙ goes_on (bodies_stand m.bodies) here (ap is_ok (accepted-stand m e))
        ∙ ap₂ from none-off all-bounds
        ∙ sym (goes_on (check_of m) (from false (mechanism_bound m)) (ap is_ok e))

  -- ---- a pair's overlap, asked for by itself
  module _ (q : Pose) (i : ℕ) where
    abbrev fits : Bool
    fits = pose_fits m.bodies q

    -- the check of an accepted description and that of its bodies both accept
    ask_goes : ask_checked m.bodies m.pairs.count q i ≡ call_checked m fits (ltb i m.pairs.count) true
    ask_goes =
        goes-on_if LimitPassed (then_called (bodies_stand m.bodies) fits (ltb i m.pairs.count) true) few-pairs
        ∙ ap (λ (c : Checked). then_called c fits (ltb i m.pairs.count) true) (accepted-stand m e ∙ sym e)

    number_same : (known : Bool) → ltb i m.pairs.count ≡ known
        → answer_of (call_checked m fits known true) (pair_overlap_in t q i) ≡ answer_of (call_checked m fits known true) (pair_overlap m.parts m.outlines q (pair_at m.pairs i))
    number_same true h = ap (answer_of (call_checked m fits true true)) (pair-overlap_read m e held i (ltb-true i m.pairs.count h) q)
    number_same false h = no_pair_lem (check_of m) fits _ _

    overlap_asked : pair_overlap_answer_in t m.bodies m.pairs.count q i ≡ pair_overlap_answer m q i
    unfolding pair_overlap_answer_in pair_overlap_answer
    overlap_asked =
        ap (λ (c : Checked). answer_of c (pair_overlap_in t q i)) ask_goes
        ∙ number_same (ltb i m.pairs.count) refl

  -- ---- the readings
  module _ (q : Pose) where
    module _ (places : List (List ℕ)) (values : List (List Float)) (n : ℕ) where
      reading-of-pair : (i : ℕ) → i < m.pairs.count → pair_reading_in t q places values n i ≡ pair_reading m q places values n i
      reading-of-pair i h =
          let made : Float → Float → Option Bearing → PairReading = λ a b c. record { overlap = a; face_overlap = b; bearing = c } in
          ap₂ (λ (a b : Float). made a b (pair_reading_in t q places values n i).bearing) (pair-overlap_read m e held i h q) (face-overlap_read m e held i h q)
          ∙ ap (made (pair_reading m q places values n i).overlap (pair_reading m q places values n i).face_overlap)
          (bearing-read m e held i h q (row_at places values) (governing_of (Rows.pair_in places) (gap_in values) n i))

      all-readings : pair_readings_in t q places values n m.pairs.count ≡ pair_readings m q places values n
      all-readings = ap (filled 16 no_pair_reading) (list_in_lem (pair_reading_in t q places values n) (pair_reading m q places values n) m.pairs.count 0 (λ i h. reading-of-pair i (omega (arith, h))))

    read_by : (c : Checked) (rows : List Row) → read_in t c m.pairs.count q rows ≡ read_if c m q rows
    read_by (Ok tt) rows =
        let made : List PairReading → Result Reading Problem = λ l. Ok (record { count = length rows; pairs = m.pairs.count; pair = l }) in
        ap made (all-readings (map place_row rows) (map value_row rows) (length rows))
    read_by (Err p) rows = refl

    whole-reading : (margin : Float) (w x y z : ℕ)
        → read_in t (prepared_checked m.bodies m.pairs.count t q w x y z) m.pairs.count q (all_rows t q margin m.pairs.count)
        ≡ reading_of m q margin w x y z
    unfolding reading_of
    whole-reading margin w x y z =
        ap₂ (λ (c : Checked) (l : List Row). read_in t c m.pairs.count q l) (checked-as q w x y z) (all-rows q margin)
        ∙ read_by (rows_checked m q w x y z) (rows_of m q margin)

  read_checked-as : (entries : List (List Float)) (w x y z : ℕ)
      → read_checked m.bodies m.pairs.count t entries w x y z ≡ and_then (pose_checked m entries) (rows_checked m (bodies_placed m.bodies entries) w x y z)
  unfolding read_checked
  read_checked-as entries w x y z =
      goes-on_if LimitPassed (and_then (bodies_posed m.bodies entries) (prepared_checked m.bodies m.pairs.count t (bodies_placed m.bodies entries) w x y z)) few-pairs
      ∙ ap₂ and_then (posed_bodies m entries e) (checked-as (bodies_placed m.bodies entries) w x y z)

  pub prepared_reads : ReadsAs m t
  prepared_reads = record {
    rows = all-rows;
    grads = all-grads;
    slips = all-slips;
    bounds = all-bounds;
    checks = checked-as;
    pair_overlaps = overlap_asked;
    pair_readings = all-readings;
    reading = whole-reading;
    posed = λ entries. posed_bodies m entries e;
    read_checks = read_checked-as;
  }
