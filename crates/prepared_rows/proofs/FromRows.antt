-- What is written of the pairs of a prepared description is their rows, with their gradients and slips. Assumes nothing.
use Prim.Native.Nat.{ℕ, ◌+◌, ◌*◌, ◌≤◌}
use native.Mathlib.Omega.{arith}
use native.Mathlib.Nat.{mul-le-mul}
use mathlib.Core.Path.{◌≡◌, refl, sym, ap, ap₂, ◌∙◌}
use mathlib.Core.Bool.{Bool, true, false, cond, not, ◌&&◌, false≢true}
use mathlib.Core.List.{List, [], map}
use lib.Dec.{leb, ltb, eqb}
use lib.Ieee.{Float}
use lib.ListN.{length, take, length-map}
use borrow.Author.Tests.{le-leb, ltb-false}
use Rattle.laws.specs.Loops.{any_in}
use Rattle.laws.proofs.Choice.{cond_yes}
use Rattle.laws.proofs.Lists.{list_length}
use Rattle.geometry.specs.Geometry.{vector_of}
use Rattle.bodies.specs.Check.{Checked, and_then, refused_if, bodies_stand}
use Rattle.bodies.specs.declared.Bodies.{Bodies}
use Rattle.bodies.specs.declared.Problem.TheVariants.{LimitPassed, PoseNotMatching, NoSuchThing, TooFewRows}
use Rattle.bodies.specs.declared.pose.Pose.{Pose}
use Rattle.mechanism.specs.Rows.{RowLists, place_row, value_row}
use Rattle.sides.specs.declared.contacts.PairFeatures.{PairFeatures}
use Rattle.strips.specs.Strips.{TableRows, side_at, row_a, row_b, pair_in}
use Rattle.strips.specs.declared.SideFacts.{SideFacts}
use Rattle.proximities.specs.Proximities.{Written}
use Rattle.proximities.specs.declared.Candidate.{Candidate}
use Rattle.proximities.proofs.Wrote.{wrote_same, wrote_length}
use Rattle.candidates.specs.Candidates.{features_candidates, center_candidates}
use Rattle.candidates.specs.Prepared.{bound_in, room_for_pair, candidates_from, material_of_side}
use Rattle.pair_rows.specs.PairRows.{candidate_at, shown_of, row_of, PutShown, room_behind, Put, Room, left_of}
use Rattle.pair_rows.proofs.Along.{along-long}
use Rattle.pair_rows.proofs.Behind.{room-less}
use Rattle.shown_rows.specs.Rows.{grad_of, slip_of}
use Rattle.shown_rows.proofs.AllPairs.{flat-long}
use Rattle.shown_rows.proofs.Answer.{has_room-for}
use Rattle.shown_rows.proofs.Fits.{features_few, center_few}
use Rattle.shown_rows.proofs.OfPair.{front-is, shown-few, put-read}
use Rattle.shown_rows.proofs.Total.{flat-few}
use Rattle.prepared_rows.specs.Prepared.{rows_from, grads_from, slips_from, all_rows, bounds_in, falls_off, room_in, prepared_checked, prepared_asked}
use Rattle.std.proofs.Common.{Ok, Err, is_ok}

module _ (t : TableRows) (q : Pose) (i : ℕ) where
  abbrev pair : PairFeatures
  pair = pair_in t i

  abbrev cs : List Candidate
  cs = candidates_from t q i

  abbrev a_facts : SideFacts
  a_facts = side_at t (row_a i)

  abbrev b_facts : SideFacts
  b_facts = side_at t (row_b i)

  -- how many faces and discs the sides have
  faces_a : pair.a.faces ≡ a_facts.faces
  unfolding pair_in
  faces_a = list_length _ a_facts.faces a_facts.face

  faces_b : pair.b.faces ≡ b_facts.faces
  unfolding pair_in
  faces_b = list_length _ b_facts.faces b_facts.face

  discs_a : pair.a.discs ≡ a_facts.discs
  unfolding pair_in
  discs_a = list_length _ a_facts.discs a_facts.disc

  discs_b : pair.b.discs ≡ b_facts.discs
  unfolding pair_in
  discs_b = list_length _ b_facts.discs b_facts.disc

  pub body_a_lem : a_facts.body ≡ pair.a.body
  unfolding pair_in
  body_a_lem = refl

  pub body_b : b_facts.body ≡ pair.b.body
  unfolding pair_in
  body_b = refl

  abbrev by_features : List Candidate
  by_features = features_candidates (material_of_side t q (row_a i)) (material_of_side t q (row_b i)) pair q

  abbrev by_center : List Candidate
  by_center = center_candidates (material_of_side t q (row_a i)) pair q

  abbrev many : ℕ
  many = a_facts.discs * b_facts.faces + b_facts.discs * a_facts.faces + a_facts.discs * b_facts.discs

  -- no more candidates than the bound
  few-by : (d : Bool) → length (cond d by_features by_center) ≤ cond d many a_facts.faces
  few-by true =
      let x = features_few (material_of_side t q (row_a i)) (material_of_side t q (row_b i)) pair q in
      let e : pair.a.discs * pair.b.faces ≡ a_facts.discs * b_facts.faces = ap₂ (λ (m n : ℕ). m * n) discs_a faces_b in
      let f : pair.b.discs * pair.a.faces ≡ b_facts.discs * a_facts.faces = ap₂ (λ (m n : ℕ). m * n) discs_b faces_a in
      let g : pair.a.discs * pair.b.discs ≡ a_facts.discs * b_facts.discs = ap₂ (λ (m n : ℕ). m * n) discs_a discs_b in
      omega (arith, x, e, f, g)
  few-by false =
      let x = center_few (material_of_side t q (row_a i)) pair q in
      let e = faces_a in
      omega (arith, x, e)

  pub few-from : length cs ≤ bound_in t i
  unfolding candidates_from
  few-from = few-by (eqb a_facts.geometry 0)

  module _ (b : Bodies) (m : Float) where
    pub rows_few : length (rows_from t q m i) ≤ bound_in t i
    unfolding rows_from
    rows_few =
        let a = length-map (shown_of cs m) (λ k. row_of i (candidate_at cs k)) in
        let f = shown-few cs m in
        let c = few-from in
        omega (arith, a, f, c)

    pub grads-long : length (grads_from t b q m i) ≡ length (rows_from t q m i) * b.coords
    unfolding grads_from grad_of
    grads-long = flat-long (grad_of b q pair) b.coords (λ r. along-long b q (vector_of r.normal) r.point pair.a.body pair.b.body) (rows_from t q m i)

    pub slips-long : length (slips_from t b q m i) ≡ length (rows_from t q m i) * b.coords
    unfolding slips_from slip_of
    slips-long = flat-long (slip_of b q pair) b.coords (λ r. along-long b q (left_of (vector_of r.normal)) r.point pair.a.body pair.b.body) (rows_from t q m i)

  -- all candidates are written where there is room for the bound
  module _ {n : ℕ} {before after : List Candidate} (h : bound_in t i ≤ length before)
      (u : Written (cond (room_for_pair t i (length before)) cs []) 0 n before after) where
    written : Written cs 0 n before after
    written = wrote_same (cond_yes cs [] (le-leb (bound_in t i) (length before) h)) u

    pub written-few : n ≤ length after
    written-few =
        let f = few-from in
        let k = written.end in
        let x = wrote_length written in
        omega (arith, f, k, x, h)

    module _ (b : Bodies) (m : Float) where
      pub put-from : {x y at r : ℕ} {lists lists' : RowLists} → x ≡ a_facts.body → y ≡ b_facts.body
          → b.coords ≤ 16 → at ≤ 23296 → bound_in t i ≤ 1456 → Room b.coords at (bound_in t i) lists
          → PutShown b q (record { pair = i; a = x; b = y }) (take n after) (cond (room_behind b.coords at (length (take n after)) lists) (shown_of (take n after) m) []) at r lists lists'
          → Put b.coords (map place_row (rows_from t q m i)) (map value_row (rows_from t q m i)) (grads_from t b q m i) (slips_from t b q m i) at r lists lists'
      unfolding rows_from grads_from slips_from
      put-from {at = at} {lists = lists} ea eb hc ha hb room v =
          let f = few-from in
          put-read b q m i pair (ea ∙ body_a_lem) (eb ∙ body_b)
          (front-is written (let z : length cs ≤ length before = omega (arith, f, h) in z))
          hc ha (let z : length cs ≤ 1456 = omega (arith, f, hb) in z) (room-less b.coords at (bound_in t i) lists f room) v

-- ---- refusals
pub has_room-in : (b : Bodies) (t : TableRows) (n : ℕ) (l : RowLists) → room_in b t n (length l.places) (length l.values) (length l.grad) (length l.slip) ≡ true
    → Room b.coords 0 (bounds_in t n) l
has_room-in b t n l e = has_room-for b.coords (bounds_in t n) l e

abbrev pub stages : Bool → Checked → Bool → Bool → Bool → Checked
stages many stand fits off room =
    and_then (refused_if many LimitPassed)
    (and_then stand (and_then (refused_if (not fits) PoseNotMatching) (and_then (refused_if off NoSuchThing) (refused_if (not room) TooFewRows))))

pub checked-is : (b : Bodies) (n : ℕ) (t : TableRows) (q : Pose) (l : RowLists) {many : Bool} {stand : Checked} {fits off room : Bool}
    → ltb 16 n ≡ many → bodies_stand b ≡ stand → eqb q.count (b.count + 1) ≡ fits → any_in (falls_off b.count t) n 0 ≡ off
    → room_in b t n (length l.places) (length l.values) (length l.grad) (length l.slip) ≡ room → prepared_asked b n t q l ≡ stages many stand fits off room
unfolding prepared_checked
checked-is b n t q l {many} {stand} {fits} {off} {room} e f g h k =
    let stood = bodies_stand b in
    let fitting = eqb q.count (b.count + 1) in
    let fallen = any_in (falls_off b.count t) n 0 in
    let roomy = room_in b t n (length l.places) (length l.values) (length l.grad) (length l.slip) in
    ap (λ (x : Bool). stages x stood fitting fallen roomy) e
    ∙ ap (λ (x : Checked). stages many x fitting fallen roomy) f
    ∙ ap (λ (x : Bool). stages many stand x fallen roomy) g
    ∙ ap (λ (x : Bool). stages many stand fits x roomy) h ∙ ap (stages many stand fits off) k

pub columns_few : (bound coords : ℕ) → bound ≤ 23296 → coords ≤ 16 → bound * coords ≤ 372736
columns_few bound coords h k = let p : bound * coords ≤ 23296 * 16 = mul-le-mul h k in omega (arith, p)

pub room-tested : (b : Bodies) (t : TableRows) (n w x y z : ℕ) {bound : ℕ} {d : Bool} → bound ≡ bounds_in t n
    → ((leb bound w && leb bound x) && (leb (bound * b.coords) y && leb (bound * b.coords) z)) ≡ d → room_in b t n w x y z ≡ d
room-tested b t n w x y z e f = ap (λ (k : ℕ). (leb k w && leb k x) && (leb (k * b.coords) y && leb (k * b.coords) z)) (sym e) ∙ f

-- ---- of a call that is not refused
stages-passed : (many : Bool) (stand : Checked) (fits off room : Bool) → stages many stand fits off room ≡ Ok tt → (many ≡ false) × (room ≡ true)
stages-passed true stand fits off room e = absurd (false≢true (ap is_ok e))
stages-passed false (Err p) fits off room e = absurd (false≢true (ap is_ok e))
stages-passed false (Ok tt) false off room e = absurd (false≢true (ap is_ok e))
stages-passed false (Ok tt) true true room e = absurd (false≢true (ap is_ok e))
stages-passed false (Ok tt) true false false e = absurd (false≢true (ap is_ok e))
stages-passed false (Ok tt) true false true e = (refl, refl)

pub accepted-room : (b : Bodies) (n : ℕ) (t : TableRows) (q : Pose) (l : RowLists) → prepared_asked b n t q l ≡ Ok tt
    → (n ≤ 16) × (bounds_in t n ≤ length l.places) × (bounds_in t n ≤ length l.values)
unfolding prepared_checked
accepted-room b n t q l e =
    let roomy = room_in b t n (length l.places) (length l.values) (length l.grad) (length l.slip) in
    let s = stages-passed (ltb 16 n) (bodies_stand b) (eqb q.count (b.count + 1)) (any_in (falls_off b.count t) n 0) roomy e in
    let r = has_room-in b t n l s.1 in
    let p = r.places_room in
    let v = r.values_room in
    (ltb-false 16 n s.0, omega (arith, p), omega (arith, v))

pub all-rows-few : (t : TableRows) (b : Bodies) (q : Pose) (margin : Float) (n : ℕ) → length (all_rows t q margin n) ≤ bounds_in t n
all-rows-few t b q margin n = flat-few (rows_from t q margin) (bound_in t) (λ i. rows_few t q i b margin) n 0
