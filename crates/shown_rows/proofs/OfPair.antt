-- What is written of one pair of an accepted description is its rows, with their gradients and slips. Assumes nothing.
use Prim.Native.Nat.{ℕ, ◌+◌, ◌*◌, ◌<◌, ◌≤◌}
use native.Mathlib.Omega.{arith}
use native.Mathlib.Nat.{zero-add}
use mathlib.Core.Path.{◌≡◌, refl, sym, ap, ap₂, subst, ◌∙◌}
use mathlib.Core.Bool.{cond}
use mathlib.Core.List.{List, [], ◌∷◌, map}
use lib.Ieee.{Float}
use lib.ListN.{length, take, length-map}
use lib.Seq.{sets}
use borrow.Author.Tests.{le-leb}
use Rattle.laws.specs.Lists.{flat}
use Rattle.laws.proofs.Finite.{filter-length}
use Rattle.laws.proofs.Choice.{and_yes, cond_yes}
use Rattle.laws.proofs.Lists.{flat_map}
use Rattle.geometry.specs.Geometry.{vector_of}
use Rattle.bodies.specs.declared.Bodies.{Bodies}
use Rattle.bodies.specs.declared.pose.Pose.{Pose}
use Rattle.mechanism.specs.Check.{check_of}
use Rattle.mechanism.specs.Description.{pair_at}
use Rattle.mechanism.specs.Rows.{RowLists, place_row, value_row}
use Rattle.mechanism.specs.declared.Mechanism.{Mechanism}
use Rattle.mechanism.specs.declared.Outlines.{Outlines}
use Rattle.mechanism.specs.declared.Parts.{Parts}
use Rattle.mechanism.specs.declared.pair.ContactPair.{ContactPair}
use Rattle.mechanism.specs.declared.rows.Row.{Row}
use Rattle.mechanism.proofs.Checks.{accepted-few}
use Rattle.mechanism.proofs.Drawn.{accepted-pair-drawn}
use Rattle.drawing.specs.Drawing.{body_of_side}
use Rattle.showing.specs.Showing.{shown}
use Rattle.sides.specs.Bounds.{row_bound}
use Rattle.sides.specs.Contacts.{pair_features, pair_bound}
use Rattle.sides.specs.declared.contacts.PairFeatures.{PairFeatures}
use Rattle.sides.proofs.Few.{accepted-few-features}
use Rattle.proximities.specs.Proximities.{Written}
use Rattle.proximities.specs.declared.Candidate.{Candidate}
use Rattle.proximities.proofs.Wrote.{wrote_same, wrote_length}
use Rattle.candidates.specs.Candidates.{candidate_room, pair_candidates}
use Rattle.pair_rows.specs.PairRows.{candidate_at, shown_of, row_of, along_of, left_of, Put, Room, PutShown, room_behind}
use Rattle.pair_rows.specs.declared.Source.{Source}
use Rattle.pair_rows.proofs.Along.{along-long}
use Rattle.pair_rows.proofs.Behind.{room-less, room-there, put-was_there}
use Rattle.pair_rows.proofs.Store.{sets-read}
use Rattle.shown_rows.specs.Rows.{pair_rows, grad_of, slip_of, rows_of_pair, grads_of_pair, slips_of_pair}
use Rattle.shown_rows.proofs.AllPairs.{flat-long, AllPairs, pairs-more}
use Rattle.shown_rows.proofs.Fits.{candidates_few, feature_a, feature_b}
use Rattle.std.proofs.Common.{Ok}

-- the candidates written to the front of an array are read from there
pub front-is : {cs : List Candidate} {n : ℕ} {before after : List Candidate} → Written cs 0 n before after → length cs ≤ length before → take n after ≡ cs
front-is {cs} {before = before} w h =
    ap₂ (λ (k : ℕ) (l : List Candidate). take k l) (w.end ∙ zero-add (length cs)) w.written
    ∙ sets-read cs before 0 (let z : 0 + length cs ≤ length before = omega (arith, h) in z)

-- no more are shown than there are
pub shown-few : (cs : List Candidate) (m : Float) → length (shown_of cs m) ≤ length cs
unfolding shown_of shown
shown-few cs m = filter-length _ (length cs) 0

map-twice : {A B C : Type 0} (f : B → C) (g : A → B) (l : List A) → map (λ x. f (g x)) l ≡ map f (map g l)
map-twice f g [] = refl
map-twice {C = C} f g (x ∷ l) = ap (λ (t : List C). f (g x) ∷ t) (map-twice f g l)

-- ---- what is written of candidates, where there is room, is their rows
module _ (b : Bodies) (q : Pose) (m : Float) (pair : ℕ) {x y : ℕ} (f : PairFeatures) (ea : x ≡ f.a.body) (eb : y ≡ f.b.body) where
  abbrev source : Source
  source = record { pair = pair; a = x; b = y }

  module _ (cs : List Candidate) where
    abbrev numbers : List ℕ
    numbers = shown_of cs m

    abbrev pub rows-shown : List Row
    rows-shown = map (λ i. row_of pair (candidate_at cs i)) numbers

    places-are : map (λ i. place_row (row_of pair (candidate_at cs i))) numbers ≡ map place_row rows-shown
    places-are = map-twice place_row (λ i. row_of pair (candidate_at cs i)) numbers

    values-are : map (λ i. value_row (row_of pair (candidate_at cs i))) numbers ≡ map value_row rows-shown
    values-are = map-twice value_row (λ i. row_of pair (candidate_at cs i)) numbers

    grads-are : flat (λ i. along_of b q (vector_of (candidate_at cs i).near.normal) (candidate_at cs i).near.point x y) numbers ≡ flat (grad_of b q f) rows-shown
    unfolding grad_of
    grads-are =
        ap₂ (λ (u v : ℕ). flat (λ i. along_of b q (vector_of (candidate_at cs i).near.normal) (candidate_at cs i).near.point u v) numbers) ea eb
        ∙ sym (flat_map (grad_of b q f) (λ i. row_of pair (candidate_at cs i)) numbers)

    slips-are : flat (λ i. along_of b q (left_of (vector_of (candidate_at cs i).near.normal)) (candidate_at cs i).near.point x y) numbers ≡ flat (slip_of b q f) rows-shown
    unfolding slip_of
    slips-are =
        ap₂ (λ (u v : ℕ). flat (λ i. along_of b q (left_of (vector_of (candidate_at cs i).near.normal)) (candidate_at cs i).near.point u v) numbers) ea eb
        ∙ sym (flat_map (slip_of b q f) (λ i. row_of pair (candidate_at cs i)) numbers)

    pub put-rows : {at r : ℕ} {before after : RowLists} → b.coords ≤ 16 → at ≤ 23296 → length cs ≤ 1456 → Room b.coords at (length cs) before
        → PutShown b q source cs (cond (room_behind b.coords at (length cs) before) numbers []) at r before after
        → Put b.coords (map place_row rows-shown) (map value_row rows-shown) (flat (grad_of b q f) rows-shown) (flat (slip_of b q f) rows-shown) at r before after
    put-rows {at} {before = before} hc ha hn room u =
        let w = put-was_there b q source cs numbers (room-there b.coords at (length cs) before hc ha hn room) u in
        record {
          end = w.end ∙ ap (λ (l : List (List ℕ)). at + length l) places-are;
          placed = w.placed ∙ ap (sets before.places at) places-are;
          valued = w.valued ∙ ap (sets before.values at) values-are;
          grads = w.grads ∙ ap (sets before.grad (at * b.coords)) grads-are;
          slips = w.slips ∙ ap (sets before.slip (at * b.coords)) slips-are;
        }

  -- the same of candidates that were read from an array
  pub put-read : {cs read : List Candidate} → read ≡ cs → {at r : ℕ} {before after : RowLists}
      → b.coords ≤ 16 → at ≤ 23296 → length cs ≤ 1456 → Room b.coords at (length cs) before
      → PutShown b q source read (cond (room_behind b.coords at (length read) before) (shown_of read m) []) at r before after
      → Put b.coords (map place_row (rows-shown cs)) (map value_row (rows-shown cs)) (flat (grad_of b q f) (rows-shown cs)) (flat (slip_of b q f) (rows-shown cs)) at r before after
  put-read {cs} e {at} {r} {before} {after} hc ha hn room u =
      put-rows cs hc ha hn room (subst (λ (l : List Candidate). PutShown b q source l (cond (room_behind b.coords at (length l) before) (shown_of l m) []) at r before after) e u)

-- ---- a pair
module _ (b : Bodies) (ps : Parts) (o : Outlines) (q : Pose) (p : ContactPair) (pair : ℕ) (m : Float) where
  -- as many gradients and slips as coordinates, for each row
  pub grads-long : length (flat (grad_of b q (pair_features ps o p)) (pair_rows ps o q p pair m)) ≡ length (pair_rows ps o q p pair m) * b.coords
  unfolding grad_of
  grads-long =
      let f = pair_features ps o p in
      flat-long (grad_of b q f) b.coords (λ r. along-long b q (vector_of r.normal) r.point f.a.body f.b.body) (pair_rows ps o q p pair m)

  pub slips-long : length (flat (slip_of b q (pair_features ps o p)) (pair_rows ps o q p pair m)) ≡ length (pair_rows ps o q p pair m) * b.coords
  unfolding slip_of
  slips-long =
      let f = pair_features ps o p in
      flat-long (slip_of b q f) b.coords (λ r. along-long b q (left_of (vector_of r.normal)) r.point f.a.body f.b.body) (pair_rows ps o q p pair m)

  -- no more rows than the bound
  pub rows_few : length (pair_rows ps o q p pair m) ≤ row_bound p.geometry (pair_features ps o p).a (pair_features ps o p).b
  unfolding pair_rows
  rows_few =
      let a = length-map (shown_of (pair_candidates ps o q p) m) (λ i. row_of pair (candidate_at (pair_candidates ps o q p) i)) in
      let f = shown-few (pair_candidates ps o q p) m in
      let c = candidates_few ps o q p in
      omega (arith, a, f, c)

-- ---- the candidates that a call has written of pair i of an accepted description
module _ (m : Mechanism) (e : check_of m ≡ Ok tt) (i : ℕ) (h : i < m.pairs.count) (q : Pose) {n : ℕ} {before after : List Candidate} (long : length before ≡ 784)
    (w : Written (cond (candidate_room m.parts (pair_at m.pairs i) (length before)) (pair_candidates m.parts m.outlines q (pair_at m.pairs i)) []) 0 n before after) where
  abbrev p : ContactPair
  p = pair_at m.pairs i

  abbrev cs : List Candidate
  cs = pair_candidates m.parts m.outlines q p

  all_there : Written cs 0 n before after
  all_there = wrote_same (cond_yes cs [] (and_yes _ (accepted-pair-drawn m e i h) ∙ le-leb 784 (length before) (let z : 784 ≤ length before = omega (arith, long) in z))) w

  pub there-long : length after ≡ 784
  there-long = wrote_length all_there ∙ long

  few : (length cs ≤ pair_bound m i) × (length cs ≤ 784)
  few =
      let c = candidates_few m.parts m.outlines q p in
      let f = (accepted-few-features m e i h).rows in
      (c, omega (arith, c, f))

  pub there-few : n ≤ length after
  there-few =
      let f = few.1 in
      let k = all_there.end in
      let l = there-long in
      omega (arith, f, k, l)

  pub there-put : (margin : Float) {x y at r : ℕ} {lists lists' : RowLists} → x ≡ body_of_side m.parts p.a → y ≡ body_of_side m.parts p.b
      → at ≤ 12544 → Room m.bodies.coords at (pair_bound m i) lists
      → PutShown m.bodies q (record { pair = i; a = x; b = y }) (take n after)
      (cond (room_behind m.bodies.coords at (length (take n after)) lists) (shown_of (take n after) margin) []) at r lists lists'
      → Put m.bodies.coords (map place_row (rows_of_pair m q margin i)) (map value_row (rows_of_pair m q margin i)) (grads_of_pair m q margin i) (slips_of_pair m q margin i) at r lists lists'
  unfolding pair_rows
  there-put margin {at = at} {lists = lists} ea eb small room u =
      let f = few.1 in
      put-read m.bodies q margin i (pair_features m.parts m.outlines p) (ea ∙ feature_a m.parts m.outlines p) (eb ∙ feature_b m.parts m.outlines p)
      (front-is all_there (let z : length cs ≤ length before = omega (arith, f, long) in z))
      (accepted-few m e).coords (let z : at ≤ 23296 = omega (arith, small) in z) (let z : length cs ≤ 1456 = omega (arith, f) in z)
      (room-less m.bodies.coords at (pair_bound m i) lists few.0 room) u

-- the next pair's rows behind those of the pairs before
pub next-pair : (m : Mechanism) (q : Pose) (margin : Float) {before now next : RowLists} {at r i : ℕ} → i < m.pairs.count
    → AllPairs (rows_of_pair m q margin) (grads_of_pair m q margin) (slips_of_pair m q margin) (pair_bound m) m.pairs.count m.bodies.coords before now at i
    → Put m.bodies.coords (map place_row (rows_of_pair m q margin i)) (map value_row (rows_of_pair m q margin i)) (grads_of_pair m q margin i) (slips_of_pair m q margin i) at r now next
    → AllPairs (rows_of_pair m q margin) (grads_of_pair m q margin) (slips_of_pair m q margin) (pair_bound m) m.pairs.count m.bodies.coords before next r (i + 1)
next-pair m q margin {i = i} h w u =
    let c = m.bodies in
    let p = pair_at m.pairs i in
    pairs-more w h (rows_few c m.parts m.outlines q p i margin) (grads-long c m.parts m.outlines q p i margin) (slips-long c m.parts m.outlines q p i margin) u
