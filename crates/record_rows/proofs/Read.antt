-- The rows of a pair, written as numbers into arrays of 784, and read again as records; gradients and slips written into the rest of a slice. Assumes nothing.
use Prim.Native.Nat.{ℕ, ◌+◌, ◌*◌, ◌-◌, ◌<◌, ◌≤◌}
use native.Mathlib.Omega.{arith}
use native.Mathlib.Nat.{zero-add, zero-mul, add-mul}
use mathlib.Core.Path.{◌≡◌, refl, sym, ap, ap₂, ◌∙◌}
use mathlib.Core.List.{List, [], ◌++◌, map, append-nil}
use lib.Ieee.{Float}
use lib.ListN.{length, get_or, take, drop, length-map, length-drop, drop_of_length-le}
use lib.Seq.{sets, take_all, take-length, length-sets}
use Rattle.laws.proofs.Lists.{list_map, list_get, list_as}
use Rattle.bodies.specs.declared.pose.Pose.{Pose}
use Rattle.mechanism.specs.Description.{pair_at}
use Rattle.mechanism.specs.Piece.{letter_of, part_of, seg_of, piece_in}
use Rattle.mechanism.specs.Rows.{RowLists, place_row, value_row, row_in}
use Rattle.mechanism.specs.declared.Mechanism.{Mechanism}
use Rattle.mechanism.specs.declared.features.Piece.{Piece}
use Rattle.mechanism.specs.declared.features.Piece.TheVariants.{Segment, Arc, Vertex, Center}
use Rattle.mechanism.specs.declared.rows.Row.{Row}
use Rattle.sides.specs.Contacts.{pair_bound}
use Rattle.sides.proofs.Few.{accepted-few-features}
use Rattle.pair_rows.specs.PairRows.{Put, Room}
use Rattle.pair_rows.proofs.Store.{sets-get}
use Rattle.shown_rows.specs.Rows.{rows_of_pair, grads_of_pair, slips_of_pair}
use Rattle.shown_rows.proofs.OfPair.{rows_few}
use Rattle.record_rows.specs.Steps.{lists_in, row_at, records_in, held_in, PairRoom, PairRead}
use Rattle.record_rows.specs.declared.PairRecords.{PairRecords}
use Rattle.record_rows.proofs.Put.{sets-part}

-- ---- a row written into two arrays is read again
piece-again : (p : Piece) → piece_in (letter_of p) (part_of p) (seg_of p) ≡ p
piece-again (Segment p s) = refl
piece-again (Arc p s) = refl
piece-again (Vertex p s) = refl
piece-again (Center p) = refl

row-again : (r : Row) → row_in (place_row r) (value_row r) ≡ r
row-again r =
    ap₂ (λ (x : Piece) (y : Piece). record { pair = r.pair; feature = record { a = x; b = y }; gap = r.gap; normal = r.normal; point = r.point })
    (piece-again r.feature.a) (piece-again r.feature.b)

abbrev none : Row
none = row_in [] []

module _ (rows : List Row) where
  entry : {B : Type 0} (g : Row → B) (out : List B) (i : ℕ) (e : B) → length rows ≤ length out → i < length rows → get_or (sets out 0 (map g rows)) i e ≡ g (get_or rows i none)
  entry {B} g out i e h k =
      let n = length-map rows g in
      ap (λ (j : ℕ). get_or (sets out 0 (map g rows)) j e) (sym (zero-add i))
      ∙ sets-get (map g rows) out 0 (omega (arith, n, h)) i e (omega (arith, n, k))
      ∙ ap (λ (l : List B). get_or l i e) (list_map g rows none)
      ∙ list_get (λ (j : ℕ). g (get_or rows j none)) e (length rows) 0 i k ∙ ap (λ (j : ℕ). g (get_or rows j none)) (zero-add i)

  rows_back : (places : List (List ℕ)) (values : List (List Float)) → length rows ≤ length places → length rows ≤ length values
      → records_in (sets places 0 (map place_row rows)) (sets values 0 (map value_row rows)) (length rows) ≡ rows
  rows_back places values hp hv =
      list_as (row_at (sets places 0 (map place_row rows)) (sets values 0 (map value_row rows))) rows none
      (λ i h. ap₂ row_in (entry place_row places i [] hp h) (entry value_row values i [] hv h) ∙ row-again (get_or rows i none))
      (length rows) 0 (omega arith) ∙ take-length rows

-- ---- the rest of a slice, from `at` on
module _ {X : Type 0} (at : ℕ) (xs : List X) where
  abbrev rest : List X
  rest = take (length xs - at) (drop at xs)

  rest-is : rest ≡ drop at xs
  rest-is = let l = length-drop at xs in take_all (length xs - at) (drop at xs) (omega (arith, l))

  rest-long : length rest ≡ length xs - at
  rest-long = ap length rest-is ∙ length-drop at xs

  rest_back : (c : ℕ) (gs ys : List X) → ys ≡ sets rest (0 * c) gs → take at xs ++ (ys ++ drop (length xs - at) (drop at xs)) ≡ sets xs at gs
  rest_back c gs ys e =
      let l = length-drop at xs in
      ap (λ (t : List X). take at xs ++ (ys ++ t)) (drop_of_length-le (drop at xs) (let z : length (drop at xs) ≤ length xs - at = omega (arith, l) in z))
      ∙ ap (λ (t : List X). take at xs ++ t) (append-nil ys ∙ e ∙ ap (λ (k : ℕ). sets rest k gs) (zero-mul c) ∙ ap (λ (t : List X). sets t 0 gs) rest-is)
      ∙ sets-part at xs gs

-- what is written stands where the arrays were lent from
pub put-left : {coords at r : ℕ} {ps : List (List ℕ)} {vs : List (List Float)} {gs ss : List Float} {before after : RowLists} {p : List (List ℕ)} {v : List (List Float)} {g s : List Float}
    → Put coords ps vs gs ss at r before after → p ≡ after.places → v ≡ after.values → g ≡ after.grad → s ≡ after.slip → Put coords ps vs gs ss at r before (lists_in p v g s)
put-left put ep ev eg es = record { end = put.end; placed = ep ∙ put.placed; valued = ev ∙ put.valued; grads = eg ∙ put.grads; slips = es ∙ put.slips }

-- ---- one pair
module _ (m : Mechanism) (q : Pose) (margin : Float) (i at : ℕ) (grad slip : List Float) (pre : PairRoom m i at (length grad) (length slip))
    (places₀ : List (List ℕ)) (values₀ : List (List Float)) (lp : length places₀ ≡ 784) (lv : length values₀ ≡ 784) where
  abbrev start : ℕ
  start = at * m.bodies.coords

  abbrev pair-rows : List Row
  pair-rows = rows_of_pair m q margin i

  bound-few : pair_bound m i ≤ 784
  bound-few = (accepted-few-features m pre.accepted i pre.there).rows

  rows-within : length pair-rows ≤ 784
  rows-within =
      let a = rows_few m.bodies m.parts m.outlines q (pair_at m.pairs i) i margin in
      let b = bound-few in
      omega (arith, a, b)

  rest-room : (xs : List Float) → (at + pair_bound m i) * m.bodies.coords ≤ length xs → (0 + pair_bound m i) * m.bodies.coords ≤ length (rest start xs)
  rest-room xs h =
      let s = add-mul at (pair_bound m i) m.bodies.coords in
      let z : (0 + pair_bound m i) * m.bodies.coords ≡ pair_bound m i * m.bodies.coords = ap (λ (k : ℕ). k * m.bodies.coords) (zero-add (pair_bound m i)) in
      let l = rest-long start xs in
      omega (arith, s, z, l, h)

  abbrev pub parts-lent : RowLists
  parts-lent = record { places = places₀; values = values₀; grad = rest start grad; slip = rest start slip }

  pub pair-room : Room m.bodies.coords 0 (pair_bound m i) parts-lent
  pair-room =
      let b = bound-few in
      record {
        places_room = omega (arith, b, lp);
        values_room = omega (arith, b, lv);
        grad_room = rest-room grad pre.grad_room;
        slip_room = rest-room slip pre.slip_room;
      }

  module _ {n : ℕ} {after : RowLists}
      (put : Put m.bodies.coords (map place_row pair-rows) (map value_row pair-rows) (grads_of_pair m q margin i) (slips_of_pair m q margin i) 0 n parts-lent after) where
    n-is : n ≡ length pair-rows
    n-is = put.end ∙ zero-add (length (map place_row pair-rows)) ∙ length-map pair-rows place_row

    pub records_there : (n ≤ length after.places) × (n ≤ length after.values) × (n ≤ 784)
    records_there =
        let e = n-is in
        let w = rows-within in
        let a = ap length put.placed ∙ length-sets places₀ 0 (map place_row pair-rows) in
        let b = ap length put.valued ∙ length-sets values₀ 0 (map value_row pair-rows) in
        (omega (arith, e, w, a, lp), omega (arith, e, w, b, lv), omega (arith, e, w))

    pub pair_read : {r : PairRecords} → (r.count ≡ n) × (held_in r ≡ records_in after.places after.values n)
        → PairRead m q margin i at r grad (take start grad ++ (after.grad ++ drop (length grad - start) (drop start grad)))
        slip (take start slip ++ (after.slip ++ drop (length slip - start) (drop start slip)))
    pair_read held =
        let w = rows-within in
        let e = n-is in
        let c = held.0 in
        record {
          few = omega (arith, w, e, c);
          counted = c ∙ e;
          held = held.1 ∙ ap (records_in after.places after.values) e
              ∙ ap₂ (λ (p : List (List ℕ)) (v : List (List Float)). records_in p v (length pair-rows)) put.placed put.valued
              ∙ rows_back pair-rows places₀ values₀ (omega (arith, w, lp)) (omega (arith, w, lv));
          grads = rest_back start grad m.bodies.coords (grads_of_pair m q margin i) after.grad put.grads;
          slips = rest_back start slip m.bodies.coords (slips_of_pair m q margin i) after.slip put.slips;
        }
