-- Room behind the rows that are there, as it is tested, and what is written where there is room or none. Assumes nothing.
use Prim.Native.Nat.{ℕ, ◌+◌, ◌*◌, ◌≤◌}
use native.Mathlib.Omega.{arith}
use native.Mathlib.Nat.{add-zero, mul-le-mul}
use mathlib.Core.Path.{◌≡◌, refl, sym, subst, ◌∙◌}
use mathlib.Core.Bool.{Bool, true, false, cond, ◌&&◌}
use mathlib.Core.List.{List, []}
use lib.Dec.{leb}
use lib.ListN.{length}
use borrow.Author.Tests.{le-leb, leb-true}
use Rattle.laws.specs.Lists.{flat}
use Rattle.laws.proofs.Choice.{and_yes, cond_yes, cond_no, both}
use Rattle.bodies.specs.declared.Bodies.{Bodies}
use Rattle.bodies.specs.declared.pose.Pose.{Pose}
use Rattle.mechanism.specs.Rows.{RowLists}
use Rattle.mechanism.specs.declared.rows.LentRows.{LentRows}
use Rattle.proximities.specs.declared.Candidate.{Candidate}
use Rattle.pair_rows.specs.PairRows.{Room, room_behind, PutShown, SameArrays}
use Rattle.pair_rows.specs.declared.Source.{Source}

-- ---- the numbers are within their limits
module _ (coords at n : ℕ) where
  abbrev pub small : Bool
  small = leb coords 16 && (leb at 23296 && leb n 1456)

  pub small-are : small ≡ true → (coords ≤ 16) × (at ≤ 23296) × (n ≤ 1456)
  small-are e =
      let a = both (leb coords 16) (leb at 23296 && leb n 1456) e in
      let b = both (leb at 23296) (leb n 1456) a.1 in
      (leb-true coords 16 a.0, leb-true at 23296 b.0, leb-true n 1456 b.1)

  pub small-sum : small ≡ true → at + n ≤ 24752
  small-sum e = let s = small-are e in let a = s.1 in let b = s.2 in omega (arith, a, b)

  pub small_product : small ≡ true → (at + n) * coords ≤ 396032
  small_product e = let p : (at + n) * coords ≤ 24752 * 16 = mul-le-mul (small-sum e) (small-are e).0 in omega (arith, p)

-- ---- the arrays are long enough
module _ (coords at n : ℕ) (l : RowLists) where
  abbrev pub fits : Bool
  fits = (leb (at + n) (length l.places) && leb (at + n) (length l.values)) && (leb ((at + n) * coords) (length l.grad) && leb ((at + n) * coords) (length l.slip))

  pub fits-are : fits ≡ true → Room coords at n l
  fits-are e =
      let c = both (leb (at + n) (length l.places) && leb (at + n) (length l.values)) _ e in
      let d = both (leb (at + n) (length l.places)) (leb (at + n) (length l.values)) c.0 in
      let f = both (leb ((at + n) * coords) (length l.grad)) (leb ((at + n) * coords) (length l.slip)) c.1 in
      record {
        places_room = leb-true (at + n) (length l.places) d.0;
        values_room = leb-true (at + n) (length l.values) d.1;
        grad_room = leb-true ((at + n) * coords) (length l.grad) f.0;
        slip_room = leb-true ((at + n) * coords) (length l.slip) f.1;
      }

  pub room-is : small coords at n ≡ true → {b : Bool} → fits ≡ b → room_behind coords at n l ≡ b
  room-is s e = and_yes fits s ∙ e

  pub room-there : coords ≤ 16 → at ≤ 23296 → n ≤ 1456 → Room coords at n l → room_behind coords at n l ≡ true
  room-there hc ha hn w =
      room-is
      (and_yes _ (le-leb coords 16 hc) ∙ (and_yes _ (le-leb at 23296 ha) ∙ le-leb n 1456 hn))
      (and_yes _ (and_yes _ (le-leb (at + n) (length l.places) w.places_room) ∙ le-leb (at + n) (length l.values) w.values_room)
      ∙ (and_yes _ (le-leb ((at + n) * coords) (length l.grad) w.grad_room) ∙ le-leb ((at + n) * coords) (length l.slip) w.slip_room))

  -- room for fewer rows
  pub room-less : {k : ℕ} → k ≤ n → Room coords at n l → Room coords at k l
  room-less {k} h r =
      let x : at + k ≤ at + n = omega (arith, h) in
      let m : (at + k) * coords ≤ (at + n) * coords = mul-le-mul x (let z : coords ≤ coords = omega arith in z) in
      let ra = r.places_room in
      let rb = r.values_room in
      let rc = r.grad_room in
      let rd = r.slip_room in
      record { places_room = omega (arith, x, ra); values_room = omega (arith, x, rb); grad_room = omega (arith, m, rc); slip_room = omega (arith, m, rd) }

-- ---- what is written
module _ (b : Bodies) (q : Pose) (s : Source) (cs : List Candidate) (ks : List ℕ) where
  module _ {t : Bool} {at r : ℕ} {before after : RowLists} (e : t ≡ true) where
    pub put-there-is : PutShown b q s cs ks at r before after → PutShown b q s cs (cond t ks []) at r before after
    put-there-is w = subst (λ (l : List ℕ). PutShown b q s cs l at r before after) (sym (cond_yes ks [] e)) w

    pub put-was_there : PutShown b q s cs (cond t ks []) at r before after → PutShown b q s cs ks at r before after
    put-was_there w = subst (λ (l : List ℕ). PutShown b q s cs l at r before after) (cond_yes ks [] e) w

  pub put-nothing : {t : Bool} (at : ℕ) (l : RowLists) → t ≡ false → PutShown b q s cs (cond t ks []) at at l l
  unfolding flat
  put-nothing at l e = subst (λ (m : List ℕ). PutShown b q s cs m at at l l) (sym (cond_no ks [] e)) (record { end = sym (add-zero at); placed = refl; valued = refl; grads = refl; slips = refl })

-- ---- the arrays are the same
pub still_same : {x y z : LentRows} → SameArrays x y → SameArrays y z → SameArrays x z
still_same e f = record { places = f.places ∙ e.places; values = f.values ∙ e.values; grad = f.grad ∙ e.grad; slip = f.slip ∙ e.slip }

pub same_still : {x : LentRows} → SameArrays x x
same_still = record { places = refl; values = refl; grad = refl; slip = refl }
