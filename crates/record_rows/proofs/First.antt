-- The rows, gradients and slips of the first pairs, one pair behind the other: those of one pair more, the room for them, and those of all pairs. Assumes nothing.
use Prim.Native.Nat.{ℕ, zero, suc, ◌+◌, ◌*◌, ◌<◌, ◌≤◌}
use native.Mathlib.Omega.{arith}
use native.Mathlib.Nat.{zero-add, zero-mul, add-mul, mul-le-mul}
use mathlib.Core.Path.{◌≡◌, refl, sym, ap, subst, subst₂, ◌∙◌}
use mathlib.Core.Bool.{true, ◌&&◌}
use mathlib.Core.List.{List, ◌++◌}
use lib.Dec.{leb}
use lib.ListN.{length, length-append}
use lib.Seq.{sets, length-sets}
use lib.Ieee.{Float}
use borrow.Author.Tests.{leb-true}
use Rattle.laws.specs.Lists.{flat, list_in}
use Rattle.laws.specs.Loops.{join_in}
use Rattle.laws.proofs.Choice.{both}
use Rattle.laws.proofs.Fill.{join_more, join_nothing}
use Rattle.laws.proofs.Writing.{sets-append}
use Rattle.bodies.specs.Pose.{pose_fits}
use Rattle.bodies.specs.declared.pose.Pose.{Pose}
use Rattle.mechanism.specs.Description.{pair_at, sum_in}
use Rattle.mechanism.specs.declared.Mechanism.{Mechanism}
use Rattle.mechanism.specs.declared.rows.Row.{Row}
use Rattle.mechanism.proofs.Checks.{call_accepted}
use Rattle.sides.specs.Contacts.{pair_bound, mechanism_bound}
use Rattle.shown_rows.specs.Rows.{rows_of_pair, grads_of_pair, slips_of_pair, rows_of, grads_of, slips_of, room_for}
use Rattle.shown_rows.proofs.Bound.{bounds-part}
use Rattle.shown_rows.proofs.OfPair.{rows_few, grads-long, slips-long}
use Rattle.shown_rows.proofs.Total.{flat-few}
use Rattle.record_rows.specs.Records.{records_checked}
use Rattle.record_rows.specs.Steps.{rows_first, grads_first, slips_first, held_in, PairRoom, PairRead}
use Rattle.record_rows.specs.declared.PairRecords.{PairRecords}
use Rattle.std.proofs.Common.{Ok}

-- ---- lists joined pair by pair
joined : {A : Type 0} (f : ℕ → List A) (k j : ℕ) → flat f (list_in (λ i. i) k j) ≡ join_in f k j
unfolding flat list_in join_in
joined f zero j = refl
joined {A} f (suc k) j = ap (λ (l : List A). f j ++ l) (joined f k (suc j))

-- one more, from `at` on, where the others end
more-at : {A : Type 0} (f : ℕ → List A) (out : List A) (i at : ℕ) → at ≡ length (join_in f i 0)
    → sets (sets out 0 (join_in f i 0)) at (f i) ≡ sets out 0 (join_in f (i + 1) 0)
more-at f out i at e =
    ap (λ (k : ℕ). sets (sets out 0 (join_in f i 0)) k (f i)) (e ∙ sym (zero-add (length (join_in f i 0))))
    ∙ sym (sets-append (join_in f i 0) (f i) out 0) ∙ ap (sets out 0) (sym (join_more f i))

-- c entries for each row
joined-long : {A B : Type 0} (gs : ℕ → List B) (rows : ℕ → List A) (c : ℕ) → ((i : ℕ) → length (gs i) ≡ length (rows i) * c)
    → (k j : ℕ) → length (join_in gs k j) ≡ length (join_in rows k j) * c
unfolding join_in
joined-long gs rows c h zero j = sym (zero-mul c)
joined-long gs rows c h (suc k) j =
    let a = length-append (gs j) (join_in gs k (suc j)) in
    let b = ap (λ (n : ℕ). n * c) (length-append (rows j) (join_in rows k (suc j))) in
    let s = add-mul (length (rows j)) (length (join_in rows k (suc j))) c in
    let r = joined-long gs rows c h k (suc j) in
    let e = h j in
    a ∙ (let z : length (gs j) + length (join_in gs k (suc j)) ≡ length (rows j) * c + length (join_in rows k (suc j)) * c = omega (arith, r, e) in z)
    ∙ sym s ∙ sym b

-- ---- of a mechanism
module _ (m : Mechanism) (q : Pose) (margin : Float) where
  abbrev pub ats : ℕ → ℕ
  ats i = length (rows_first m q margin i)

  pub ats-more : (i n : ℕ) → n ≡ length (rows_of_pair m q margin i) → ats i + n ≡ ats (i + 1)
  ats-more i n e =
      ap (λ (k : ℕ). ats i + k) e ∙ sym (length-append (rows_first m q margin i) (rows_of_pair m q margin i))
      ∙ sym (ap length (join_more (rows_of_pair m q margin) i))

  pub rows_more : (out : List Row) (i : ℕ) → sets (sets out 0 (rows_first m q margin i)) (ats i) (rows_of_pair m q margin i) ≡ sets out 0 (rows_first m q margin (i + 1))
  rows_more out i = more-at (rows_of_pair m q margin) out i (ats i) refl

  pub grads-more : (grad : List Float) (i : ℕ)
      → sets (sets grad 0 (grads_first m q margin i)) (ats i * m.bodies.coords) (grads_of_pair m q margin i) ≡ sets grad 0 (grads_first m q margin (i + 1))
  grads-more grad i =
      more-at (grads_of_pair m q margin) grad i (ats i * m.bodies.coords)
      (sym (joined-long (grads_of_pair m q margin) (rows_of_pair m q margin) m.bodies.coords
      (λ j. grads-long m.bodies m.parts m.outlines q (pair_at m.pairs j) j margin) i 0))

  pub slips-more : (slip : List Float) (i : ℕ)
      → sets (sets slip 0 (slips_first m q margin i)) (ats i * m.bodies.coords) (slips_of_pair m q margin i) ≡ sets slip 0 (slips_first m q margin (i + 1))
  slips-more slip i =
      more-at (slips_of_pair m q margin) slip i (ats i * m.bodies.coords)
      (sym (joined-long (slips_of_pair m q margin) (rows_of_pair m q margin) m.bodies.coords
      (λ j. slips-long m.bodies m.parts m.outlines q (pair_at m.pairs j) j margin) i 0))

  -- no more rows than the pairs' bounds
  few-first : (i : ℕ) → ats i ≤ sum_in (pair_bound m) i 0
  few-first i =
      subst (λ (l : List Row). length l ≤ sum_in (pair_bound m) i 0) (joined (rows_of_pair m q margin) i 0)
      (flat-few (rows_of_pair m q margin) (pair_bound m) (λ j. rows_few m.bodies m.parts m.outlines q (pair_at m.pairs j) j margin) i 0)

  -- room for the next pair, where the call is not refused
  pub next-room : (out grad slip : ℕ) → records_checked m q out grad slip ≡ Ok tt → (i : ℕ) → i < m.pairs.count → PairRoom m i (ats i) grad slip × (ats i + pair_bound m i ≤ out)
  next-room out grad slip accepted i there =
      let c = call_accepted m (pose_fits m.bodies q) true (room_for m out out grad slip) accepted in
      let bound = mechanism_bound m in
      let columns = bound * m.bodies.coords in
      let x = both (leb bound out && leb bound out) (leb columns grad && leb columns slip) c.3 in
      let y = leb-true bound out (both (leb bound out) (leb bound out) x.0).0 in
      let z = both (leb columns grad) (leb columns slip) x.1 in
      let g = leb-true columns grad z.0 in
      let s = leb-true columns slip z.1 in
      let f = few-first i in
      let p = bounds-part m i there in
      let w : ats i + pair_bound m i ≤ bound = omega (arith, f, p) in
      let k : (ats i + pair_bound m i) * m.bodies.coords ≤ columns = mul-le-mul w (let t : m.bodies.coords ≤ m.bodies.coords = omega arith in t) in
      (record { accepted = c.0; there = there; grad_room = omega (arith, k, g); slip_room = omega (arith, k, s) }, omega (arith, w, y))

  -- those of all pairs
  pub all-rows : rows_first m q margin m.pairs.count ≡ rows_of m q margin
  unfolding rows_of
  all-rows = sym (joined (rows_of_pair m q margin) m.pairs.count 0)

  pub all-grads : grads_first m q margin m.pairs.count ≡ grads_of m q margin
  unfolding grads_of
  all-grads = sym (joined (grads_of_pair m q margin) m.pairs.count 0)

  pub all-slips : slips_first m q margin m.pairs.count ≡ slips_of m q margin
  unfolding slips_of
  all-slips = sym (joined (slips_of_pair m q margin) m.pairs.count 0)

-- ---- a turn of the loop over pairs
module _ (m : Mechanism) (q : Pose) (margin : Float) (out : List Row) (grad slip : List Float) where
  abbrev pub outs : ℕ → List Row
  outs i = sets out 0 (rows_first m q margin i)

  abbrev pub grads : ℕ → List Float
  grads i = sets grad 0 (grads_first m q margin i)

  abbrev pub slips : ℕ → List Float
  slips i = sets slip 0 (slips_first m q margin i)

  pub outs-long : (i : ℕ) → length (outs i) ≡ length out
  outs-long i = length-sets out 0 (rows_first m q margin i)

  pub grads-long-at : (i : ℕ) → length (grads i) ≡ length grad
  grads-long-at i = length-sets grad 0 (grads_first m q margin i)

  pub slips-long-at : (i : ℕ) → length (slips i) ≡ length slip
  slips-long-at i = length-sets slip 0 (slips_first m q margin i)

  -- before the first pair
  pub outs-none : out ≡ outs 0
  outs-none = sym (ap (λ (l : List Row). sets out 0 l) (join_nothing (rows_of_pair m q margin) 0))

  pub grads-none : grad ≡ grads 0
  grads-none = sym (ap (λ (l : List Float). sets grad 0 l) (join_nothing (grads_of_pair m q margin) 0))

  pub slips-none : slip ≡ slips 0
  slips-none = sym (ap (λ (l : List Float). sets slip 0 l) (join_nothing (slips_of_pair m q margin) 0))

  pub ats-none : 0 ≡ ats m q margin 0
  ats-none = sym (ap (λ (l : List Row). length l) (join_nothing (rows_of_pair m q margin) 0))

  module _ (e : records_checked m q (length out) (length grad) (length slip) ≡ Ok tt) (i : ℕ) (h : i < m.pairs.count) where
    pub asks_pair : PairRoom m i (ats m q margin i) (length (grads i)) (length (slips i))
    asks_pair =
        subst₂ (λ (g s : ℕ). PairRoom m i (ats m q margin i) g s) (sym (grads-long-at i)) (sym (slips-long-at i))
        (next-room m q margin (length out) (length grad) (length slip) e i h).0

    module _ {r : PairRecords} {gs ss : List Float} (read : PairRead m q margin i (ats m q margin i) r (grads i) gs (slips i) ss) where
      pub asks_put : (r.count ≤ 784) × (ats m q margin i + r.count ≤ length (outs i))
      asks_put =
          let a = (next-room m q margin (length out) (length grad) (length slip) e i h).1 in
          let b = rows_few m.bodies m.parts m.outlines q (pair_at m.pairs i) i margin in
          let c = read.counted in
          let l = outs-long i in
          (read.few, omega (arith, a, b, c, l))

      pub then_at : {k : ℕ} → k ≡ ats m q margin i + r.count → k ≡ ats m q margin (i + 1)
      then_at z = z ∙ ats-more m q margin i r.count read.counted

      pub then-out : {zs : List Row} → zs ≡ sets (outs i) (ats m q margin i) (held_in r) → zs ≡ outs (i + 1)
      then-out z = z ∙ ap (sets (outs i) (ats m q margin i)) read.held ∙ rows_more m q margin out i

      pub then-grad : gs ≡ grads (i + 1)
      then-grad = read.grads ∙ grads-more m q margin grad i

      pub then-slip : ss ≡ slips (i + 1)
      then-slip = read.slips ∙ slips-more m q margin slip i
