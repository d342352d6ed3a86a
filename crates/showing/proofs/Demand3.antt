-- Demand 3 of one pair's rows, for any n candidates given by their gaps, by whether a piece decides, and by whether two have the same deciding piece.
-- Assumes nothing.
use Prim.Native.Nat.{ℕ, zero, suc, ◌+◌, ◌<◌, ◌≤◌}
use native.Mathlib.Omega.{arith}
use native.Mathlib.Nat.{eq-or-lt_of_le, le_of_suc-le-suc}
use mathlib.Core.Path.{◌≡◌, refl, sym, subst}
use mathlib.Core.Logic.{◌⊎◌, inl, inr, ⊎_elim}
use mathlib.Core.Bool.{Bool, true, false, not, ◌&&◌, ◌||◌}
use mathlib.Core.List.{Memᴰ}
use lib.Dec.{T, ltb, ltb→lt, lt→ltb, not_T}
use lib.ListN.{length}
use lib.Ieee.{Float, lt, eq, of_bits, neg, is_nan}
use lib.Ieee.Fits.{and_l, and_r, and_i}
use Rattle.laws.specs.Loops.{any_in, keep, Rising}
use Rattle.laws.proofs.Choice.{decided, clash, or_cases, or_l, or_r}
use Rattle.laws.proofs.Finite.{any_of, any-ex, filter-length, in_filter, of-filter, filter-rising, filter-twice}
use Rattle.laws.proofs.Order.{lt_left, lt_trans, lt_eq, eq-lt, eq_trans, eq-sym, lt_asym, lt_not_eq, trichotomy}
use Rattle.ieee.specs.Consts.{zero_f}
use Rattle.showing.specs.Showing.{deep_f, within, hides, can_hide, hidden, shows, shown, Alike}

-- -0.001 is below 0
deep-negative : T (lt deep_f zero_f)
unfolding lt neg of_bits
deep-negative = tt

below-zero : (x : Float) → T (lt x deep_f) → T (lt x zero_f)
below-zero x h = lt_trans x deep_f zero_f h deep-negative

-- ---- what demand 3 says of a pair's rows

-- At the margin m a row of i's deciding piece stands for i: its gap is negative and not smaller than i's, and it is the first of the largest negative gap among its piece's candidates.
pub record Instead (gap : ℕ → Float) (decides : ℕ → Bool) (alike : ℕ → ℕ → Bool) (n : ℕ) (m : Float) (i : ℕ) : Type 0 where
  pub row : ℕ
  pub candidate : row < n
  pub is_shown : T (shows gap decides alike n m row)
  pub of_piece : T (alike row i)
  pub negative : T (lt (gap row) zero_f)
  pub as_large : T (lt (gap row) (gap i)) → ⊥
  pub largest : (j : ℕ) → j < n → T (alike j row) → T (lt (gap j) zero_f) → T (lt (gap row) (gap j)) → ⊥
  pub first : (j : ℕ) → j < n → T (alike j row) → T (eq (gap row) (gap j)) → j < row → ⊥

-- Every clause for one pair of n candidates.
pub record Demand3 (gap : ℕ → Float) (decides : ℕ → Bool) (alike : ℕ → ℕ → Bool) (n : ℕ) : Type 0 where
  -- no more rows than candidates; the rows are the candidates that show, in order, none twice
  pub bound : (m : Float) → length (shown gap decides alike n m) ≤ n
  pub row_is : (m : Float) (i : ℕ) → Memᴰ i (shown gap decides alike n m) → (i < n) × T (shows gap decides alike n m i)
  pub is_row : (m : Float) (i : ℕ) → i < n → T (shows gap decides alike n m i) → Memᴰ i (shown gap decides alike n m)
  pub in_order : (m : Float) → Rising 0 (shown gap decides alike n m)
  -- of the candidates of one deciding piece at most one row has a gap below -0.001
  pub one_deep : (m : Float) (i j : ℕ) → i < n → j < n → T (shows gap decides alike n m i) → T (shows gap decides alike n m j) → T (alike i j)
      → T (lt (gap i) deep_f) → T (lt (gap j) deep_f) → i ≡ j
  -- and that row has its piece's largest negative gap
  pub largest_deep : (m : Float) (i j : ℕ) → T (shows gap decides alike n m i) → T (lt (gap i) deep_f) → j < n → T (alike j i) → T (lt (gap j) zero_f) → T (lt (gap i) (gap j)) → ⊥
  -- at a margin that is not below zero each candidate with a numeric gap not above it is shown, or a row of its piece stands for it
  pub shown-or_outdone : (m : Float) (i : ℕ) → (T (lt m zero_f) → ⊥) → i < n → T (within m (gap i)) → T (shows gap decides alike n m i) ⊎ Instead gap decides alike n m i
  -- a candidate without a deciding piece is shown wherever its gap is within the margin
  pub undecided_shown : (m : Float) (i : ℕ) → T (not (decides i)) → T (within m (gap i)) → T (shows gap decides alike n m i)
  -- of two numeric margins the smaller shows exactly those rows of the larger whose gap is not above it, in the same order
  pub margins : (m M : Float) → T (lt m M) ⊎ T (eq m M) → shown gap decides alike n m ≡ keep (λ i. not (lt m (gap i))) (shown gap decides alike n M)

-- ---- the rows are the candidates that show
module _ (gap : ℕ → Float) (decides : ℕ → Bool) (alike : ℕ → ℕ → Bool) (n : ℕ) (m : Float) where
  pub bound : length (shown gap decides alike n m) ≤ n
  unfolding shown
  bound = filter-length (shows gap decides alike n m) n 0

  pub row_is : (i : ℕ) → Memᴰ i (shown gap decides alike n m) → (i < n) × T (shows gap decides alike n m i)
  unfolding shown
  row_is i h = let r = of-filter (shows gap decides alike n m) n 0 i h in (omega (arith, r.1), r.2)

  pub is_row : (i : ℕ) → i < n → T (shows gap decides alike n m i) → Memᴰ i (shown gap decides alike n m)
  unfolding shown
  is_row i l h = in_filter (shows gap decides alike n m) n 0 i (omega arith) (omega arith) h

  pub in_order : Rising 0 (shown gap decides alike n m)
  unfolding shown
  in_order = filter-rising (shows gap decides alike n m) n 0

  not_hidden : (i : ℕ) → T (shows gap decides alike n m i) → T (not (hidden gap decides alike n i))
  not_hidden i h = and_l (not (hidden gap decides alike n i)) (within m (gap i)) h

  -- ---- without a deciding piece a candidate is never hidden
  pub undecided_shown : (i : ℕ) → T (not (decides i)) → T (within m (gap i)) → T (shows gap decides alike n m i)
  undecided_shown i u w = and_i (not (hidden gap decides alike n i)) (within m (gap i))
      (not_T (hidden gap decides alike n i) (λ h. clash (decides i) u
      (and_l (decides i) (lt (gap i) deep_f) (and_l (can_hide gap decides alike i) (any_in (hides gap decides alike i) n 0) h))))
      w

-- ---- of two margins the smaller shows exactly those rows of the larger whose gap is not above it
pub margins : (gap : ℕ → Float) (decides : ℕ → Bool) (alike : ℕ → ℕ → Bool) (n : ℕ) (m M : Float) → T (lt m M) ⊎ T (eq m M)
    → shown gap decides alike n m ≡ keep (λ i. not (lt m (gap i))) (shown gap decides alike n M)
unfolding shown
margins gap decides alike n m M h = filter-twice (shows gap decides alike n m) (shows gap decides alike n M) (λ i. not (lt m (gap i))) at n 0
  where
    bools : (a b c d : Bool) → (T d → T c) → (a && (b && not c)) ≡ (a && (b && not d) && not c)
    bools false b c d f = refl
    bools true false c d f = refl
    bools true true true true f = refl
    bools true true true false f = refl
    bools true true false true f = absurd (f tt)
    bools true true false false f = refl

    at : (i : ℕ) → shows gap decides alike n m i ≡ (shows gap decides alike n M i && not (lt m (gap i)))
    at i = bools (not (hidden gap decides alike n i)) (not (is_nan (gap i))) (lt m (gap i)) (lt M (gap i))
        (λ t. ⊎_elim (λ a. lt_trans m M (gap i) a t) (λ a. eq-lt m M (gap i) a t) h)

-- ---- hiding
module _ (gap : ℕ → Float) (decides : ℕ → Bool) (alike : ℕ → ℕ → Bool) where
  -- j hides i, in words: the same deciding piece, a negative gap, and a larger one or an equal one earlier
  record Hides (i j : ℕ) : Type 0 where
    same : T (alike j i)
    negative : T (lt (gap j) zero_f)
    larger : T (lt (gap i) (gap j)) ⊎ (T (eq (gap i) (gap j)) × (j < i))

  told : (i j : ℕ) → T (hides gap decides alike i j) → Hides i j
  told i j h =
      let r = and_r (alike j i) (lt (gap j) zero_f && (lt (gap i) (gap j) || (eq (gap i) (gap j) && ltb j i))) h in
      let l = and_r (lt (gap j) zero_f) (lt (gap i) (gap j) || (eq (gap i) (gap j) && ltb j i)) r in
      record {
        same = and_l (alike j i) (lt (gap j) zero_f && (lt (gap i) (gap j) || (eq (gap i) (gap j) && ltb j i))) h;
        negative = and_l (lt (gap j) zero_f) (lt (gap i) (gap j) || (eq (gap i) (gap j) && ltb j i)) r;
        larger = ⊎_elim (λ a. inl a) (λ a. inr (and_l (eq (gap i) (gap j)) (ltb j i) a, ltb→lt j i (and_r (eq (gap i) (gap j)) (ltb j i) a)))
            (or_cases (lt (gap i) (gap j)) (eq (gap i) (gap j) && ltb j i) l);
      }

  tells : (i j : ℕ) → Hides i j → T (hides gap decides alike i j)
  tells i j h =
      and_i (alike j i) (lt (gap j) zero_f && (lt (gap i) (gap j) || (eq (gap i) (gap j) && ltb j i))) h.same
      (and_i (lt (gap j) zero_f) (lt (gap i) (gap j) || (eq (gap i) (gap j) && ltb j i)) h.negative
      (⊎_elim (λ a. or_l (lt (gap i) (gap j)) (eq (gap i) (gap j) && ltb j i) a)
      (λ a. or_r (lt (gap i) (gap j)) (eq (gap i) (gap j) && ltb j i) (and_i (eq (gap i) (gap j)) (ltb j i) a.0 (lt→ltb j i a.1)))
      h.larger))

  never_itself : (i : ℕ) → Hides i i → ⊥
  never_itself i h = ⊎_elim (λ a. lt_asym (gap i) (gap i) a a) (λ a. omega (arith, a.1)) h.larger

  -- a candidate that can be hidden and is not: none of the n hides it
  unhidden : (n i : ℕ) → T (not (hidden gap decides alike n i)) → T (can_hide gap decides alike i) → (j : ℕ) → j < n → Hides i j → ⊥
  unhidden n i u d j l h = clash (hidden gap decides alike n i) u
      (and_i (can_hide gap decides alike i) (any_in (hides gap decides alike i) n 0) d (any_of (hides gap decides alike i) n 0 j (omega arith) (omega arith) (tells i j h)))

  module _ (law : Alike decides alike) where
    hides-trans : (i j k : ℕ) → Hides i j → Hides j k → Hides i k
    hides-trans i j k a b = record {
      same = law.transitive k j i b.same a.same;
      negative = b.negative;
      larger = ⊎_elim
          (λ p. ⊎_elim (λ q. inl (lt_trans (gap i) (gap j) (gap k) p q)) (λ q. inl (lt_eq (gap i) (gap j) (gap k) p q.0)) b.larger)
          (λ p. ⊎_elim (λ q. inl (eq-lt (gap i) (gap j) (gap k) p.0 q)) (λ q. inr (eq_trans (gap i) (gap j) (gap k) p.0 q.0, omega (arith, p.1, q.1))) b.larger)
          a.larger;
    }

    -- a candidate of a deciding piece with a gap below -0.001 can be hidden
    can_hide_lem : (i j : ℕ) → T (alike i j) → T (lt (gap i) deep_f) → T (can_hide gap decides alike i)
    can_hide_lem i j s d = and_i (decides i) (lt (gap i) deep_f) (law.decided i j s) d

    -- ---- of one piece's candidates at most one row has a gap below -0.001, and it has their largest negative gap
    module _ (n : ℕ) (m : Float) where
      no_hider : (i j : ℕ) → T (shows gap decides alike n m i) → T (lt (gap i) deep_f) → j < n → Hides i j → ⊥
      no_hider i j h d l x = unhidden n i (not_hidden gap decides alike n m i h) (can_hide_lem i j (law.symmetric j i x.same) d) j l x

      pub largest_deep : (i j : ℕ) → T (shows gap decides alike n m i) → T (lt (gap i) deep_f) → j < n → T (alike j i) → T (lt (gap j) zero_f) → T (lt (gap i) (gap j)) → ⊥
      largest_deep i j h d l s ng g = no_hider i j h d l (record { same = s; negative = ng; larger = inl g })

      pub one_deep : (i j : ℕ) → i < n → j < n → T (shows gap decides alike n m i) → T (shows gap decides alike n m j) → T (alike i j)
          → T (lt (gap i) deep_f) → T (lt (gap j) deep_f) → i ≡ j
      one_deep i j li lj hi hj s di dj =
          let ni : T (lt (gap i) zero_f) = below-zero (gap i) di in
          let nj : T (lt (gap j) zero_f) = below-zero (gap j) dj in
          ⊎_elim
          (λ a. absurd (largest_deep i j hi di lj (law.symmetric i j s) nj a))
          (λ t. ⊎_elim
          (λ q. level_only q ni nj)
          (λ a. absurd (largest_deep j i hj dj li s ni a)) t)
          (trichotomy (gap i) (gap j) (lt_left (gap i) zero_f ni) (lt_left (gap j) zero_f nj))
        where
          level_only : T (eq (gap i) (gap j)) → T (lt (gap i) zero_f) → T (lt (gap j) zero_f) → i ≡ j
          level_only q ni nj = elim (native.Mathlib.Decide.dec_lt i j) [
            | yes l ↦ absurd (no_hider j i hj dj li (record { same = s; negative = ni; larger = inr (eq-sym (gap i) (gap j) q, l) }))
            | no l ↦ elim (native.Mathlib.Decide.dec_lt j i) [
              | yes k ↦ absurd (no_hider i j hi di lj (record { same = law.symmetric i j s; negative = nj; larger = inr (q, k) }))
              | no k ↦ omega arith
            ]
          ]

    -- ---- among the first k candidates, and i, one that none of the k hides: i, or one that hides i
    record Keeper (i k : ℕ) : Type 0 where
      who : ℕ
      why : (who ≡ i) ⊎ (Hides i who × (who < k))
      best : (j : ℕ) → j < k → Hides who j → ⊥

    keeper : (i k : ℕ) → Keeper i k
    keeper i zero = record { who = i; why = inl refl; best = λ j l h. omega arith }
    keeper i (suc k) = go (keeper i k) (decided (hides gap decides alike (keeper i k).who k))
      where
        go : (r : Keeper i k) → T (hides gap decides alike r.who k) ⊎ T (not (hides gap decides alike r.who k)) → Keeper i (suc k)
        go r (inl h) =
            let H : Hides r.who k = told r.who k h in
            record {
              who = k;
              why = inr (⊎_elim (λ e. subst (λ (w : ℕ). Hides w k) e H) (λ a. hides-trans i r.who k a.0 H) r.why, omega arith);
              best = λ j l b. ⊎_elim
                  (λ (e : j ≡ k). never_itself k (subst (λ (w : ℕ). Hides k w) e b))
                  (λ (l' : j < k). r.best j l' (hides-trans r.who k j H b))
                  (eq-or-lt_of_le (le_of_suc-le-suc l));
            }
        go r (inr h) = record {
          who = r.who;
          why = ⊎_elim (λ e. inl e) (λ a. inr (a.0, omega (arith, a.1))) r.why;
          best = λ j l b. ⊎_elim
              (λ (e : j ≡ k). clash (hides gap decides alike r.who k) h (tells r.who k (subst (λ (w : ℕ). Hides r.who w) e b)))
              (λ (l' : j < k). r.best j l' b)
              (eq-or-lt_of_le (le_of_suc-le-suc l));
        }

    -- ---- at a margin that is not below zero a candidate is shown, or one that none hides stands for it
    pub shown-or_outdone : (n : ℕ) (m : Float) (i : ℕ) → (T (lt m zero_f) → ⊥) → i < n → T (within m (gap i)) → T (shows gap decides alike n m i) ⊎ Instead gap decides alike n m i
    shown-or_outdone n m i not_below l w = ⊎_elim
        (λ h. inr (instead (keeper i n) (any-ex (hides gap decides alike i) n 0 (and_r (can_hide gap decides alike i) (any_in (hides gap decides alike i) n 0) h))))
        (λ h. inl (and_i (not (hidden gap decides alike n i)) (within m (gap i)) h w))
        (decided (hidden gap decides alike n i))
      where
        at-keeper : (r : Keeper i n) → Hides i r.who × (r.who < n) → Instead gap decides alike n m i
        at-keeper r a =
            let k : ℕ = r.who in
            let ng : T (lt (gap k) zero_f) = a.0.negative in
            record {
              row = k;
              candidate = a.1;
              is_shown = and_i (not (hidden gap decides alike n k)) (within m (gap k))
                  (not_T (hidden gap decides alike n k) (λ h.
                  let x = any-ex (hides gap decides alike k) n 0 (and_r (can_hide gap decides alike k) (any_in (hides gap decides alike k) n 0) h) in
                  r.best x.0 (omega (arith, x.2)) (told k x.0 x.3)))
                  (and_i (not (is_nan (gap k))) (not (lt m (gap k))) (lt_left (gap k) zero_f ng)
                  (not_T (lt m (gap k)) (λ h. not_below (lt_trans m (gap k) zero_f h ng))));
              of_piece = a.0.same;
              negative = ng;
              as_large = λ h. ⊎_elim (λ b. lt_asym (gap k) (gap i) h b) (λ b. lt_not_eq (gap k) (gap i) h (eq-sym (gap i) (gap k) b.0)) a.0.larger;
              largest = λ j lj s nj g. r.best j lj (record { same = s; negative = nj; larger = inl g });
              first = λ j lj s q e. r.best j lj (record { same = s; negative = eq-lt (gap j) (gap k) zero_f (eq-sym (gap k) (gap j) q) ng; larger = inr (q, e) });
            }

        instead : (r : Keeper i n) → (j : ℕ) × (0 ≤ j) × (j < 0 + n) × T (hides gap decides alike i j) → Instead gap decides alike n m i
        instead r x = ⊎_elim
            (λ (e : r.who ≡ i). absurd (r.best x.0 (omega (arith, x.2)) (subst (λ (w : ℕ). Hides w x.0) (sym e) (told i x.0 x.3))))
            (λ a. at-keeper r a)
            r.why

-- ---- all of it
pub demand_3 : (gap : ℕ → Float) (decides : ℕ → Bool) (alike : ℕ → ℕ → Bool) → Alike decides alike → (n : ℕ) → Demand3 gap decides alike n
demand_3 gap decides alike law n = record {
  bound = λ m. bound gap decides alike n m;
  row_is = λ m i h. row_is gap decides alike n m i h;
  is_row = λ m i l h. is_row gap decides alike n m i l h;
  in_order = λ m. in_order gap decides alike n m;
  one_deep = λ m i j li lj hi hj s di dj. one_deep gap decides alike law n m i j li lj hi hj s di dj;
  largest_deep = λ m i j h d l s ng g. largest_deep gap decides alike law n m i j h d l s ng g;
  shown-or_outdone = λ m i nb l w. shown-or_outdone gap decides alike law n m i nb l w;
  undecided_shown = λ m i u w. undecided_shown gap decides alike n m i u w;
  margins = λ m M h. margins gap decides alike n m M h;
}
