-- Demand 3 of all rows: lists of rows with some left out, all pairs' rows one after the other, their gradients and slips. Assumes nothing.
use Prim.Native.Nat.{ℕ, zero, suc, ◌+◌, ◌<◌, ◌≤◌}
use native.Mathlib.Omega.{arith}
use mathlib.Core.Path.{◌≡◌, refl, sym, ap, ap₂, subst, ◌∙◌}
use mathlib.Core.Bool.{Bool, true, false, not, cond}
use mathlib.Core.List.{List, [], ◌∷◌, ◌++◌, map}
use borrow.Author.Tests.{eq-eqb, ne_eqb}
use lib.Dec.{eqb}
use lib.ListN.{length}
use lib.Ieee.{Float, lt}
use Rattle.laws.specs.Lists.{flat, list_in}
use Rattle.laws.specs.Loops.{keep}
use Rattle.laws.proofs.Lists.{flat_map, flat_append}
use Rattle.geometry.specs.Geometry.{vector_of}
use Rattle.mechanism.specs.declared.Mechanism.{Mechanism}
use Rattle.bodies.specs.declared.pose.Pose.{Pose}
use Rattle.mechanism.specs.declared.rows.Row.{Row}
use Rattle.showing.proofs.Demand3.{margins}
use Rattle.pair_rows.specs.PairRows.{left_of}
use Rattle.shown_rows.specs.Rows.{grad_of, slip_of, features_of_pair, pair_numbers, rows_of_pair, rows_of, grads_of_pair, slips_of_pair, grads_of, slips_of}
use Rattle.pair_rows.specs.PairRows.{candidate_at, gap_at, decides, alike, shown_of, row_of}
use Rattle.pair_rows.proofs.Along.{along-long}
use Rattle.demand3.specs.Demand3.{only, AtMost, candidates_of, grad_of_row, slip_of_row}
use Rattle.demand3.proofs.Pairs.{of_pair}

-- ---- rows left out
only-append : (p : Row → Bool) (l k : List Row) → only p (l ++ k) ≡ only p l ++ only p k
unfolding only
only-append p [] k = refl
only-append p (r ∷ l) k = go (p r) (only-append p l k)
  where
    go : (b : Bool) → only p (l ++ k) ≡ only p l ++ only p k → cond b (r ∷ only p (l ++ k)) (only p (l ++ k)) ≡ cond b (r ∷ only p l) (only p l) ++ only p k
    go true e = ap (λ (x : List Row). r ∷ x) e
    go false e = e

only-flat : {A : Type 0} (p : Row → Bool) (f : A → List Row) (l : List A) → only p (flat f l) ≡ flat (λ x. only p (f x)) l
unfolding only flat
only-flat p f [] = refl
only-flat p f (x ∷ l) = only-append p (f x) (flat f l) ∙ ap (λ (k : List Row). only p (f x) ++ k) (only-flat p f l)

only-map : (p : Row → Bool) (f : ℕ → Row) (l : List ℕ) → only p (map f l) ≡ map f (keep (λ k. p (f k)) l)
unfolding only keep
only-map p f [] = refl
only-map p f (k ∷ l) = go (p (f k)) (only-map p f l)
  where
    go : (b : Bool) → only p (map f l) ≡ map f (keep (λ j. p (f j)) l)
        → cond b (f k ∷ only p (map f l)) (only p (map f l)) ≡ map f (cond b (k ∷ keep (λ j. p (f j)) l) (keep (λ j. p (f j)) l))
    go true e = ap (λ (x : List Row). f k ∷ x) e
    go false e = e

flat-same : {A B : Type 0} (f g : A → List B) → ((x : A) → f x ≡ g x) → (l : List A) → flat f l ≡ flat g l
unfolding flat
flat-same f g e [] = refl
flat-same f g e (x ∷ l) = ap₂ (λ a b. a ++ b) (e x) (flat-same f g e l)

flat-flat : {A B C : Type 0} (f : B → List C) (g : A → List B) (l : List A) → flat f (flat g l) ≡ flat (λ x. flat f (g x)) l
unfolding flat
flat-flat f g [] = refl
flat-flat {C = C} f g (x ∷ l) = flat_append f (g x) (flat g l) ∙ ap (λ (k : List C). flat f (g x) ++ k) (flat-flat f g l)

-- ---- margins
module _ (m : Mechanism) (q : Pose) where
  shown-less : (i : ℕ) (g h : Float) → AtMost g h → shown_of (candidates_of m q i) g ≡ keep (λ k. not (lt g (gap_at (candidates_of m q i) k))) (shown_of (candidates_of m q i) h)
  unfolding shown_of
  shown-less i g h e = margins (gap_at (candidates_of m q i)) (λ k. decides (candidate_at (candidates_of m q i) k)) (λ k l. alike (candidate_at (candidates_of m q i) k) (candidate_at (candidates_of m q i) l)) (length (candidates_of m q i)) g h e

  abbrev to_row : ℕ → ℕ → Row
  to_row i k = row_of i (candidate_at (candidates_of m q i) k)

  pair-margins : (i : ℕ) (g h : Float) → AtMost g h → rows_of_pair m q g i ≡ only (λ r. not (lt g r.gap)) (rows_of_pair m q h i)
  pair-margins i g h e =
      (of_pair m q i).rows_are g ∙ ap (map (to_row i)) (shown-less i g h e)
      ∙ sym (ap (only (λ r. not (lt g r.gap))) ((of_pair m q i).rows_are h) ∙ only-map (λ r. not (lt g r.gap)) (to_row i) (shown_of (candidates_of m q i) h))

  pub all-margins : (g h : Float) → AtMost g h → rows_of m q g ≡ only (λ r. not (lt g r.gap)) (rows_of m q h)
  unfolding rows_of
  all-margins g h e =
      flat-same (rows_of_pair m q g) (λ i. only (λ r. not (lt g r.gap)) (rows_of_pair m q h i)) (λ i. pair-margins i g h e) (pair_numbers m)
      ∙ sym (only-flat (λ r. not (lt g r.gap)) (rows_of_pair m q h) (pair_numbers m))

  -- ---- gradients and slips
  pub all-grads : (g : Float) → grads_of m q g ≡ flat (grad_of_row m q) (rows_of m q g)
  unfolding grads_of rows_of
  all-grads g =
      flat-same (grads_of_pair m q g) (λ i. flat (grad_of_row m q) (rows_of_pair m q g i)) same (pair_numbers m)
      ∙ sym (flat-flat (grad_of_row m q) (rows_of_pair m q g) (pair_numbers m))
    where
      same : (i : ℕ) → grads_of_pair m q g i ≡ flat (grad_of_row m q) (rows_of_pair m q g i)
      same i =
          ap (flat (grad_of m.bodies q (features_of_pair m i))) ((of_pair m q i).rows_are g)
          ∙ flat_map (grad_of m.bodies q (features_of_pair m i)) (to_row i) (shown_of (candidates_of m q i) g)
          ∙ sym (ap (flat (grad_of_row m q)) ((of_pair m q i).rows_are g) ∙ flat_map (grad_of_row m q) (to_row i) (shown_of (candidates_of m q i) g))

  pub all-slips : (g : Float) → slips_of m q g ≡ flat (slip_of_row m q) (rows_of m q g)
  unfolding slips_of rows_of
  all-slips g =
      flat-same (slips_of_pair m q g) (λ i. flat (slip_of_row m q) (rows_of_pair m q g i)) same (pair_numbers m)
      ∙ sym (flat-flat (slip_of_row m q) (rows_of_pair m q g) (pair_numbers m))
    where
      same : (i : ℕ) → slips_of_pair m q g i ≡ flat (slip_of_row m q) (rows_of_pair m q g i)
      same i =
          ap (flat (slip_of m.bodies q (features_of_pair m i))) ((of_pair m q i).rows_are g)
          ∙ flat_map (slip_of m.bodies q (features_of_pair m i)) (to_row i) (shown_of (candidates_of m q i) g)
          ∙ sym (ap (flat (slip_of_row m q)) ((of_pair m q i).rows_are g) ∙ flat_map (slip_of_row m q) (to_row i) (shown_of (candidates_of m q i) g))

  pub grad_long : (r : Row) → length (grad_of_row m q r) ≡ m.bodies.coords
  unfolding grad_of
  grad_long r = along-long m.bodies q (vector_of r.normal) r.point (features_of_pair m r.pair).a.body (features_of_pair m r.pair).b.body

  pub slip_long : (r : Row) → length (slip_of_row m q r) ≡ m.bodies.coords
  unfolding slip_of
  slip_long r = along-long m.bodies q (left_of (vector_of r.normal)) r.point (features_of_pair m r.pair).a.body (features_of_pair m r.pair).b.body

-- ---- the rows that name a pair
module _ (f : ℕ → List Row) (i : ℕ) where
  abbrev own : Row → Bool
  own r = eqb r.pair i

  -- each list holds rows of its own number alone
  module _ (mine : (j : ℕ) → only own (f j) ≡ cond (eqb j i) (f j) []) where
    none-there : (k j : ℕ) → i < j → only own (flat f (list_in (λ x. x) k j)) ≡ []
    unfolding flat list_in only
    none-there zero j h = refl
    none-there (suc k) j h =
        only-append own (f j) (flat f (list_in (λ x. x) k (suc j)))
        ∙ ap₂ (λ a b. a ++ b) (mine j ∙ ap (λ (b : Bool). cond b (f j) []) (ne_eqb j i (λ e. omega (arith, e, h)))) (none-there k (suc j) (omega (arith, h)))

    one-there : (k j : ℕ) → j ≤ i → i < j + k → only own (flat f (list_in (λ x. x) k j)) ≡ f i
    unfolding flat list_in
    one-there zero j a b = absurd (omega (arith, a, b))
    one-there (suc k) j a b =
        only-append own (f j) (flat f (list_in (λ x. x) k (suc j)))
        ∙ elim (native.Mathlib.Decide.dec_lt j i) [
          | yes l ↦
              ap₂ (λ x y. x ++ y) (mine j ∙ ap (λ (t : Bool). cond t (f j) []) (ne_eqb j i (λ e. omega (arith, e, l)))) (one-there k (suc j) (omega (arith, l)) (omega (arith, b)))
          | no l ↦
              let e : j ≡ i = omega (arith, a) in
              ap₂ (λ x y. x ++ y) (mine j ∙ ap (λ (t : Bool). cond t (f j) []) (eq-eqb j i e) ∙ ap f e) (none-there k (suc j) (omega (arith, e)))
              ∙ mathlib.Core.List.append-nil (f i)
        ]

module _ (m : Mechanism) (q : Pose) (g : Float) (i : ℕ) where
  only-all : (j : ℕ) (l : List ℕ) → only (λ r. eqb r.pair i) (map (to_row m q j) l) ≡ cond (eqb j i) (map (to_row m q j) l) []
  unfolding only
  only-all j [] = go (eqb j i)
    where
      go : (b : Bool) → [] ≡ cond {A = List Row} b [] []
      go true = refl
      go false = refl
  only-all j (k ∷ l) = go (eqb j i) (only-all j l)
    where
      go : (b : Bool) → only (λ r. eqb r.pair i) (map (to_row m q j) l) ≡ cond b (map (to_row m q j) l) []
          → cond b (to_row m q j k ∷ only (λ r. eqb r.pair i) (map (to_row m q j) l)) (only (λ r. eqb r.pair i) (map (to_row m q j) l)) ≡ cond b (to_row m q j k ∷ map (to_row m q j) l) []
      go true e = ap (λ (x : List Row). to_row m q j k ∷ x) e
      go false e = e

  pub all_named : i < m.pairs.count → rows_of_pair m q g i ≡ only (λ r. eqb r.pair i) (rows_of m q g)
  unfolding rows_of
  all_named h = sym (one-there (rows_of_pair m q g) i mine m.pairs.count 0 (omega arith) (omega (arith, h)))
    where
      mine : (j : ℕ) → only (λ r. eqb r.pair i) (rows_of_pair m q g j) ≡ cond (eqb j i) (rows_of_pair m q g j) []
      mine j = subst (λ (x : List Row). only (λ r. eqb r.pair i) x ≡ cond (eqb j i) x []) (sym ((of_pair m q j).rows_are g)) (only-all j (shown_of (candidates_of m q j) g))
