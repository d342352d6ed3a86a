-- What `any_in`, `filter_in` and `join_in` say of each index. Assumes nothing.
use Prim.Native.Nat.{ℕ, zero, suc, ◌+◌, ◌*◌, ◌<◌, ◌≤◌}
use native.Mathlib.Omega.{arith}
use mathlib.Core.Path.{◌≡◌, refl, sym, ap, subst, ◌∙◌}
use mathlib.Core.Logic.{⊎_elim}
use mathlib.Core.Bool.{Bool, true, false, ◌&&◌, cond}
use mathlib.Core.List.{List, [], ◌∷◌, Memᴰ}
use lib.Dec.{T}
use lib.ListN.{length, length-append}
use Rattle.laws.specs.Loops.{any_in, filter_in, join_in, first_in, keep, Rising}
use Rattle.laws.proofs.Choice.{is_false, or_cases, or_l, or_r}

-- ---- one of some indexes
module _ (p : ℕ → Bool) where
  pub any_of : (k s j : ℕ) → s ≤ j → j < s + k → T (p j) → T (any_in p k s)
  unfolding any_in
  any_of zero s j h l t = omega arith
  any_of (suc k) s j h l t = ⊎_elim
      (λ (e : s ≡ j). or_l (p s) (any_in p k (suc s)) (subst (λ (i : ℕ). T (p i)) (sym e) t))
      (λ (q : s < j). or_r (p s) (any_in p k (suc s)) (any_of k (suc s) j q (omega arith) t))
      (native.Mathlib.Nat.eq-or-lt_of_le h)

  pub any-ex : (k s : ℕ) → T (any_in p k s) → (j : ℕ) × (s ≤ j) × (j < s + k) × T (p j)
  unfolding any_in
  any-ex zero s t = absurd t
  any-ex (suc k) s t = ⊎_elim
      (λ (q : T (p s)). (s, native.Mathlib.Nat.le_refl s, omega arith, q))
      (λ (q : T (any_in p k (suc s))). let r = any-ex k (suc s) q in (r.0, omega (arith, r.1), omega (arith, r.2), r.3))
      (or_cases (p s) (any_in p k (suc s)) t)

  -- where none passes, each fails
  pub any_none : (k s j : ℕ) → any_in p k s ≡ false → s ≤ j → j < s + k → p j ≡ false
  any_none k s j e h l = is_false (p j) (λ t. subst T e (any_of k s j h l t))

  -- where each fails, none passes
  pub any-all : (k s : ℕ) → ((j : ℕ) → s ≤ j → j < s + k → p j ≡ false) → any_in p k s ≡ false
  any-all k s h = is_false (any_in p k s) (λ t. let r = any-ex k s t in subst T (h r.0 r.1 r.2) r.3)

  -- ---- a list of the indexes that pass
  pub filter-length : (k s : ℕ) → length (filter_in p k s) ≤ k
  unfolding filter_in
  filter-length zero s = omega arith
  filter-length (suc k) s = go (p s) (filter-length k (suc s))
    where
      go : (b : Bool) → length (filter_in p k (suc s)) ≤ k → length (cond b (s ∷ filter_in p k (suc s)) (filter_in p k (suc s))) ≤ suc k
      go true h = omega arith
      go false h = omega arith

  pub in_filter : (k s j : ℕ) → s ≤ j → j < s + k → T (p j) → Memᴰ j (filter_in p k s)
  unfolding filter_in
  in_filter zero s j h l t = absurd (omega arith)
  in_filter (suc k) s j h l t = ⊎_elim
      (λ (e : s ≡ j). here (p s) (subst (λ (i : ℕ). T (p i)) (sym e) t) e)
      (λ (q : s < j). there (p s) (in_filter k (suc s) j q (omega arith) t))
      (native.Mathlib.Nat.eq-or-lt_of_le h)
    where
      here : (b : Bool) → T b → s ≡ j → Memᴰ j (cond b (s ∷ filter_in p k (suc s)) (filter_in p k (suc s)))
      here true u e = mathlib.Core.List.Memᴰ.head (sym e)
      here false u e = elim u [ ]

      there : (b : Bool) → Memᴰ j (filter_in p k (suc s)) → Memᴰ j (cond b (s ∷ filter_in p k (suc s)) (filter_in p k (suc s)))
      there true m = mathlib.Core.List.Memᴰ.tail m
      there false m = m

  pub of-filter : (k s j : ℕ) → Memᴰ j (filter_in p k s) → (s ≤ j) × (j < s + k) × T (p j)
  unfolding filter_in
  of-filter zero s j m = absurd (mathlib.Core.List.Memᴰ.not-nil m)
  of-filter (suc k) s j m = go (λ m'. of-filter k (suc s) j m') (p s) refl m
    where
      go : (Memᴰ j (filter_in p k (suc s)) → (suc s ≤ j) × (j < suc s + k) × T (p j)) → (b : Bool) → p s ≡ b
          → Memᴰ j (cond b (s ∷ filter_in p k (suc s)) (filter_in p k (suc s))) → (s ≤ j) × (j < s + suc k) × T (p j)
      go ih true e m' = ⊎_elim
          (λ (q : j ≡ s). (omega arith, omega arith, subst T (sym e ∙ ap p (sym q)) tt))
          (λ (m'' : Memᴰ j (filter_in p k (suc s))). let r = ih m'' in (omega (arith, r.0), omega (arith, r.1), r.2))
          (mathlib.Core.List.Memᴰ.cases_cons m')
      go ih false e m' = let r = ih m' in (omega (arith, r.0), omega (arith, r.1), r.2)

-- a filter by p is a filter by r, then one by q, where p is both
pub filter-twice : (p r q : ℕ → Bool) → ((i : ℕ) → p i ≡ (r i && q i)) → (k s : ℕ) → filter_in p k s ≡ keep q (filter_in r k s)
unfolding filter_in keep
filter-twice p r q e zero s = refl
filter-twice p r q e (suc k) s = ap (λ (b : Bool). cond b (s ∷ filter_in p k (suc s)) (filter_in p k (suc s))) (e s) ∙ go (r s) (q s) refl (filter-twice p r q e k (suc s))
  where
    go : (b c : Bool) → q s ≡ c → filter_in p k (suc s) ≡ keep q (filter_in r k (suc s))
        → cond (b && c) (s ∷ filter_in p k (suc s)) (filter_in p k (suc s)) ≡ keep q (cond b (s ∷ filter_in r k (suc s)) (filter_in r k (suc s)))
    go true true f ih = ap (λ (l : List ℕ). s ∷ l) ih ∙ ap (λ (b : Bool). cond b (s ∷ keep q (filter_in r k (suc s))) (keep q (filter_in r k (suc s)))) (sym f)
    go true false f ih = ih ∙ ap (λ (b : Bool). cond b (s ∷ keep q (filter_in r k (suc s))) (keep q (filter_in r k (suc s)))) (sym f)
    go false true f ih = ih
    go false false f ih = ih

-- lists of at most b each, k of them one after the other
pub join_length : {A : Type 0} (f : ℕ → List A) (b : ℕ) → ((j : ℕ) → length (f j) ≤ b) → (k s : ℕ) → length (join_in f k s) ≤ k * b
unfolding join_in
join_length f b h zero s = omega arith
join_length f b h (suc k) s = rw (length-append (f s) (join_in f k (suc s))) (omega (arith, h s, join_length f b h k (suc s)))

rising-from : (b c : ℕ) → b ≤ c → (l : List ℕ) → Rising c l → Rising b l
rising-from b c h [] r = tt
rising-from b c h (x ∷ xs) r = (omega (arith, r.0), r.1)

pub filter-rising : (p : ℕ → Bool) (k s : ℕ) → Rising s (filter_in p k s)
unfolding filter_in
filter-rising p zero s = tt
filter-rising p (suc k) s = go (p s) (filter-rising p k (suc s))
  where
    go : (b : Bool) → Rising (suc s) (filter_in p k (suc s)) → Rising s (cond b (s ∷ filter_in p k (suc s)) (filter_in p k (suc s)))
    go true r = (native.Mathlib.Nat.le_refl s, r)
    go false r = rising-from s (suc s) (omega arith) (filter_in p k (suc s)) r

-- where the first that is not none is none, each is none
pub first-none : {A : Type 0} (is_none : A → Bool) (none : A) (f : ℕ → A) (k s : ℕ) → is_none (first_in is_none none f k s) ≡ true → (j : ℕ) → s ≤ j → j < s + k → is_none (f j) ≡ true
unfolding first_in
first-none is_none none f zero s e j h l = absurd (omega arith)
first-none is_none none f (suc k) s e j h l = go (is_none (f s)) refl e (first-none is_none none f k (suc s))
  where
    go : (b : Bool) → is_none (f s) ≡ b → is_none (cond b (first_in is_none none f k (suc s)) (f s)) ≡ true
        → (is_none (first_in is_none none f k (suc s)) ≡ true → (i : ℕ) → suc s ≤ i → i < suc s + k → is_none (f i) ≡ true) → is_none (f j) ≡ true
    go true q g ih = ⊎_elim
        (λ (r : s ≡ j). ap (λ (i : ℕ). is_none (f i)) (sym r) ∙ q)
        (λ (r : s < j). ih g j r (omega arith))
        (native.Mathlib.Nat.eq-or-lt_of_le h)
    go false q g ih = absurd (mathlib.Core.Bool.false≢true (sym q ∙ g))
