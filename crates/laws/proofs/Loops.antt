-- The laws of one turn of a loop over indexes. A loop `while j < n` has the invariant `X (n - j) j ≡ X n 0`, X being what is left to do:
-- a turn is one of the laws with `j < n`, the end is `X-done`. Assumes nothing.
use Prim.Native.Nat.{ℕ, suc, ◌+◌, ◌-◌, ◌<◌, ◌≤◌}
use native.Mathlib.Numerals.{add-one}
use native.Mathlib.Omega.{arith}
use mathlib.Core.Path.{◌≡◌, refl, sym, ap, ◌∙◌}
use mathlib.Core.Bool.{Bool, true, false, ◌||◌, cond}
use mathlib.Core.List.{List, [], ◌∷◌, ◌++◌}
use Rattle.laws.specs.Loops.{any_in, filter_in, fold_in, join_in, first_in}

-- one turn fewer is left
pub left : (n j : ℕ) → j < n → n - j ≡ suc (n - (j + 1))
left n j h = omega arith

pub none_left : (n j : ℕ) → n ≤ j → n - j ≡ 0
none_left n j h = omega arith

-- what is left, where an index is taken first and the others after it
pub turn : {A : Type 0} (X : ℕ → ℕ → A) (g : ℕ → A → A) → ((k i : ℕ) → X (suc k) i ≡ g i (X k (suc i)))
    → (n j : ℕ) → j < n → X (n - j) j ≡ g j (X (n - (j + 1)) (j + 1))
turn X g e n j h = ap (λ (k : ℕ). X k j) (left n j h) ∙ e (n - (j + 1)) j ∙ ap (λ (i : ℕ). g j (X (n - (j + 1)) i)) (sym (add-one j))

-- nothing is left
pub done : {A : Type 0} (X : ℕ → ℕ → A) (n j : ℕ) → n ≤ j → X (n - j) j ≡ X 0 j
done X n j h = ap (λ (k : ℕ). X k j) (none_left n j h)

module _ (p : ℕ → Bool) where
  any-turn : (n j : ℕ) → j < n → any_in p (n - j) j ≡ (p j || any_in p (n - (j + 1)) (j + 1))
  unfolding any_in
  any-turn = turn (any_in p) (λ i b. p i || b) (λ k i. refl)

  pub any-yes : (n j : ℕ) → j < n → p j ≡ true → any_in p (n - j) j ≡ true
  any-yes n j h e = any-turn n j h ∙ ap (λ (b : Bool). b || any_in p (n - (j + 1)) (j + 1)) e

  pub any-no : (n j : ℕ) → j < n → p j ≡ false → any_in p (n - j) j ≡ any_in p (n - (j + 1)) (j + 1)
  any-no n j h e = any-turn n j h ∙ ap (λ (b : Bool). b || any_in p (n - (j + 1)) (j + 1)) e

  pub any-done : (n j : ℕ) → n ≤ j → any_in p (n - j) j ≡ false
  unfolding any_in
  any-done = done (any_in p)

  filter-turn : (n j : ℕ) → j < n → filter_in p (n - j) j ≡ cond (p j) (j ∷ filter_in p (n - (j + 1)) (j + 1)) (filter_in p (n - (j + 1)) (j + 1))
  unfolding filter_in
  filter-turn = turn (filter_in p) (λ i l. cond (p i) (i ∷ l) l) (λ k i. refl)

  pub filter-yes : (n j : ℕ) → j < n → p j ≡ true → filter_in p (n - j) j ≡ j ∷ filter_in p (n - (j + 1)) (j + 1)
  filter-yes n j h e = filter-turn n j h ∙ ap (λ (b : Bool). cond b (j ∷ filter_in p (n - (j + 1)) (j + 1)) (filter_in p (n - (j + 1)) (j + 1))) e

  pub filter-no : (n j : ℕ) → j < n → p j ≡ false → filter_in p (n - j) j ≡ filter_in p (n - (j + 1)) (j + 1)
  filter-no n j h e = filter-turn n j h ∙ ap (λ (b : Bool). cond b (j ∷ filter_in p (n - (j + 1)) (j + 1)) (filter_in p (n - (j + 1)) (j + 1))) e

  pub filter-done : (n j : ℕ) → n ≤ j → filter_in p (n - j) j ≡ []
  unfolding filter_in
  filter-done = done (filter_in p)

module _ {A : Type 0} (step : A → ℕ → A) where
  pub fold_turn : (a : A) (n j : ℕ) → j < n → fold_in step a (n - j) j ≡ fold_in step (step a j) (n - (j + 1)) (j + 1)
  unfolding fold_in
  fold_turn a n j h = ap (λ (k : ℕ). fold_in step a k j) (left n j h) ∙ ap (λ (i : ℕ). fold_in step (step a j) (n - (j + 1)) i) (sym (add-one j))

  -- a turn that leaves the state b
  pub fold_on : {a b : A} (n j : ℕ) → j < n → step a j ≡ b → fold_in step b (n - (j + 1)) (j + 1) ≡ fold_in step a (n - j) j
  fold_on {a} n j h e = ap (λ (x : A). fold_in step x (n - (j + 1)) (j + 1)) (sym e) ∙ sym (fold_turn a n j h)

  pub fold_done : (a : A) (n j : ℕ) → n ≤ j → fold_in step a (n - j) j ≡ a
  unfolding fold_in
  fold_done a = done (fold_in step a)

module _ {A : Type 0} (f : ℕ → List A) where
  pub join_turn : (n j : ℕ) → j < n → join_in f (n - j) j ≡ f j ++ join_in f (n - (j + 1)) (j + 1)
  unfolding join_in
  join_turn = turn (join_in f) (λ i l. f i ++ l) (λ k i. refl)

  -- an index that gives one element, and one that gives none
  pub join_one : {a : A} (n j : ℕ) → j < n → f j ≡ a ∷ [] → join_in f (n - j) j ≡ a ∷ join_in f (n - (j + 1)) (j + 1)
  join_one n j h e = join_turn n j h ∙ ap (λ (l : List A). l ++ join_in f (n - (j + 1)) (j + 1)) e

  pub join_none : (n j : ℕ) → j < n → f j ≡ [] → join_in f (n - j) j ≡ join_in f (n - (j + 1)) (j + 1)
  join_none n j h e = join_turn n j h ∙ ap (λ (l : List A). l ++ join_in f (n - (j + 1)) (j + 1)) e

  pub join_done : (n j : ℕ) → n ≤ j → join_in f (n - j) j ≡ []
  unfolding join_in
  join_done = done (join_in f)

module _ {A : Type 0} (is_none : A → Bool) (none : A) (f : ℕ → A) where
  first-turn : (n j : ℕ) → j < n → first_in is_none none f (n - j) j ≡ cond (is_none (f j)) (first_in is_none none f (n - (j + 1)) (j + 1)) (f j)
  unfolding first_in
  first-turn = turn (first_in is_none none f) (λ i a. cond (is_none (f i)) a (f i)) (λ k i. refl)

  pub first-hit : {a : A} (n j : ℕ) → j < n → f j ≡ a → is_none a ≡ false → first_in is_none none f (n - j) j ≡ a
  first-hit n j h e i = first-turn n j h ∙ ap (λ (b : Bool). cond b (first_in is_none none f (n - (j + 1)) (j + 1)) (f j)) (ap is_none e ∙ i) ∙ e

  pub first-miss : {a : A} (n j : ℕ) → j < n → f j ≡ a → is_none a ≡ true → first_in is_none none f (n - j) j ≡ first_in is_none none f (n - (j + 1)) (j + 1)
  first-miss n j h e i = first-turn n j h ∙ ap (λ (b : Bool). cond b (first_in is_none none f (n - (j + 1)) (j + 1)) (f j)) (ap is_none e ∙ i)

  pub first_done : (n j : ℕ) → n ≤ j → first_in is_none none f (n - j) j ≡ none
  unfolding first_in
  first_done = done (first_in is_none none f)
