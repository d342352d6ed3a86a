-- What a loop over the indexes j, j + 1, .., k of them, computes: by recursion on how many are left. Definitions only.
use Rattle.std.specs.Prelude.{ℕ, zero, suc, ◌+◌, ◌≤◌, ◌≡◌, Bool, false, ◌||◌, cond, List, [], ◌∷◌, ◌++◌, length}
use Rattle.std.proofs.lemmas.List.Edits.{sets}

module _ (p : ℕ → Bool) where
  -- one of the k indexes from j on passes
  unfoldable pub any_in : ℕ → ℕ → Bool
  any_in zero j = false
  any_in (suc k) j = p j || any_in k (suc j)

  -- of the k indexes from j on those that pass, in order
  unfoldable pub filter_in : ℕ → ℕ → List ℕ
  filter_in zero j = []
  filter_in (suc k) j = cond (p j) (j ∷ filter_in k (suc j)) (filter_in k (suc j))

-- the k indexes from j on, each taken into the state a
module _ {A : Type 0} (step : A → ℕ → A) where
  unfoldable pub fold_in : A → ℕ → ℕ → A
  fold_in a zero j = a
  fold_in a (suc k) j = fold_in (step a j) k (suc j)

-- the lists of the k indexes from j on, one after the other
module _ {A : Type 0} (f : ℕ → List A) where
  unfoldable pub join_in : ℕ → ℕ → List A
  join_in zero j = []
  join_in (suc k) j = f j ++ join_in k (suc j)

-- the first of the k indexes from j on whose answer is not `none`
module _ {A : Type 0} (is_none : A → Bool) (none : A) (f : ℕ → A) where
  unfoldable pub first_in : ℕ → ℕ → A
  first_in zero j = none
  first_in (suc k) j = cond (is_none (f j)) (first_in k (suc j)) (f j)

-- a list without what does not pass
unfoldable pub keep : (ℕ → Bool) → List ℕ → List ℕ
keep q [] = []
keep q (x ∷ xs) = cond (q x) (x ∷ keep q xs) (keep q xs)

-- each element is above those before it, and the first is b or more: none stands twice
abbrev pub Rising : ℕ → List ℕ → Type 0
Rising b [] = Unit {0}
Rising b (x ∷ xs) = (b ≤ x) × Rising (suc x) xs

-- A lent slice that a loop writes: at first `out₀`, to be written with `all` from `at₀` on. Now it is `out`, and `rest` is to be written from `at` on.
pub record Writing {A : Type 0} (out₀ : List A) (at₀ : ℕ) (all : List A) (out : List A) (at : ℕ) (rest : List A) : Type 0 where
  pub long : length out ≡ length out₀
  pub counted : at + length rest ≡ at₀ + length all
  pub written : sets out at rest ≡ sets out₀ at₀ all
