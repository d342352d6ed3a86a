-- Lists made by an index, and folds over lists. Definitions only.
use Rattle.std.specs.Prelude.{ℕ, zero, suc, Bool, false, ◌||◌, List, [], ◌∷◌, ◌++◌}

-- f j, f (j + 1), .., k of them
module _ {A : Type 0} (f : ℕ → A) where
  unfoldable pub list_in : ℕ → ℕ → List A
  list_in zero j = []
  list_in (suc k) j = f j ∷ list_in k (suc j)

-- the elements taken into the state a, from the left
module _ {A B : Type 0} (step : A → B → A) where
  unfoldable pub foldl : A → List B → A
  foldl a [] = a
  foldl a (x ∷ l) = foldl (step a x) l

-- the lists of the elements, one after the other
unfoldable pub flat : {A B : Type 0} → (A → List B) → List A → List B
flat f [] = []
flat f (x ∷ l) = f x ++ flat f l

-- one of the elements passes
module _ {B : Type 0} (p : B → Bool) where
  unfoldable pub any : List B → Bool
  any [] = false
  any (x ∷ l) = p x || any l
