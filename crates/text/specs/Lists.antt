-- Tests and folds over a list. Definitions only.
use Rattle.std.specs.Prelude.{ℕ, Bool, true, ◌&&◌, List, [], ◌∷◌}

-- all bytes of a list pass
unfoldable pub all_of : (ℕ → Bool) → List ℕ → Bool
all_of p [] = true
all_of p (b ∷ bs) = p b && all_of p bs

-- a list taken into a state, element by element
module _ {A B : Type 0} (f : A → B → A) where
  unfoldable pub fold_of : A → List B → A
  fold_of a [] = a
  fold_of a (b ∷ bs) = fold_of (f a b) bs
