-- The laws of one turn of a loop over a list that has come to index i. Assumes nothing.
use Prim.Native.Nat.{ℕ, ◌+◌, ◌<◌, ◌≤◌}
use native.Mathlib.Numerals.{add-one}
use mathlib.Core.Path.{◌≡◌, ap}
use mathlib.Core.Bool.{Bool, true, false}
use mathlib.Core.List.{List}
use lib.ListN.{length, get_or, drop, drop_of_length-le}
use lib.Seq.{drop-cons}
use Rattle.laws.proofs.Choice.{and_yes, and_no}
use Rattle.text.specs.Lists.{all_of, fold_of}

module _ (p : ℕ → Bool) (s : List ℕ) (i : ℕ) where
  pub all_yes : i < length s → p (get_or s i 0) ≡ true → all_of p (drop i s) ≡ all_of p (drop (i + 1) s)
  unfolding all_of
  all_yes h e = rw (add-one, drop-cons s i 0) (and_yes _ e)

  pub all-no : i < length s → p (get_or s i 0) ≡ false → all_of p (drop i s) ≡ false
  unfolding all_of
  all-no h e = rw (drop-cons s i 0) (and_no _ e)

  pub all_done : length s ≤ i → all_of p (drop i s) ≡ true
  unfolding all_of
  all_done h = ap (all_of p) (drop_of_length-le s h)

module _ {A : Type 0} (f : A → ℕ → A) (a : A) (s : List ℕ) (i : ℕ) where
  pub fold_turn : i < length s → fold_of f a (drop i s) ≡ fold_of f (f a (get_or s i 0)) (drop (i + 1) s)
  unfolding fold_of
  fold_turn h = rw (add-one, drop-cons s i 0)

  pub fold_done : length s ≤ i → fold_of f a (drop i s) ≡ a
  unfolding fold_of
  fold_done h = ap (fold_of f a) (drop_of_length-le s h)
