-- Records written one after the other. Assumes nothing.
use Prim.Native.Nat.{ℕ, zero, suc, ◌+◌}
use native.Mathlib.Numerals.{add-one}
use native.Mathlib.Omega.{arith}
use mathlib.Core.Path.{◌≡◌, refl, sym, ap, ap₂, ◌∙◌}
use mathlib.Core.List.{List}
use lib.ListN.{set}
use lib.Seq.{sets}
use Rattle.laws.specs.Lists.{list_in}

module _ {A : Type 0} (f : ℕ → A) where
  -- the last one stored by itself
  sets_last : (l : List A) (i k j : ℕ) → set (sets l i (list_in f k j)) (k + i) (f (k + j)) ≡ sets l i (list_in f (suc k) j)
  unfolding list_in
  sets_last l i zero j = ap₂ (λ (m : ℕ) (h : ℕ). set l m (f h)) (omega arith) (omega arith)
  sets_last l i (suc k) j =
      ap₂ (λ (m : ℕ) (h : ℕ). set (sets (set l i (f j)) (suc i) (list_in f k (suc j))) m (f h)) (omega arith) (omega arith) ∙ sets_last (set l i (f j)) (suc i) k (suc j)

  pub put-none : (l : List A) → l ≡ sets l 0 (list_in f 0 0)
  unfolding list_in
  put-none l = refl

  pub put-more : (l : List A) (i : ℕ) → set (sets l 0 (list_in f i 0)) i (f i) ≡ sets l 0 (list_in f (i + 1) 0)
  put-more l i =
      ap₂ (λ (m : ℕ) (h : ℕ). set (sets l 0 (list_in f i 0)) m (f h)) (omega arith) (omega arith) ∙ sets_last l 0 i 0 ∙ ap (λ (k : ℕ). sets l 0 (list_in f k 0)) (sym (add-one i))
