-- Records stored one after the other, and a list written into a part of another. Assumes nothing.
use Prim.Native.Nat.{ℕ, zero, suc, ◌+◌, ◌<◌}
use native.Mathlib.Numerals.{add-one}
use native.Mathlib.Omega.{arith}
use mathlib.Core.Path.{◌≡◌, refl, sym, ap, ◌∙◌}
use mathlib.Core.List.{List, [], ◌∷◌, ◌++◌}
use lib.ListN.{length, set, get_or, take, drop}
use lib.Seq.{sets, take-suc, length-take-le}
use Rattle.laws.proofs.Writing.{sets-append}

module _ {A : Type 0} where
  -- one more of a list l, at `at` and on
  pub put-more : (ys l : List A) (at k : ℕ) (d : A) → k < length l → set (sets ys at (take k l)) (at + k) (get_or l k d) ≡ sets ys at (take (k + 1) l)
  put-more ys l at k d h =
      ap (λ (j : ℕ). set (sets ys at (take k l)) (at + j) (get_or l k d)) (sym (length-take-le k l (omega (arith, h))))
      ∙ sym (sets-append (take k l) (get_or l k d ∷ []) ys at)
      ∙ ap (sets ys at) (sym (ap (λ (j : ℕ). take j l) (add-one k) ∙ take-suc l k d h))

  -- into what stands from `at` on
  sets-none : (xs : List A) (i : ℕ) → sets [] i xs ≡ []
  sets-none [] i = refl
  sets-none (x ∷ xs) i = sets-none xs (suc i)

  sets-next : (xs l : List A) (y : A) (i : ℕ) → y ∷ sets l i xs ≡ sets (y ∷ l) (suc i) xs
  sets-next [] l y i = refl
  sets-next (x ∷ xs) l y i = sets-next xs (set l i x) y (suc i)

  pub sets-part : (at : ℕ) (l xs : List A) → take at l ++ sets (drop at l) 0 xs ≡ sets l at xs
  sets-part zero l xs = refl
  sets-part (suc at) [] xs = sets-none xs 0 ∙ sym (sets-none xs (suc at))
  sets-part (suc at) (y ∷ l) xs = ap (λ (t : List A). y ∷ t) (sets-part at l xs) ∙ sets-next xs l y at
