-- Folds with one more index at the end, and sums of whole numbers. Assumes nothing.
use Prim.Native.Nat.{ℕ, zero, suc, ◌+◌, ◌*◌, ◌-◌, ◌<◌, ◌≤◌}
use native.Mathlib.Numerals.{add-one}
use native.Mathlib.Omega.{arith}
use native.Mathlib.Nat.{zero-add, add-zero, add-suc, add_assoc, suc-add, le_refl, le_trans}
use mathlib.Core.Path.{◌≡◌, refl, sym, ap, ap₂, subst, ◌∙◌}
use Rattle.laws.specs.Loops.{fold_in}
use Rattle.laws.proofs.Loops.{fold_turn}

-- ---- one index more at the end
fold_more-at : {A : Type 0} (step : A → ℕ → A) (a : A) (k j : ℕ) → fold_in step a (suc k) j ≡ step (fold_in step a k j) (j + k)
unfolding fold_in
fold_more-at step a zero j = ap (step a) (sym (add-zero j))
fold_more-at step a (suc k) j = fold_more-at step (step a j) k (suc j) ∙ ap (step (fold_in step (step a j) k (suc j))) (suc-add j k ∙ sym (add-suc j k))

pub fold_more : {A : Type 0} (step : A → ℕ → A) (a : A) (k : ℕ) → fold_in step a (k + 1) 0 ≡ step (fold_in step a k 0) k
fold_more {A} step a k = ap (λ (n : ℕ). fold_in step a n 0) (add-one k) ∙ fold_more-at step a k 0 ∙ ap (step (fold_in step a k 0)) (native.Mathlib.Nat.zero-add k)

-- ---- sums
module _ (f : ℕ → ℕ) where
  abbrev plus : ℕ → ℕ → ℕ
  plus s i = s + f i

  -- a sum only grows
  pub sum-grows : (a k j : ℕ) → a ≤ fold_in plus a k j
  unfolding fold_in
  sum-grows a zero j = le_refl a
  sum-grows a (suc k) j = le_trans (omega arith) (sum-grows (a + f j) k (suc j))

  -- what is left of a sum holds the next number
  pub sum-holds : (a n j : ℕ) → j < n → a + f j ≤ fold_in plus a (n - j) j
  sum-holds a n j h = subst (λ (s : ℕ). a + f j ≤ s) (sym (fold_turn plus a n j h)) (sum-grows (a + f j) (n - (j + 1)) (j + 1))

  pub sum_more : (k : ℕ) → fold_in plus 0 (k + 1) 0 ≡ fold_in plus 0 k 0 + f k
  sum_more k = fold_more plus 0 k

  pub sum-none : (j : ℕ) → fold_in plus 0 0 j ≡ 0
  unfolding fold_in
  sum-none j = refl

  sum-from : (k a j : ℕ) → fold_in plus a k j ≡ a + fold_in plus 0 k j
  unfolding fold_in
  sum-from zero a j = sym (add-zero a)
  sum-from (suc k) a j = sum-from k (a + f j) (suc j) ∙ add_assoc a (f j) (fold_in plus 0 k (suc j)) ∙ ap (λ (s : ℕ). a + s) (sym (sum-from k (0 + f j) (suc j) ∙ ap (λ (s : ℕ). s + fold_in plus 0 k (suc j)) (zero-add (f j))))

  -- the first number, then the others
  pub sum_first : (k j : ℕ) → fold_in plus 0 (suc k) j ≡ f j + fold_in plus 0 k (suc j)
  unfolding fold_in
  sum_first k j = sum-from k (0 + f j) (suc j) ∙ ap (λ (s : ℕ). s + fold_in plus 0 k (suc j)) (zero-add (f j))

  sum-up : (d k : ℕ) → fold_in plus 0 k 0 ≤ fold_in plus 0 (k + d) 0
  sum-up zero k = subst (λ (n : ℕ). fold_in plus 0 k 0 ≤ fold_in plus 0 n 0) (sym (add-zero k)) (le_refl (fold_in plus 0 k 0))
  sum-up (suc d) k =
      let e : k + suc d ≡ k + d + 1 = omega arith in
      subst (λ (n : ℕ). fold_in plus 0 k 0 ≤ fold_in plus 0 n 0) (sym e)
      (le_trans (sum-up d k) (subst (λ (s : ℕ). fold_in plus 0 (k + d) 0 ≤ s) (sym (sum_more (k + d))) (omega arith)))

  -- the sum of fewer numbers is no larger
  pub sum_mono : (k n : ℕ) → k ≤ n → fold_in plus 0 k 0 ≤ fold_in plus 0 n 0
  sum_mono k n h =
      let e : k + (n - k) ≡ n = omega arith in
      subst (λ (m : ℕ). fold_in plus 0 k 0 ≤ fold_in plus 0 m 0) e (sum-up (n - k) k)

  -- the sum of more numbers holds each next one
  pub sum-part : (k n : ℕ) → k < n → fold_in plus 0 k 0 + f k ≤ fold_in plus 0 n 0
  sum-part k n h = subst (λ (s : ℕ). s ≤ fold_in plus 0 n 0) (sum_more k) (sum_mono (k + 1) n (omega arith))

-- sums of the same numbers
pub sum_same : (f g : ℕ → ℕ) (k : ℕ) → ((j : ℕ) → j < k → f j ≡ g j) → fold_in (λ s i. s + f i) 0 k 0 ≡ fold_in (λ s i. s + g i) 0 k 0
unfolding fold_in
sum_same f g zero h = refl
sum_same f g (suc k) h =
    ap (λ (n : ℕ). fold_in (λ s i. s + f i) 0 n 0) (sym (add-one k)) ∙ sum_more f k
    ∙ ap₂ (λ (a b : ℕ). a + b) (sum_same f g k (λ j l. h j (omega arith))) (h k (omega arith))
    ∙ sym (sum_more g k) ∙ ap (λ (n : ℕ). fold_in (λ s i. s + g i) 0 n 0) (add-one k)

-- two sums whose numbers are together no more than those of a third
pub sums_within : (f g h : ℕ → ℕ) → ((i : ℕ) → f i + g i ≤ h i) → (k j : ℕ) → fold_in (λ s i. s + f i) 0 k j + fold_in (λ s i. s + g i) 0 k j ≤ fold_in (λ s i. s + h i) 0 k j
sums_within f g h e zero j = let a = sum-none f j in let b = sum-none g j in let c = sum-none h j in omega arith
sums_within f g h e (suc k) j =
    let a = sum_first f k j in
    let b = sum_first g k j in
    let c = sum_first h k j in
    let r = sums_within f g h e k (suc j) in
    let l = e j in
    omega arith

-- as many ones as are asked for
pub sum_ones : (k j : ℕ) → fold_in (λ s i. s + 1) 0 k j ≡ k
sum_ones zero j = sum-none (λ i. 1) j
sum_ones (suc k) j = let a = sum_first (λ i. 1) k j in let r = sum_ones k (suc j) in omega arith

-- numbers that are no more than m times others
pub sum-scaled : (m : ℕ) (f g : ℕ → ℕ) → ((i : ℕ) → f i ≤ m * g i) → (k j : ℕ) → fold_in (λ s i. s + f i) 0 k j ≤ m * fold_in (λ s i. s + g i) 0 k j
sum-scaled m f g h zero j = let a = sum-none f j in omega arith
sum-scaled m f g h (suc k) j =
    let a = sum_first f k j in
    let b = ap (λ (n : ℕ). m * n) (sum_first g k j) in
    let r = sum-scaled m f g h k (suc j) in
    let l = h j in
    omega arith
