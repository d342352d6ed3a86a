-- The smallest gap: of two lists, a gap more at a time, and of a pair's records, a record more at a time. Assumes nothing.
use Prim.Native.Nat.{ℕ, zero, suc, ◌+◌, ◌<◌, ◌≤◌}
use native.Mathlib.Numerals.{add-one}
use native.Mathlib.Omega.{arith}
use mathlib.Core.Path.{◌≡◌, refl, sym, ap, ap₂, ◌∙◌}
use mathlib.Core.Bool.{Bool, true, false, ◌&&◌, cond}
use mathlib.Core.List.{List, [], ◌∷◌, ◌++◌}
use lib.Dec.{eqb, ltb}
use lib.Ieee.{Float, nan, lt}
use lib.ListN.{length, get_or, drop, drop_of_length-le}
use lib.Seq.{drop-cons}
use borrow.Author.Tests.{eq-eqb, ne_eqb}
use Rattle.laws.specs.Loops.{fold_in}
use Rattle.laws.proofs.Choice.{cond_yes, cond_no}
use Rattle.governing.specs.declared.Smallest.{Smallest}
use Rattle.governing.specs.Governing.{least_of, governing_of, gap_of, lesser_gap, least_gap, row_of_best, gap_of_best, lesser}
use Rattle.governing.proofs.Laws.{lesser-le}
use Rattle.std.proofs.Common.{Option, Some, None}

-- ---- of two lists
-- i of n gaps are compared, b is the smallest so far, behind b₀
pub record Compared (js : List ℕ) (gs : List Float) (n : ℕ) (b₀ b : Option Smallest) (i : ℕ) : Type 0 where
  pub few : n ≤ length js
  pub few_gaps : n ≤ length gs
  pub many : lesser (length js) (length gs) ≤ n
  pub rest : least_gap b (drop i js) (drop i gs) ≡ least_gap b₀ js gs

pub compared-start : {js : List ℕ} {gs : List Float} {n : ℕ} {b : Option Smallest} → n ≡ lesser (length js) (length gs) → Compared js gs n b b 0
compared-start {js} {gs} e =
    let l = lesser-le (length js) (length gs) in
    record { few = omega (arith, l.0); few_gaps = omega (arith, l.1); many = omega arith; rest = refl }

module _ {js : List ℕ} {gs : List Float} {n : ℕ} {b₀ b : Option Smallest} {i : ℕ} (w : Compared js gs n b₀ b i) where
  -- a gap more
  pub compared-more : {r : Option Smallest} → i < n → r ≡ lesser_gap b (get_or js i 0) (get_or gs i nan) → Compared js gs n b₀ r (i + 1)
  unfolding least_gap
  compared-more {r} h e = record { few = w.few; few_gaps = w.few_gaps; many = w.many; rest = more }
    where
      more : least_gap r (drop (i + 1) js) (drop (i + 1) gs) ≡ least_gap b₀ js gs
      more =
          ap₂ (λ (x : Option Smallest) (j : ℕ). least_gap x (drop j js) (drop j gs)) e (add-one i)
          ∙ sym (ap₂ (λ (l : List ℕ) (m : List Float). least_gap b l m) (drop-cons js i 0 (omega (arith, w.few))) (drop-cons gs i nan (omega (arith, w.few_gaps))))
          ∙ w.rest

  -- nothing is left of one of them
  pub compared-ends : n ≤ i → b ≡ least_gap b₀ js gs
  unfolding least_gap
  compared-ends h = sym (go (ltb (length js) (length gs)) w.many) ∙ w.rest
    where
      no_gaps : (l : List ℕ) → least_gap b l [] ≡ b
      no_gaps [] = refl
      no_gaps (j ∷ l) = refl

      go : (t : Bool) → cond t (length js) (length gs) ≤ n → least_gap b (drop i js) (drop i gs) ≡ b
      go true k = let l : length js ≤ i = omega arith in ap (λ (m : List ℕ). least_gap b m (drop i gs)) (drop_of_length-le js l)
      go false k = let l : length gs ≤ i = omega arith in ap (least_gap b (drop i js)) (drop_of_length-le gs l) ∙ no_gaps (drop i js)

-- a gap behind the others is the last
pub least_last : (b : Option Smallest) (js : List ℕ) (gs : List Float) (i : ℕ) (g : Float) → length js ≡ length gs
    → least_gap b (js ++ (i ∷ [])) (gs ++ (g ∷ [])) ≡ lesser_gap (least_gap b js gs) i g
unfolding least_gap
least_last b [] [] i g e = refl
least_last b [] (h ∷ gs) i g e = absurd (omega arith)
least_last b (j ∷ js) [] i g e = absurd (omega arith)
least_last b (j ∷ js) (h ∷ gs) i g e = least_last (lesser_gap b j h) js gs i g (omega arith)

-- ---- of a pair's records
-- the last index taken by itself
fold_last : {A : Type 0} (step : A → ℕ → A) (a : A) (k j : ℕ) → fold_in step a (suc k) j ≡ step (fold_in step a k j) (k + j)
unfolding fold_in
fold_last step a zero j = ap (step a) (omega arith)
fold_last step a (suc k) j = fold_last step (step a j) k (suc j) ∙ ap (step (fold_in step (step a j) k (suc j))) (omega arith)

-- a record's number with its gap
abbrev with_gap : (ℕ → Float) → Option ℕ → Option Smallest
with_gap gap None = None
with_gap gap (Some i) = Some (record { at = i; gap = gap i })

module _ (pair : ℕ → ℕ) (gap : ℕ → Float) where
  -- the smallest gap of the pair p among the first n records
  unfoldable pub best_of : ℕ → ℕ → Option Smallest
  best_of n p = with_gap gap (governing_of pair gap n p)

  -- the step of the definition: where the record names the pair, its gap more
  least_step : (p : ℕ) (m : Option ℕ) (j : ℕ) → cond (eqb (pair j) p) (lesser_gap (with_gap gap m) j (gap j)) (with_gap gap m) ≡ with_gap gap (least_of pair gap p m j)
  least_step p None j = go (eqb (pair j) p)
    where
      go : (t : Bool) → cond t (Some (record { at = j; gap = gap j })) None ≡ with_gap gap (cond t (Some j) None)
      go true = refl
      go false = refl
  least_step p (Some a) j = go (eqb (pair j) p) (lt (gap j) (gap a))
    where
      go : (t u : Bool) → cond t (cond u (Some (record { at = j; gap = gap j })) (Some (record { at = a; gap = gap a }))) (Some (record { at = a; gap = gap a }))
          ≡ with_gap gap (cond (t && u) (Some j) (Some a))
      go true true = refl
      go true false = refl
      go false u = refl

  pub best_none : (p : ℕ) → None ≡ best_of 0 p
  unfolding best_of governing_of fold_in
  best_none p = refl

  pub best_more : (p i : ℕ) → cond (eqb (pair i) p) (lesser_gap (best_of i p) i (gap i)) (best_of i p) ≡ best_of (i + 1) p
  unfolding best_of governing_of
  best_more p i =
      least_step p (governing i) i ∙
      ap (with_gap gap) (sym (ap governing (add-one i) ∙ fold_last (least_of pair gap p) None i 0 ∙ ap (least_of pair gap p (governing i)) (omega arith)))
    where
      governing : ℕ → Option ℕ
      governing k = fold_in (least_of pair gap p) None k 0

  -- where the code's test has come out
  pub best_takes : {b : Option Smallest} {p i : ℕ} → b ≡ best_of i p → pair i ≡ p → lesser_gap b i (gap i) ≡ best_of (i + 1) p
  best_takes {b} {p} {i} e h =
      ap (λ (x : Option Smallest). lesser_gap x i (gap i)) e ∙ sym (cond_yes (lesser_gap (best_of i p) i (gap i)) (best_of i p) (eq-eqb (pair i) p h)) ∙ best_more p i

  pub best_passes : {b : Option Smallest} {p i : ℕ} → b ≡ best_of i p → (pair i ≡ p → ⊥) → b ≡ best_of (i + 1) p
  best_passes {b} {p} {i} e h = e ∙ sym (cond_no (lesser_gap (best_of i p) i (gap i)) (best_of i p) (ne_eqb (pair i) p h)) ∙ best_more p i

  -- its row is the governing one, and its gap that row's
  pub row_is : {b : Option Smallest} (n p : ℕ) → b ≡ best_of n p → row_of_best b ≡ governing_of pair gap n p
  unfolding best_of
  row_is n p e = ap row_of_best e ∙ number (governing_of pair gap n p)
    where
      number : (m : Option ℕ) → row_of_best (with_gap gap m) ≡ m
      number None = refl
      number (Some i) = refl

  pub gap_is : {b : Option Smallest} (n p : ℕ) → b ≡ best_of n p → gap_of_best b ≡ gap_of pair gap (governing_of pair gap n p)
  unfolding best_of
  gap_is n p e = ap gap_of_best e ∙ shown (governing_of pair gap n p)
    where
      shown : (m : Option ℕ) → gap_of_best (with_gap gap m) ≡ gap_of pair gap m
      shown None = refl
      shown (Some i) = refl
