-- Demand 3 of the governing row: of any records, NaN gaps included, `governing_of` is the pair's first record of its smallest gap. Assumes nothing.
use Prim.Native.Nat.{ℕ, zero, suc, ◌+◌, ◌<◌}
use native.Mathlib.Omega.{arith}
use native.Mathlib.Nat.{eq-or-lt_of_le, le_of_suc-le-suc, add-zero, zero-add}
use mathlib.Core.Path.{◌≡◌, refl, sym, ap, subst, ◌∙◌}
use mathlib.Core.Logic.{⊎_elim}
use mathlib.Core.Bool.{Bool, true, false, ◌&&◌, cond}
use lib.Dec.{T, eqb}
use lib.Ieee.{Float, nan, lt, is_nan}
use borrow.Author.Tests.{eqb-true, eqb-false, eq-eqb}
use Rattle.laws.specs.Loops.{fold_in}
use Rattle.laws.specs.Floats.{Numeric}
use Rattle.laws.proofs.Choice.{both, holds, and_yes}
use Rattle.laws.proofs.Order.{lt_right, lt_trans, eq-lt, lt_asym}
use Rattle.governing.specs.Governing.{least_of, governing_of, Governs, Governing}
use Rattle.std.proofs.Common.{Option, Some, None}

nan_not_numeric : (x : Float) → x ≡ nan → Numeric x → ⊥
unfolding is_nan
nan_not_numeric x e n = subst Numeric e n

-- what holds of the record s and of each before it
up_to : (P : ℕ → Type 0) (s : ℕ) → P s → ((j : ℕ) → j < s → P j) → (j : ℕ) → j < suc s → P j
up_to P s a f j l = ⊎_elim (λ (q : j ≡ s). subst P (sym q) a) (λ (l' : j < s). f j l') (eq-or-lt_of_le (le_of_suc-le-suc l))

module _ (pair : ℕ → ℕ) (gap : ℕ → Float) (p : ℕ) where
  -- no record of the pair before s
  from-none : (s : ℕ) → Governing pair gap s p None → (b : Bool) → eqb (pair s) p ≡ b → Governing pair gap (suc s) p (cond b (Some s) None)
  from-none s f true e = record {
    inside = omega arith;
    of_pair = eqb-true (pair s) p e;
    smallest = up_to (λ j. pair j ≡ p → T (lt (gap j) (gap s)) → ⊥) s (λ q h. lt_asym (gap s) (gap s) h h) (λ j l q h. f j l q);
    earliest = λ j l q h. f j l q;
    nan_stays = up_to (λ j. pair j ≡ p → ((k : ℕ) → k < j → pair k ≡ p → ⊥) → gap j ≡ nan → s ≡ j) s (λ q g z. refl) (λ j l q g z. absurd (f j l q));
  }
  from-none s f false e = up_to (λ j. pair j ≡ p → ⊥) s (eqb-false (pair s) p e) f

  -- the record a governs those before s
  from_some : (a s : ℕ) → Governs pair gap s p a → (b : Bool) → (eqb (pair s) p && lt (gap s) (gap a)) ≡ b → Governing pair gap (suc s) p (cond b (Some s) (Some a))
  from_some a s r true e =
      let t = both (eqb (pair s) p) (lt (gap s) (gap a)) e in
      let h : T (lt (gap s) (gap a)) = holds t.1 in
      record {
        inside = omega arith;
        of_pair = eqb-true (pair s) p t.0;
        smallest = up_to (λ j. pair j ≡ p → T (lt (gap j) (gap s)) → ⊥) s (λ q k. lt_asym (gap s) (gap s) k k)
            (λ j l q k. r.smallest j l q (lt_trans (gap j) (gap s) (gap a) k h));
        earliest = λ j l q k. r.smallest j l q (eq-lt (gap j) (gap s) (gap a) k h);
        nan_stays = up_to (λ j. pair j ≡ p → ((k : ℕ) → k < j → pair k ≡ p → ⊥) → gap j ≡ nan → s ≡ j) s (λ q g z. refl)
            (λ j l q g z. absurd (nan_not_numeric (gap a) (ap gap (r.nan_stays j l q g z) ∙ z) (lt_right (gap s) (gap a) h)));
      }
  from_some a s r false e = record {
    inside = omega (arith, r.inside);
    of_pair = r.of_pair;
    smallest = up_to (λ j. pair j ≡ p → T (lt (gap j) (gap a)) → ⊥) s
        (λ q h. subst T (sym (and_yes (lt (gap s) (gap a)) (eq-eqb (pair s) p q)) ∙ e) h) r.smallest;
    earliest = r.earliest;
    nan_stays = up_to (λ j. pair j ≡ p → ((k : ℕ) → k < j → pair k ≡ p → ⊥) → gap j ≡ nan → a ≡ j) s
        (λ q g z. absurd (g a r.inside r.of_pair)) r.nan_stays;
  }

  -- one record more
  first_step : (m : Option ℕ) (s : ℕ) → Governing pair gap s p m → Governing pair gap (suc s) p (least_of pair gap p m s)
  first_step None s r = from-none s r (eqb (pair s) p) refl
  first_step (Some a) s r = from_some a s r (eqb (pair s) p && lt (gap s) (gap a)) refl

  first-fold : (k : ℕ) (m : Option ℕ) (s : ℕ) → Governing pair gap s p m → Governing pair gap (s + k) p (fold_in (least_of pair gap p) m k s)
  unfolding fold_in
  first-fold zero m s r = subst (λ (n : ℕ). Governing pair gap n p m) (sym (add-zero s)) r
  first-fold (suc k) m s r = subst (λ (n : ℕ). Governing pair gap n p (fold_in (least_of pair gap p) (least_of pair gap p m s) k (suc s))) (omega arith)
      (first-fold k (least_of pair gap p m s) (suc s) (first_step m s r))

-- ---- every clause
pub governing-first : (pair : ℕ → ℕ) (gap : ℕ → Float) (n p : ℕ) → Governing pair gap n p (governing_of pair gap n p)
unfolding governing_of
governing-first pair gap n p =
    subst (λ (k : ℕ). Governing pair gap k p (fold_in (least_of pair gap p) None n 0)) (zero-add n) (first-fold pair gap p n None 0 (λ j l q. absurd (omega arith)))
