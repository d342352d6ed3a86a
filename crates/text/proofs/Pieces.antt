-- The laws of pieces: what the end of a piece tells, and a search for it. Assumes nothing.
use Prim.Native.Nat.{ℕ, suc, ◌+◌, ◌-◌, ◌<◌, ◌≤◌, max}
use native.Mathlib.Numerals.{add-one}
use native.Mathlib.Omega.{arith}
use mathlib.Core.Path.{◌≡◌, refl, sym, ap, ap₂, subst, ◌∙◌}
use mathlib.Core.Bool.{Bool, true, false, cond}
use mathlib.Core.List.{List, [], ◌∷◌}
use lib.Dec.{eqb, leb}
use lib.ListN.{length, get_or, take, drop, drop_of_length-le, length-drop}
use lib.Seq.{drop-cons, drop-drop}
use borrow.Author.Tests.{eq-eqb, ne_eqb, leb-true, leb-false}
use Rattle.laws.proofs.Choice.{cond_yes, cond_no}
use Rattle.text.specs.Pieces.{onto, split, piece_end}

-- a text has at least one piece
pub at_least_one : (P : List (List ℕ) → Type 0) → ((p : List ℕ) (ps : List (List ℕ)) → P (p ∷ ps)) → (c : ℕ) (s : List ℕ) → P (split c s)
unfolding onto split
at_least_one P k c [] = k [] []
at_least_one P k c (b ∷ bs) = go (eqb b c) (split c bs)
  where
    go : (t : Bool) (l : List (List ℕ)) → P (cond t ([] ∷ l) (onto (b ∷ []) l))
    go true l = k [] l
    go false [] = k (b ∷ []) []
    go false (p ∷ ps) = k (b ∷ p) ps

-- ---- the first piece
abbrev first : List (List ℕ) → ℕ
first ps = length (get_or ps 0 [])

one-longer : (b : ℕ) (l : List (List ℕ)) → first (onto (b ∷ []) l) ≡ suc (first l)
unfolding onto
one-longer b [] = refl
one-longer b (p ∷ ps) = refl

-- the first piece of t, where it is n long
record First (c : ℕ) (t : List ℕ) (n : ℕ) : Type 0 where
  fits : n ≤ length t
  others : n < length t → split c t ≡ take n t ∷ split c (drop (suc n) t)
  alone : length t ≤ n → split c t ≡ take n t ∷ []

first-is : (c : ℕ) (t : List ℕ) → First c t (first (split c t))
unfolding onto split
first-is c [] = record { fits = omega arith; others = λ h. absurd (omega arith); alone = λ _. refl }
first-is c (b ∷ bs) = go (eqb b c) refl (first-is c bs)
  where
    go : (t : Bool) → eqb b c ≡ t → First c bs (first (split c bs)) → First c (b ∷ bs) (first (split c (b ∷ bs)))
    go true e w =
        let s : split c (b ∷ bs) ≡ [] ∷ split c bs = cond_yes _ _ e in
        subst (First c (b ∷ bs)) (sym (ap first s)) (record { fits = omega arith; others = λ _. s; alone = λ h. absurd (omega arith) })
    go false e w =
        let s : split c (b ∷ bs) ≡ onto (b ∷ []) (split c bs) = cond_no _ _ e in
        subst (First c (b ∷ bs)) (sym (ap first s ∙ one-longer b (split c bs)))
        (record {
          fits = omega (arith, w.fits);
          others = λ h. s ∙ ap (onto (b ∷ [])) (w.others (omega arith));
          alone = λ h. s ∙ ap (onto (b ∷ [])) (w.alone (omega arith));
        })

-- the piece that starts at `at` ends at e
pub record Piece (s : List ℕ) (c at e : ℕ) : Type 0 where
  pub from : at ≤ e
  pub within : e ≤ length s
  pub more : e < length s → split c (drop at s) ≡ take (e - at) (drop at s) ∷ split c (drop (e + 1) s)
  pub last : length s ≤ e → split c (drop at s) ≡ take (e - at) (drop at s) ∷ []

pub piece : (s : List ℕ) (c at e : ℕ) → at ≤ length s → e ≡ piece_end c s at → Piece s c at e
piece s c at e h q =
    let w = first-is c (drop at s) in
    let n = first (split c (drop at s)) in
    let l = length-drop at s in
    let k : e - at ≡ n = omega arith in
    let past : at + suc n ≡ e + 1 = omega arith in
    record {
      from = omega arith;
      within = omega (arith, w.fits);
      more = λ m.
          w.others (omega arith)
          ∙ ap₂ (λ (i : ℕ) (t : List ℕ). take i (drop at s) ∷ split c t) (sym k) (drop-drop (suc n) at s ∙ ap (λ (i : ℕ). drop i s) past);
      last = λ m. w.alone (omega arith) ∙ ap (λ (i : ℕ). take i (drop at s) ∷ []) (sym k);
    }

-- ---- a search for c that has come to i
module _ (s : List ℕ) (c i : ℕ) where
  pub looks_on : i < length s → (get_or s i 0 ≡ c → ⊥) → piece_end c s (i + 1) ≡ piece_end c s i
  unfolding split
  looks_on h n =
      let e : first (split c (drop i s)) ≡ suc (first (split c (drop (i + 1) s))) =
      ap (λ (t : List ℕ). first (split c t)) (drop-cons s i 0 h)
      ∙ ap first (cond_no _ _ (ne_eqb (get_or s i 0) c n))
      ∙ one-longer (get_or s i 0) (split c (drop (suc i) s))
      ∙ ap (λ (k : ℕ). suc (first (split c (drop k s)))) (sym (add-one i)) in
      omega arith

  pub found : i < length s → get_or s i 0 ≡ c → i ≡ piece_end c s i
  unfolding split
  found h y =
      let e : first (split c (drop i s)) ≡ 0 =
      ap (λ (t : List ℕ). first (split c t)) (drop-cons s i 0 h) ∙ ap first (cond_yes _ _ (eq-eqb (get_or s i 0) c y)) in
      omega arith

  pub not_found : length s ≤ i → i ≡ piece_end c s i
  unfolding split
  not_found h =
      let e : first (split c (drop i s)) ≡ 0 = ap (λ (t : List ℕ). first (split c t)) (drop_of_length-le s {i = i} h) in
      omega arith

-- a search from `at` that came to i and found nothing
pub not-there : (s : List ℕ) (c at i : ℕ) → length s ≤ i → (at ≤ length s → i ≤ length s) → piece_end c s i ≡ piece_end c s at → max at (length s) ≡ piece_end c s at
not-there s c at i h k e = go (leb at (length s)) refl
  where
    go : (t : Bool) → leb at (length s) ≡ t → max at (length s) ≡ piece_end c s at
    go true l = let j : i ≤ length s = k (leb-true at (length s) l) in let n = not_found s c i h in omega arith
    go false l = let j = leb-false at (length s) l in let n = not_found s c at (omega arith) in omega arith
