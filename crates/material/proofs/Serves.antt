-- A number that serves for another where numbers up to a limit make no difference: the largest of the limit and either is the same, and so it stays while least numbers are taken. Assumes nothing.
use Prim.Native.Nat.{ℕ, ◌+◌, ◌-◌, ◌<◌, ◌≤◌}
use mathlib.Core.Path.{◌≡◌, refl, sym, ap, subst, ◌∙◌}
use mathlib.Core.Bool.{Bool, true, false, cond}
use mathlib.Core.Logic.{◌⊎◌, inl, inr}
use mathlib.Core.List.{List, [], ◌∷◌}
use lib.Dec.{T}
use lib.Ieee.{Float, nan, inf, fin, is_nan, lt, le}
use Rattle.laws.specs.Lists.{list_in, foldl}
use Rattle.laws.proofs.Choice.{cond_no, holds, is_false}
use Rattle.laws.proofs.Lists.{list_turn, list_done}
use Rattle.laws.proofs.Order.{lt_trans, lt_eq}
use Rattle.ieee.specs.Num.{max_of, min_of}
use Rattle.ieee.proofs.MinRoot.{lt_le, le_cases, le_not_lt, min_numbers, max_numbers}
use Rattle.geometry.specs.declared.Point.{Point}
use Rattle.material.specs.Material.{Edge, square_of, edges_of, Serves, least_in}

-- ---- the order on numbers
le_left : (x d : Float) → T (le x d) → is_nan x ≡ false
unfolding le is_nan
le_left nan d h = absurd h
le_left (inf s) d h = refl
le_left (fin s m e) d h = refl

le_right : (x d : Float) → T (le x d) → is_nan d ≡ false
unfolding le is_nan
le_right nan d h = absurd h
le_right (inf s) nan h = absurd h
le_right (fin s m e) nan h = absurd h
le_right (inf s) (inf t) h = refl
le_right (inf s) (fin t n c) h = refl
le_right (fin s m e) (inf t) h = refl
le_right (fin s m e) (fin t n c) h = refl

-- where the limit is no number, only the number itself serves
pub serves_nan : (r x : Float) → Serves nan r x → r ≡ x
unfolding is_nan
serves_nan r x (inl e) = e
serves_nan r x (inr u) = absurd (mathlib.Core.Bool.false≢true (sym (le_right r nan u.0)))

pub serves_max : (d r x : Float) → Serves d r x → max_of d r ≡ max_of d x
serves_max d r x s = elim s [ inl e ↦ ap (max_of d) e | inr u ↦ under r u.0 ∙ sym (under x u.1) ]
  where
    under : (x : Float) → T (le x d) → max_of d x ≡ d
    under x h = max_numbers d x (le_right x d h) ∙ cond_no x d (is_false (lt d x) (le_not_lt x d h))

le_min : (x y d : Float) → T (le x d) → T (le (min_of x y) d)
le_min x y d h = subst (λ (v : Float). T (le v d)) (sym (min_numbers x y (le_left x d h))) (go (lt y x) refl)
  where
    go : (b : Bool) → lt y x ≡ b → T (le (cond b y x) d)
    go true e = elim (le_cases x d h) [ inl l ↦ lt_le y d (lt_trans y x d (holds e) l) | inr k ↦ lt_le y d (lt_eq y x d (holds e) k) ]
    go false e = h

-- ---- a fold that stays below the limit once it is there
module _ {A : Type 0} (F : Float → A → Float) (d : Float) (keeps : (x : Float) (a : A) → T (le x d) → T (le (F x a) d)) where
  pub fold_keeps : (l : List A) (x : Float) → T (le x d) → T (le (foldl F x l) d)
  unfolding foldl
  fold_keeps [] x h = h
  fold_keeps (a ∷ l) x h = fold_keeps l (F x a) (keeps x a h)

  -- the list left, folded from x on, comes to `whole`, or neither of the two is above the limit
  abbrev pub Comes : Float → List A → Float → Type 0
  Comes x l whole = (foldl F x l ≡ whole) ⊎ (T (le x d) × T (le whole d))

  comes-more : {x r whole : Float} (a : A) (l : List A) → Comes x (a ∷ l) whole → Serves d r (F x a) → Comes r l whole
  unfolding foldl
  comes-more {x} a l (inl e) (inl s) = inl (ap (λ (v : Float). foldl F v l) s ∙ e)
  comes-more {x} a l (inl e) (inr s) = inr (s.0, subst (λ (v : Float). T (le v d)) e (fold_keeps l (F x a) s.1))
  comes-more {x} a l (inr u) (inl s) = inr (subst (λ (v : Float). T (le v d)) (sym s) (keeps x a u.0), u.1)
  comes-more a l (inr u) (inr s) = inr (s.0, u.1)

  module _ (f : ℕ → A) (n j : ℕ) {x whole : Float} where
    pub comes-on : {r : Float} → j < n → Comes x (list_in f (n - j) j) whole → Serves d r (F x (f j)) → Comes r (list_in f (n - (j + 1)) (j + 1)) whole
    comes-on h c s = comes-more (f j) (list_in f (n - (j + 1)) (j + 1)) (subst (λ (l : List A). Comes x l whole) (list_turn f n j h) c) s

    pub comes-done : n ≤ j → Comes x (list_in f (n - j) j) whole → Serves d x whole
    unfolding foldl
    comes-done h c = subst (λ (l : List A). Comes x l whole) (list_done f n j h) c

  pub comes-early : {x whole : Float} (l : List A) → Comes x l whole → T (le x d) → Serves d x whole
  comes-early {x} l (inl e) h = inr (h, subst (λ (v : Float). T (le v d)) e (fold_keeps l x h))
  comes-early l (inr u) h = inr u

  -- one fold after the other
  pub serves_fold : {s x t : Float} (l : List A) → Serves d s x → Serves d t (foldl F s l) → Serves d t (foldl F x l)
  serves_fold {s} {x} {t} l (inl e) k = subst (λ (v : Float). Serves d t (foldl F v l)) e k
  serves_fold {s} {x} {t} l (inr u) (inl e) = inr (subst (λ (v : Float). T (le v d)) (sym e) (fold_keeps l s u.0), fold_keeps l x u.1)
  serves_fold {s} {x} {t} l (inr u) (inr k) = inr (k.0, fold_keeps l x u.1)

-- ---- the least of squares, over edges and over polygons
module _ (p : Point) where
  abbrev pub of_edge : Float → Edge → Float
  of_edge x e = min_of x (square_of p e)

  abbrev pub of_polygon : Float → List Point → Float
  of_polygon x l = least_in p x (edges_of l)

  pub edge-keeps : (d x : Float) (e : Edge) → T (le x d) → T (le (of_edge x e) d)
  edge-keeps d x e h = le_min x (square_of p e) d h

  pub polygon_keeps : (d x : Float) (l : List Point) → T (le x d) → T (le (of_polygon x l) d)
  polygon_keeps d x l h = fold_keeps of_edge d (edge-keeps d) (edges_of l) x h
