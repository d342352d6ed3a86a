-- Which polygons there are settles the depth: neither their order nor that one stands twice counts. Assumes nothing.
use mathlib.Core.Path.{◌≡◌, refl, sym, ap, ap₂, subst, ◌∙◌}
use mathlib.Core.Bool.{Bool, true, false, not, cond, ◌&&◌}
use mathlib.Core.Logic.{◌⊎◌, inl, inr, ⊎_elim}
use mathlib.Core.List.Memᴰ
use mathlib.Core.List.{List, [], ◌∷◌, ◌++◌, Memᴰ}
use lib.Dec.{T}
use lib.Ieee.{Float, lt, eq, le, is_nan, of_bits}
use Rattle.laws.specs.Lists.{foldl, flat, any}
use Rattle.laws.proofs.Choice.{holds, or_cases, or_l, or_r, same_test}
use Rattle.laws.proofs.Lists.{foldl-same, foldl-map}
use Rattle.laws.proofs.Order.{lt_trans, lt_eq, eq-lt, eq_trans, trichotomy}
use Rattle.ieee.specs.Consts.{zero_f, infinity_f}
use Rattle.ieee.specs.Num.{min_of, max_of}
use Rattle.ieee.proofs.MinRoot.{Plain, same-value, infinity_plain, root_plain, lt_le, eq-le, le_cases, le_not_lt, self-le, numeric-of, min_numbers, min_number, min_plain}
use Rattle.geometry.specs.declared.Point.{Point}
use Rattle.material.specs.Material.{Material, edges_of, inside_of, holds_of, square_of, distance_of, depth_of, deepest_of}
use Rattle.material.proofs.Parts.{square-plain}

-- ---- every element of l is one of m; and back
abbrev pub Within : {A : Type 0} → List A → List A → Type 0
Within {A} l m = (x : A) → Memᴰ x l → Memᴰ x m

pub record Same {A : Type 0} (l m : List A) : Type 0 where
  pub there : Within l m
  pub back : Within m l

append_within : {A : Type 0} (l m k n : List A) → Within l m → Within k n → Within (l ++ k) (m ++ n)
append_within {A} l m k n f g x i = ⊎_elim
    (λ (j : Memᴰ x l). Memᴰ.append_left n (f x j))
    (λ (j : Memᴰ x k). Memᴰ.append_right m (g x j))
    (Memᴰ.append_cases l i)

module _ {A B : Type 0} (f : A → List B) where
  flat_in : (m : List A) (x : A) → Memᴰ x m → (y : B) → Memᴰ y (f x) → Memᴰ y (flat f m)
  unfolding flat
  flat_in [] x i y j = absurd (Memᴰ.not-nil i)
  flat_in (z ∷ m) x i y j = ⊎_elim
      (λ (e : x ≡ z). Memᴰ.append_left (flat f m) (subst (λ (a : A). Memᴰ y (f a)) e j))
      (λ (k : Memᴰ x m). Memᴰ.append_right (f z) (flat_in m x k y j))
      (Memᴰ.cases_cons i)

  flat-within : (l m : List A) → Within l m → Within (flat f l) (flat f m)
  unfolding flat
  flat-within [] m h y i = absurd (Memᴰ.not-nil i)
  flat-within (x ∷ l) m h y i = ⊎_elim
      (λ (j : Memᴰ y (f x)). flat_in m x (h x (Memᴰ.head refl)) y j)
      (λ (j : Memᴰ y (flat f l)). flat-within l m (λ z k. h z (Memᴰ.tail k)) y j)
      (Memᴰ.append_cases (f x) i)

-- ---- one of the elements passes
module _ {A : Type 0} (q : A → Bool) where
  any-in : (m : List A) (x : A) → Memᴰ x m → T (q x) → T (any q m)
  unfolding any
  any-in [] x i t = absurd (Memᴰ.not-nil i)
  any-in (z ∷ m) x i t = ⊎_elim
      (λ (e : x ≡ z). or_l (q z) (any q m) (subst (λ (a : A). T (q a)) e t))
      (λ (k : Memᴰ x m). or_r (q z) (any q m) (any-in m x k t))
      (Memᴰ.cases_cons i)

  any-within : (l m : List A) → Within l m → T (any q l) → T (any q m)
  unfolding any
  any-within [] m h t = absurd t
  any-within (x ∷ l) m h t = ⊎_elim
      (λ (u : T (q x)). any-in m x (h x (Memᴰ.head refl)) u)
      (λ (u : T (any q l)). any-within l m (λ z k. h z (Memᴰ.tail k)) u)
      (or_cases (q x) (any q l) t)

  pub any-sets : (l m : List A) → Same l m → any q l ≡ any q m
  any-sets l m s = same_test (any q l) (any q m) (any-within l m s.there) (any-within m l s.back)

-- ---- the order
le_trans : (x y z : Float) → T (le x y) → T (le y z) → T (le x z)
le_trans x y z h k = elim (le_cases x y h) [
  | inl a ↦ elim (le_cases y z k) [ inl b ↦ lt_le x z (lt_trans x y z a b) | inr b ↦ lt_le x z (lt_eq x y z a b) ]
  | inr a ↦ elim (le_cases y z k) [ inl b ↦ lt_le x z (eq-lt x y z a b) | inr b ↦ eq-le x z (eq_trans x y z a b) ]
]

le_both : (x y : Float) → T (le x y) → T (le y x) → T (eq x y)
le_both x y h k = elim (le_cases x y h) [ inl a ↦ absurd (le_not_lt y x k a) | inr e ↦ e ]

-- ---- the least of two
min_left : (x y : Float) → is_nan x ≡ false → T (le (min_of x y) x)
min_left x y n = subst (λ (r : Float). T (le r x)) (sym (min_numbers x y n)) (go (lt y x) refl)
  where
    go : (b : Bool) → lt y x ≡ b → T (le (cond b y x) x)
    go true e = lt_le y x (holds e)
    go false e = self-le x (numeric-of x n)

min_right : (x y : Float) → is_nan x ≡ false → is_nan y ≡ false → T (le (min_of x y) y)
min_right x y n k = subst (λ (r : Float). T (le r y)) (sym (min_numbers x y n)) (go (lt y x) refl)
  where
    go : (b : Bool) → lt y x ≡ b → T (le (cond b y x) y)
    go true e = self-le y (numeric-of y k)
    go false e = elim (trichotomy x y (numeric-of x n) (numeric-of y k)) [
      | inl l ↦ lt_le x y l
      | inr r ↦ elim r [ inl u ↦ eq-le x y u | inr l ↦ absurd (subst T e l) ]
    ]

min_one : (x y : Float) → (min_of x y ≡ x) ⊎ (min_of x y ≡ y)
min_one x y = go (is_nan x) (lt y x)
  where
    go : (a b : Bool) → (cond a y (cond b y x) ≡ x) ⊎ (cond a y (cond b y x) ≡ y)
    go true b = inr refl
    go false true = inr refl
    go false false = inl refl

-- ---- the least of a number a and the values f of the elements, a NaN passed over
module _ {E : Type 0} (f : E → Float) where
  abbrev least_of : Float → List E → Float
  least_of a l = foldl (λ x e. min_of x (f e)) a l

  pub least_number : (l : List E) (a : Float) → is_nan a ≡ false → is_nan (least_of a l) ≡ false
  unfolding foldl
  least_number [] a n = n
  least_number (e ∷ l) a n = least_number l (min_of a (f e)) (min_number a (f e) n)

  -- it is no more than a, nor than any value that is a number
  least_start : (l : List E) (a : Float) → is_nan a ≡ false → T (le (least_of a l) a)
  unfolding foldl
  least_start [] a n = self-le a (numeric-of a n)
  least_start (e ∷ l) a n = le_trans (least_of (min_of a (f e)) l) (min_of a (f e)) a (least_start l (min_of a (f e)) (min_number a (f e) n)) (min_left a (f e) n)

  least_each : (l : List E) (a : Float) → is_nan a ≡ false → (x : E) → Memᴰ x l → is_nan (f x) ≡ false → T (le (least_of a l) (f x))
  unfolding foldl
  least_each [] a n x i k = absurd (Memᴰ.not-nil i)
  least_each (e ∷ l) a n x i k = ⊎_elim
      (λ (q : x ≡ e). subst (λ (z : E). T (le (least_of (min_of a (f e)) l) (f z))) (sym q)
      (le_trans (least_of (min_of a (f e)) l) (min_of a (f e)) (f e) (least_start l (min_of a (f e)) (min_number a (f e) n)) (min_right a (f e) n (ap (λ (z : E). is_nan (f z)) (sym q) ∙ k))))
      (λ (j : Memᴰ x l). least_each l (min_of a (f e)) (min_number a (f e) n) x j k)
      (Memᴰ.cases_cons i)

  -- it is a, or one of the values
  least_one : (l : List E) (a : Float) → (least_of a l ≡ a) ⊎ ((x : E) × Memᴰ x l × (least_of a l ≡ f x))
  unfolding foldl
  least_one [] a = inl refl
  least_one (e ∷ l) a = elim (least_one l (min_of a (f e))) [
    | inl q ↦ elim (min_one a (f e)) [ inl u ↦ inl (q ∙ u) | inr u ↦ inr (e, Memᴰ.head refl, q ∙ u) ]
    | inr r ↦ inr (r.0, Memᴰ.tail r.1, r.2)
  ]

  least_within : (l m : List E) → Within l m → (a : Float) → is_nan a ≡ false → T (le (least_of a m) (least_of a l))
  least_within l m h a n = elim (least_one l a) [
    | inl q ↦ subst (λ (r : Float). T (le (least_of a m) r)) (sym q) (least_start m a n)
    | inr r ↦ subst (λ (z : Float). T (le (least_of a m) z)) (sym r.2) (least_each m a n r.0 (h r.0 r.1) (ap is_nan (sym r.2) ∙ least_number l a n))
  ]

  -- values with no sign that are equal are the same
  module _ (plain : (e : E) → Plain (f e)) where
    pub least_plain : (l : List E) (a : Float) → Plain a → Plain (least_of a l)
    unfolding foldl
    least_plain [] a p = p
    least_plain (e ∷ l) a p = least_plain l (min_of a (f e)) (min_plain a (f e) p (plain e))

    pub least_sets : (l m : List E) → Same l m → (a : Float) → Plain a → is_nan a ≡ false → foldl (λ x e. min_of x (f e)) a l ≡ foldl (λ x e. min_of x (f e)) a m
    least_sets l m s a p n = same-value (least_of a l) (least_of a m) (least_plain l a p) (least_plain m a p)
        (le_both (least_of a l) (least_of a m) (least_within m l s.back a n) (least_within l m s.there a n))

-- ---- materials of the same polygons
edges-within : (l m k n : List (List Point)) → Within l m → Within k n → Within (flat edges_of (l ++ k)) (flat edges_of (m ++ n))
edges-within l m k n f g = flat-within edges_of (l ++ k) (m ++ n) (append_within l m k n f g)

pub infinity_number : is_nan infinity_f ≡ false
unfolding is_nan of_bits
infinity_number = refl

module _ (m n : Material) (s : Same m.solids n.solids) (c : Same m.cuts n.cuts) where
  edges-same : Same (flat edges_of (m.solids ++ m.cuts)) (flat edges_of (n.solids ++ n.cuts))
  edges-same = record {
    there = edges-within m.solids n.solids m.cuts n.cuts s.there c.there;
    back = edges-within n.solids m.solids n.cuts m.cuts s.back c.back;
  }

  pub holds-sets : (p : Point) → holds_of m p ≡ holds_of n p
  holds-sets p = ap₂ (λ (a b : Bool). a && not b) (any-sets (inside_of p) m.solids n.solids s) (any-sets (inside_of p) m.cuts n.cuts c)

  pub depth_sets : (p : Point) → depth_of m p ≡ depth_of n p
  unfolding depth_of
  depth_sets p = ap₂ (λ (b : Bool) (d : Float). cond b d zero_f) (holds-sets p)
      (foldl-map min_of (distance_of p) infinity_f (flat edges_of (m.solids ++ m.cuts))
      ∙ least_sets (distance_of p) (λ e. root_plain (square_of p e) (square-plain p e))
      (flat edges_of (m.solids ++ m.cuts)) (flat edges_of (n.solids ++ n.cuts)) edges-same infinity_f infinity_plain infinity_number
      ∙ sym (foldl-map min_of (distance_of p) infinity_f (flat edges_of (n.solids ++ n.cuts))))

  pub deepest_sets : (d : Float) (l : List Point) → deepest_of m d l ≡ deepest_of n d l
  deepest_sets d l = foldl-same (λ x p. max_of x (depth_of m p)) (λ x p. max_of x (depth_of n p)) (λ x p. ap (max_of x) (depth_sets p)) d l
