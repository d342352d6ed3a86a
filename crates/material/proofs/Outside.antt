-- A point whose ordinate lies outside the range of all points is inside no polygon, so its depth is zero: no edge's two ends lie on different sides of its ray. No rounding is met.
-- Assumes nothing.
use mathlib.Core.Path.{◌≡◌, refl, sym, ap, ◌∙◌, subst}
use mathlib.Core.Bool.{Bool, true, false, cond, ◌||◌}
use mathlib.Core.Logic.{inl, inr}
use mathlib.Core.List.{List, []}
use Prim.Native.Nat.{ℕ, zero, suc, ◌+◌, ◌-◌, ◌%◌, ◌≤◌, ◌<◌}
use native.Mathlib.Nat.{mod-lt, sub-zero}
use native.Mathlib.Numerals.{add-one}
use native.Mathlib.Omega.{arith}
use borrow.Author.Count.{below_more}
use lib.Dec.{T}
use lib.ListN.{length, get_or, drop, length-map, length-take, length-drop, get_or-map}
use lib.Seq.{get_or-take, get_or-drop}
use lib.Ieee.{Float, nan, neg, inf, fin, lt, le}
use Rattle.laws.specs.Lists.{list_in, foldl, any}
use Rattle.laws.proofs.Choice.{holds, is_true, is_false, cond_no, and_no, or_cases}
use Rattle.laws.proofs.Order.{lt_trans, lt_eq, eq-lt}
use Rattle.ieee.specs.Consts.{zero_f, infinity_f}
use Rattle.ieee.proofs.MinRoot.{lt_le, le_cases, le_not_lt}
use Rattle.geometry.specs.declared.Point.{Point}
use Rattle.material.specs.Material.{Edge, nowhere, edge_at, cross_of, turned_by, inside_of, poly_at, point_of, points_of, between, material_of, holds_of, square_depth, drawn_material}
use Rattle.material.specs.Range.{low_of, high_of, range_with, range_of, outside_of}
use Rattle.material.specs.declared.DrawnMaterial.{DrawnMaterial}
use Rattle.material.specs.declared.Range.{Range}
use Rattle.material.proofs.Parts.{row_point, points_of-rows}

-- ---- the order, with `le` on one side
lt_of_le : (x y z : Float) → T (lt x y) → T (le y z) → T (lt x z)
lt_of_le x y z h k = elim (le_cases y z k) [ inl l ↦ lt_trans x y z h l | inr e ↦ lt_eq x y z h e ]

le_of_lt : (x y z : Float) → T (le x y) → T (lt y z) → T (lt x z)
le_of_lt x y z h k = elim (le_cases x y h) [ inl l ↦ lt_trans x y z l k | inr e ↦ eq-lt x y z e k ]

no_nan : (y : Float) → T (lt y nan) → ⊥
unfolding lt
no_nan nan h = h
no_nan (inf s) h = h
no_nan (fin s m e) h = h

-- ---- one more point
module _ (y lo v : Float) where
  low-old : (a b : Bool) → lt v lo ≡ b → T (lt y (cond a lo (cond b v nan))) → T (lt y lo)
  low-old true b e h = h
  low-old false true e h = lt_trans y v lo h (holds e)
  low-old false false e h = absurd (no_nan y h)

  low-new : (a b : Bool) → le lo v ≡ a → T (lt y (cond a lo (cond b v nan))) → T (lt y v)
  low-new true b e h = lt_of_le y lo v h (holds e)
  low-new false true e h = h
  low-new false false e h = absurd (no_nan y h)

module _ (hi y v : Float) where
  high-old : (a : Bool) → lt hi v ≡ a → T (le (cond a v hi) y) → T (le hi y)
  high-old true e h = elim (le_cases v y h) [ inl l ↦ lt_le hi y (lt_trans hi v y (holds e) l) | inr k ↦ lt_le hi y (lt_eq hi v y (holds e) k) ]
  high-old false e h = h

  high-new : (a : Bool) → lt hi v ≡ a → T (le (cond a v hi) y) → T (lt y v) → ⊥
  high-new true e h k = le_not_lt v y h k
  high-new false e h k = subst T e (le_of_lt hi y v h k)

-- ---- the range of the ordinates
abbrev no_range : Range
no_range = record { lo = infinity_f; hi = neg infinity_f }

abbrev pub ordinate : List (List Float) → ℕ → Float
ordinate l i = get_or (get_or l i []) 1 nan

-- each of the first n points lies above all that is below lo, and none of them above hi or more
pub record Covers (l : List (List Float)) (n : ℕ) (lo hi : Float) : Type 0 where
  pub under : (y : Float) → T (lt y lo) → (i : ℕ) → i < n → lt y (ordinate l i) ≡ true
  pub over : (y : Float) → T (le hi y) → (i : ℕ) → i < n → lt y (ordinate l i) ≡ false

covers_none : (l : List (List Float)) (lo hi : Float) → Covers l 0 lo hi
covers_none l lo hi = record { under = λ y t i h. absurd (native.Mathlib.Nat.not-suc-le-zero h); over = λ y t i h. absurd (native.Mathlib.Nat.not-suc-le-zero h) }

covers_more : (l : List (List Float)) (n : ℕ) (lo hi : Float) → Covers l n lo hi → Covers l (n + 1) (low_of lo (ordinate l n)) (high_of hi (ordinate l n))
covers_more l n lo hi c = record {
  under = λ y t. below_more (λ (i : ℕ). lt y (ordinate l i) ≡ true) n (c.under y (low-old y lo (ordinate l n) (le lo (ordinate l n)) (lt (ordinate l n) lo) refl t))
      (is_true (lt y (ordinate l n)) (low-new y lo (ordinate l n) (le lo (ordinate l n)) (lt (ordinate l n) lo) refl t));
  over = λ y t. below_more (λ (i : ℕ). lt y (ordinate l i) ≡ false) n (c.over y (high-old hi y (ordinate l n) (lt hi (ordinate l n)) refl t))
      (is_false (lt y (ordinate l n)) (high-new hi y (ordinate l n) (lt hi (ordinate l n)) refl t));
}

-- the range of all points, from that of the first j on
module _ (l : List (List Float)) where
  covers_from : (k j n : ℕ) → j + k ≡ n → (r : Range) → Covers l j r.lo r.hi
      → Covers l n (foldl range_with r (list_in (row_point l) k j)).lo (foldl range_with r (list_in (row_point l) k j)).hi
  unfolding foldl list_in
  covers_from zero j n e r c = let h : j ≡ n = omega arith in subst (λ (i : ℕ). Covers l i r.lo r.hi) h c
  covers_from (suc k) j n e r c =
      let m = range_with r (row_point l j) in
      covers_from k (suc j) n (omega arith) m (subst (λ (i : ℕ). Covers l i m.lo m.hi) (add-one j) (covers_more l j r.lo r.hi c))

  pub range-covers : Covers l (length l) (range_of l).lo (range_of l).hi
  unfolding range_of
  range-covers =
      subst (λ (ps : List Point). Covers l (length l) (foldl range_with no_range ps).lo (foldl range_with no_range ps).hi) (sym (points_of-rows l))
      (covers_from (length l) 0 (length l) (omega arith) no_range (covers_none l _ _))

  -- the loop's first turn
  pub range-starts : (a b : Float) → a ≡ infinity_f → b ≡ infinity_f → foldl range_with (record { lo = a; hi = neg b }) (list_in (row_point l) (length l - 0) 0) ≡ range_of l
  unfolding range_of
  range-starts a b e f = rw (e, f, sub-zero) (ap (foldl range_with no_range) (sym (points_of-rows l)))

-- ---- no crossing where both ends lie on one side
no_cross : (p : Point) (e : Edge) (b : Bool) → lt p.y e.a.y ≡ b → lt p.y e.b.y ≡ b → cross_of p e ≡ false
unfolding cross_of
no_cross p e true h k = rw (h, k)
no_cross p e false h k = rw (h, k)

module _ (p : Point) (q : ℕ → Point) (n : ℕ) (b : Bool) (side : (i : ℕ) → i < n → lt p.y (q i).y ≡ b) where
  at_edge : (j : ℕ) → j < n → cross_of p (edge_at q n j) ≡ false
  at_edge j h = no_cross p (edge_at q n j) b (side j h) (side ((j + 1) % n) (mod-lt (j + 1) (native.Mathlib.Nat.lt_of_le_of_lt Prim.Native.Nat.zero-le h)))

  quiet : (k j : ℕ) → j + k ≤ n → foldl (turned_by p) false (list_in (edge_at q n) k j) ≡ false
  unfolding foldl list_in
  quiet zero j h = refl
  quiet (suc k) j h =
      ap (λ (t : Bool). foldl (turned_by p) (cond t true false) (list_in (edge_at q n) k (suc j))) (at_edge j (omega arith))
      ∙ quiet k (suc j) (omega arith)

-- ---- a polygon of points of l
module _ (p : Point) (l : List (List Float)) (b : Bool) (side : (i : ℕ) → i < length l → lt p.y (ordinate l i) ≡ b) where
  module _ (a e : ℕ) where
    vertex : (i : ℕ) → i < length (between l a e) → lt p.y (get_or (points_of (between l a e)) i nowhere).y ≡ b
    vertex i h =
        let k : length (between l a e) ≡ Prim.Native.Nat.min (e - a) (length l - a) = length-take (e - a) (drop a l) ∙ ap (Prim.Native.Nat.min (e - a)) (length-drop a l) in
        let x : i < e - a = omega (arith, k) in
        let y : a + i < length l = omega (arith, k) in
        ap (λ (v : Point). lt p.y v.y) (get_or-map point_of (between l a e) i [])
        ∙ ap (λ (v : List Float). lt p.y (get_or v 1 nan)) (get_or-take (e - a) (drop a l) i [] x ∙ get_or-drop a l i [])
        ∙ side (a + i) y

    not_inside : inside_of p (points_of (between l a e)) ≡ false
    unfolding inside_of
    not_inside =
        quiet p (λ i. get_or (points_of (between l a e)) i nowhere) (length (points_of (between l a e))) b
        (λ i h. vertex i (subst (λ (n : ℕ). i < n) (length-map (between l a e) point_of) h))
        (length (points_of (between l a e))) 0 (omega arith)

  none_inside : (starts : List ℕ) (k j : ℕ) → any (inside_of p) (list_in (poly_at l starts) k j) ≡ false
  unfolding any list_in
  none_inside starts zero j = refl
  none_inside starts (suc k) j =
      ap (λ (t : Bool). t || any (inside_of p) (list_in (poly_at l starts) k (suc j))) (not_inside (get_or starts j 0) (get_or starts (j + 1) 0))
      ∙ none_inside starts k (suc j)

  not_held : (starts : List ℕ) (solids all : ℕ) → holds_of (material_of l starts solids all) p ≡ false
  not_held starts solids all = and_no _ (none_inside starts solids 0)

module _ (l : List (List Float)) (starts : List ℕ) (solids all : ℕ) (p : Point) where
  -- outside the range of all points nothing holds p
  outside_held : outside_of (range_of l).lo (range_of l).hi p.y ≡ true → holds_of (material_of l starts solids all) p ≡ false
  outside_held h = elim (or_cases (lt p.y (range_of l).lo) (le (range_of l).hi p.y) (holds h)) [
    | inl t ↦ not_held p l true ((range-covers l).under p.y t) starts solids all
    | inr t ↦ not_held p l false ((range-covers l).over p.y t) starts solids all
  ]

  -- the same for every point: in a range that is that of all points, the case outside it changes nothing
  pub within-square : (r : Range) → r ≡ range_of l
      → cond (outside_of r.lo r.hi p.y) zero_f (square_depth (material_of l starts solids all) p) ≡ square_depth (material_of l starts solids all) p
  unfolding square_depth
  within-square r e = rw e (go (outside_of (range_of l).lo (range_of l).hi p.y) refl)
    where
      go : (b : Bool) → outside_of (range_of l).lo (range_of l).hi p.y ≡ b → cond b zero_f (square_depth (material_of l starts solids all) p) ≡ square_depth (material_of l starts solids all) p
      go true h = sym (cond_no _ _ (outside_held h))
      go false h = refl

-- THE LAW: outside the range of all points the square of the depth is zero
pub outside_square : (m : DrawnMaterial) (r : Range) (p : Point) → r ≡ range_of m.points.now → outside_of r.lo r.hi p.y ≡ true → square_depth (drawn_material m) p ≡ zero_f
unfolding square_depth
outside_square m r p e h =
    cond_no _ _ (outside_held m.points.now m.starts.now m.solids m.all p (subst (λ (k : Range). outside_of k.lo k.hi p.y ≡ true) e h))
