-- A pair of a prepared description: what is read of its two rows, and that nothing overlaps where no material is drawn. Assumes nothing.
use Prim.Native.Nat.{ℕ, ◌<◌, ◌≤◌}
use mathlib.Core.Path.{◌≡◌, refl, sym, ap, ap₂, ◌∙◌}
use mathlib.Core.Bool.{Bool, true, false, cond}
use mathlib.Core.List.{List, [], ◌∷◌}
use lib.Dec.{eqb}
use lib.Ieee.{Float, lt, is_nan, of_bits}
use borrow.Author.Tests.{le-leb, lt-leb, eq-eqb, ne_eqb}
use Rattle.laws.specs.Lists.{foldl, any}
use Rattle.laws.specs.Loops.{filter_in}
use Rattle.laws.proofs.Choice.{cond_yes, cond_no}
use Rattle.ieee.specs.Consts.{zero_f}
use Rattle.ieee.specs.Num.{max_of}
use Rattle.geometry.specs.declared.Point.{Point}
use Rattle.bodies.specs.Pose.{placement_at, world_of}
use Rattle.bodies.specs.declared.pose.Placement.{Placement}
use Rattle.bodies.specs.declared.pose.Pose.{Pose}
use Rattle.material.specs.Material.{Material, depth_of, deepest_of}
use Rattle.strips.specs.Strips.{TableRows, side_at, center_at, row_a, row_b, row_of_material, row_of_sampled}
use Rattle.strips.specs.declared.SideFacts.{SideFacts}
use Rattle.overlap.specs.Overlap.{owner_at}
use Rattle.drawing.specs.Prepared.{parts_in, all_drawn, choice_at, material_in, material_or}
use Rattle.drawing.specs.declared.Chosen.{Chosen}
use Rattle.overlap.specs.Prepared.{samples_in, sunk_in, features_overlap_in, center_overlap_in, pair_overlap_in}

-- ---- where no material is drawn
abbrev empty : Material
empty = record { solids = []; cuts = [] }

max_zero : max_of zero_f zero_f ≡ zero_f
unfolding lt is_nan of_bits
max_zero = refl

depth_none : (p : Point) → depth_of empty p ≡ zero_f
unfolding depth_of any
depth_none p = refl

deepest_none : (l : List Point) → deepest_of empty zero_f l ≡ zero_f
unfolding foldl
deepest_none [] = refl
deepest_none (p ∷ l) = ap (λ (x : Float). deepest_of empty x l) (ap (max_of zero_f) (depth_none p) ∙ max_zero) ∙ deepest_none l

module _ (t : TableRows) (q : Pose) where
  parts_none : (l : List ℕ) → foldl (λ d i. deepest_of empty d (samples_in t q i)) zero_f l ≡ zero_f
  unfolding foldl
  parts_none [] = refl
  parts_none (i ∷ l) = ap (λ (x : Float). foldl (λ d i. deepest_of empty d (samples_in t q i)) x l) (deepest_none (samples_in t q i)) ∙ parts_none l

  sunk_none : (w : Chosen) → sunk_in t q w empty ≡ zero_f
  unfolding sunk_in
  sunk_none w = parts_none (filter_in (owner_at w) (parts_in t) 0)

-- ---- the material of a side
module _ (t : TableRows) (q : Pose) (c : Chosen) where
  material_few : all_drawn t ≤ 6144 → material_or t q c ≡ material_in t q c
  material_few h = cond_yes _ _ (le-leb (all_drawn t) 6144 h)

  material_none : 6144 < all_drawn t → material_or t q c ≡ empty
  material_none h = cond_no _ _ (lt-leb (all_drawn t) 6144 h)

module _ (t : TableRows) (q : Pose) where
  -- of the side of row b, the samples of the side of row a in it
  abbrev pub sunk_rows : ℕ → ℕ → Float
  sunk_rows a b = sunk_in t q (choice_at t (row_of_sampled a)) (material_in t q (choice_at t (row_of_material b)))

  pub sunk_rows_lem : (a b : ℕ) {d : Float} {w c : Chosen} {i j : ℕ} → d ≡ sunk_in t q w (material_in t q c) → w ≡ choice_at t i → i ≡ row_of_sampled a
      → c ≡ choice_at t j → j ≡ row_of_material b → d ≡ sunk_rows a b
  sunk_rows_lem a b e w i c j =
      e ∙ ap₂ (λ (w c : Chosen). sunk_in t q w (material_in t q c)) (w ∙ ap (choice_at t) i) (c ∙ ap (choice_at t) j)

  module _ (i : ℕ) where
    module _ (few : all_drawn t ≤ 6144) {a b : ℕ} {s : SideFacts} (ea : a ≡ row_a i) (eb : b ≡ row_b i) (es : s ≡ side_at t a) where
      of-side : s.geometry ≡ (side_at t (row_a i)).geometry
      of-side = ap (λ (s : SideFacts). s.geometry) es ∙ ap (λ (k : ℕ). (side_at t k).geometry) ea

      pub pair-features : {d : Float} → s.geometry ≡ 0 → d ≡ max_of (max_of zero_f (sunk_rows a b)) (sunk_rows b a) → d ≡ pair_overlap_in t q i
      unfolding pair_overlap_in
      pair-features g e =
          e ∙ ap₂ (λ (a b : ℕ). max_of (max_of zero_f (sunk_rows a b)) (sunk_rows b a)) ea eb
          ∙ ap₂ (λ (x y : Material). max_of (max_of zero_f (sunk_in t q (choice_at t (row_of_sampled (row_a i))) x)) (sunk_in t q (choice_at t (row_of_sampled (row_b i))) y))
          (sym (material_few t q (choice_at t (row_of_material (row_b i))) few)) (sym (material_few t q (choice_at t (row_of_material (row_a i))) few))
          ∙ sym (cond_yes _ _ (eq-eqb (side_at t (row_a i)).geometry 0 (sym of-side ∙ g)))

      pub pair-center : {d : Float} {f : SideFacts} {place : Placement} {p x : Point} {c : Chosen} {k : ℕ} → (s.geometry ≡ 0 → ⊥)
          → d ≡ depth_of (material_in t q c) x → c ≡ choice_at t k → k ≡ row_of_material a
          → x ≡ world_of place p → p ≡ center_at t b → place ≡ placement_at q f.body → f ≡ side_at t b
          → d ≡ pair_overlap_in t q i
      unfolding pair_overlap_in
      pair-center g e ec ek ex ep el et =
          e ∙ ap₂ (λ (c : Chosen) (x : Point). depth_of (material_in t q c) x)
          (ec ∙ ap (choice_at t) (ek ∙ ap row_of_material ea))
          (ex ∙ ap₂ world_of (el ∙ ap (λ (f : SideFacts). placement_at q f.body) (et ∙ ap (side_at t) eb)) (ep ∙ ap (center_at t) eb))
          ∙ ap (λ (m : Material). depth_of m (world_of (placement_at q (side_at t (row_b i)).body) (center_at t (row_b i)))) (sym (material_few t q (choice_at t (row_of_material (row_a i))) few))
          ∙ sym (cond_no _ _ (ne_eqb (side_at t (row_a i)).geometry 0 (λ h. g (of-side ∙ h))))

    side-none : 6144 < all_drawn t → (w c : Chosen) → sunk_in t q w (material_or t q c) ≡ zero_f
    side-none h w c = ap (sunk_in t q w) (material_none t q c h) ∙ sunk_none t q w

    pub pair-none : 6144 < all_drawn t → zero_f ≡ pair_overlap_in t q i
    unfolding pair_overlap_in
    pair-none h = sym (go (eqb (side_at t (row_a i)).geometry 0))
      where
        go : (b : Bool) → cond b (features_overlap_in t q i) (center_overlap_in t q i) ≡ zero_f
        go true =
            ap₂ (λ (x y : Float). max_of (max_of zero_f x) y) (side-none h (choice_at t (row_of_sampled (row_a i))) (choice_at t (row_of_material (row_b i))))
            (side-none h (choice_at t (row_of_sampled (row_b i))) (choice_at t (row_of_material (row_a i))))
            ∙ ap (λ (x : Float). max_of x zero_f) max_zero ∙ max_zero
        go false =
            ap (λ (m : Material). depth_of m (world_of (placement_at q (side_at t (row_b i)).body) (center_at t (row_b i)))) (material_none t q (choice_at t (row_of_material (row_a i))) h)
            ∙ depth_none (world_of (placement_at q (side_at t (row_b i)).body) (center_at t (row_b i)))
