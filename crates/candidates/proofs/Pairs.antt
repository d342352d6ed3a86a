-- The candidates of a pair over a prepared description: by its sides, and how many there are at most. Assumes nothing.
use Prim.Native.Nat.{ℕ, ◌+◌, ◌*◌, ◌≤◌}
use native.Mathlib.Omega.{arith}
use native.Mathlib.Nat.{add_assoc}
use mathlib.Core.Path.{◌≡◌, sym, ap, ap₂, ◌∙◌}
use mathlib.Core.List.{[]}
use lib.ListN.{length, get_or}
use borrow.Author.Tests.{eq-eqb, ne_eqb}
use Rattle.laws.proofs.Choice.{cond_yes, cond_no}
use Rattle.laws.proofs.Lists.{list_length}
use Rattle.bodies.specs.declared.pose.Pose.{Pose}
use Rattle.sides.specs.Features.{faces_in, discs_in}
use Rattle.sides.specs.declared.SideFeatures.{SideFeatures}
use Rattle.strips.specs.Strips.{TableRows, side_at, face_at, disc_at, center_at, row_a, row_b, row_of_material, side_in, pair_in}
use Rattle.strips.specs.declared.SideFacts.{SideFacts}
use Rattle.strips.proofs.Bounds.{side-small}
use Rattle.strips.proofs.Sides.{faces_listed, discs_listed}
use Rattle.drawing.specs.Prepared.{choice_at, material_or}
use Rattle.drawing.specs.declared.Chosen.{Chosen}
use Rattle.candidates.specs.Candidates.{features_candidates, center_candidates, places_of}
use Rattle.candidates.specs.Prepared.{candidates_from, bound_in, material_of_side}

module _ (t : TableRows) where
  -- ---- how many faces and discs a side has
  faces_many : (k : ℕ) → length (faces_in (side_in t k)) ≡ (side_at t k).faces
  faces_many k = ap length (faces_listed t (side_at t k) (center_at t k) (side-small (get_or t.sides k [])).faces_few) ∙ list_length (face_at t) (side_at t k).faces (side_at t k).face

  discs_many : (k : ℕ) → length (discs_in (side_in t k)) ≡ (side_at t k).discs
  discs_many k = ap length (discs_listed t (side_at t k) (center_at t k) (side-small (get_or t.sides k [])).discs_few) ∙ list_length (disc_at t) (side_at t k).discs (side_at t k).disc

  abbrev count_of : SideFacts → SideFacts → ℕ
  count_of s u = s.discs * u.faces + u.discs * s.faces + s.discs * u.discs

  places_many : (j k : ℕ) → places_of (side_in t j) (side_in t k) ≡ count_of (side_at t j) (side_at t k)
  places_many j k =
      let a = side_at t j in
      let b = side_at t k in
      ap₂ (λ (x y : ℕ). x * length (faces_in (side_in t k)) + (y * length (faces_in (side_in t j)) + x * y)) (discs_many j) (discs_many k)
      ∙ ap₂ (λ (x y : ℕ). a.discs * y + (b.discs * x + a.discs * b.discs)) (faces_many j) (faces_many k) ∙ sym (add_assoc (a.discs * b.faces) (b.discs * a.faces) (a.discs * b.discs))

  module _ (i : ℕ) where
    bound_features : (side_at t (row_a i)).geometry ≡ 0 → bound_in t i ≡ count_of (side_at t (row_a i)) (side_at t (row_b i))
    bound_features g = cond_yes _ _ (eq-eqb (side_at t (row_a i)).geometry 0 g)

    bound_center : ((side_at t (row_a i)).geometry ≡ 0 → ⊥) → bound_in t i ≡ (side_at t (row_a i)).faces
    bound_center n = cond_no _ _ (ne_eqb (side_at t (row_a i)).geometry 0 n)

    -- ---- the row bound of a pair
    module _ {a : SideFacts} (ea : a ≡ side_at t (row_a i)) where
      pub features_bound : {b : SideFacts} → b ≡ side_at t (row_b i) → a.geometry ≡ 0 → a.discs * b.faces + b.discs * a.faces + a.discs * b.discs ≡ bound_in t i
      features_bound eb g = ap₂ (λ (s u : SideFacts). count_of s u) ea eb ∙ sym (bound_features (sym (ap (λ (s : SideFacts). s.geometry) ea) ∙ g))

      pub center_bound : (a.geometry ≡ 0 → ⊥) → a.faces ≡ bound_in t i
      center_bound n = ap (λ (s : SideFacts). s.faces) ea ∙ sym (bound_center (λ h. n (ap (λ (s : SideFacts). s.geometry) ea ∙ h)))

    -- ---- there is room for what is read of the two sides
    pub features_places : {a b : SideFeatures} {n : ℕ} → a ≡ side_in t (row_a i) → b ≡ side_in t (row_b i) → (side_at t (row_a i)).geometry ≡ 0 → bound_in t i ≤ n → places_of a b ≤ n
    features_places ea eb g h =
        let e = ap₂ (λ (x y : SideFeatures). places_of x y) ea eb ∙ places_many (row_a i) (row_b i) ∙ sym (bound_features g) in
        omega (arith, e, h)

    pub center_places : {a : SideFeatures} {n : ℕ} → a ≡ side_in t (row_a i) → ((side_at t (row_a i)).geometry ≡ 0 → ⊥) → bound_in t i ≤ n → length (faces_in a) ≤ n
    center_places ea g h =
        let e = ap (λ (x : SideFeatures). length (faces_in x)) ea ∙ faces_many (row_a i) ∙ sym (bound_center g) in
        omega (arith, e, h)

    -- ---- and it gives the pair's candidates
    module _ {a b : SideFeatures} (ea : a ≡ side_in t (row_a i)) (eb : b ≡ side_in t (row_b i)) (q : Pose) {ca : Chosen} (eca : ca ≡ choice_at t (row_of_material (row_a i))) where
      pub features_from : {cb : Chosen} → cb ≡ choice_at t (row_of_material (row_b i)) → (side_at t (row_a i)).geometry ≡ 0
          → features_candidates (material_or t q ca) (material_or t q cb) (record { a = a; b = b }) q ≡ candidates_from t q i
      unfolding candidates_from pair_in
      features_from {cb} ecb g =
          ap₂ (λ (x y : Chosen). features_candidates (material_or t q x) (material_or t q y) (record { a = a; b = b }) q) eca ecb
          ∙ ap₂ (λ (x y : SideFeatures). features_candidates (material_of_side t q (row_a i)) (material_of_side t q (row_b i)) (record { a = x; b = y }) q) ea eb
          ∙ sym (cond_yes _ _ (eq-eqb (side_at t (row_a i)).geometry 0 g))

      pub center_from : ((side_at t (row_a i)).geometry ≡ 0 → ⊥) → center_candidates (material_or t q ca) (record { a = a; b = b }) q ≡ candidates_from t q i
      unfolding candidates_from pair_in
      center_from g =
          ap (λ (x : Chosen). center_candidates (material_or t q x) (record { a = a; b = b }) q) eca
          ∙ ap₂ (λ (x y : SideFeatures). center_candidates (material_of_side t q (row_a i)) (record { a = x; b = y }) q) ea eb
          ∙ sym (cond_no _ _ (ne_eqb (side_at t (row_a i)).geometry 0 g))
