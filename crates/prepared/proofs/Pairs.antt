-- What is read of a pair over the tables of an accepted description is what the description gives. Assumes nothing.
use Prim.Native.Nat.{ℕ, ◌+◌, ◌*◌, ◌<◌}
use mathlib.Core.Path.{◌≡◌, refl, ap, ap₂, ◌∙◌}
use mathlib.Core.Bool.{cond}
use lib.Dec.{eqb}
use lib.Ieee.{Float}
use Rattle.ieee.specs.Consts.{zero_f}
use Rattle.ieee.specs.Num.{max_of}
use Rattle.geometry.specs.declared.Point.{Point}
use Rattle.mechanism.specs.Check.{check_of, FewParts}
use Rattle.mechanism.specs.Description.{pair_at}
use Rattle.bodies.specs.Pose.{placement_at, world_of}
use Rattle.mechanism.specs.declared.Mechanism.{Mechanism}
use Rattle.mechanism.specs.declared.Outlines.{Outlines}
use Rattle.mechanism.specs.declared.Parts.{Parts}
use Rattle.mechanism.specs.declared.pair.ContactPair.{ContactPair}
use Rattle.mechanism.specs.declared.pair.PairGeometry.{PairGeometry}
use Rattle.mechanism.specs.declared.pair.PairGeometry.TheVariants.{Features, CenterBearing}
use Rattle.mechanism.specs.declared.pair.Surface.{Surface}
use Rattle.bodies.specs.declared.pose.Pose.{Pose}
use Rattle.mechanism.specs.declared.rows.Row.{Row}
use Rattle.mechanism.proofs.Checks.{accepted-few}
use Rattle.sides.specs.Bounds.{row_bound}
use Rattle.sides.specs.Contacts.{center_of_b, pair_features, pair_bound}
use Rattle.sides.specs.Features.{center_at, side_of}
use Rattle.sides.specs.declared.SideFeatures.{SideFeatures}
use Rattle.sides.specs.declared.contacts.PairFeatures.{PairFeatures}
use Rattle.strips.specs.Strips as Strips
use Rattle.strips.specs.Strips.{TableRows, side_at, pair_in, row_a, row_b, row_of_material, row_of_sampled}
use Rattle.strips.specs.declared.SideFacts.{SideFacts}
use Rattle.material.specs.Material.{Material, depth_of}
use Rattle.drawing.specs.Drawing.{body_of_side, side_material}
use Rattle.drawing.specs.Prepared.{choice_at, material_or}
use Rattle.drawing.specs.declared.Chosen.{Chosen}
use Rattle.candidates.specs.Candidates.{features_candidates, center_candidates, candidates_by, pair_candidates}
use Rattle.candidates.specs.Prepared.{candidates_from, bound_in}
use Rattle.faces.specs.Faces.{sides_overlap}
use Rattle.faces.specs.Prepared.{face_overlap_in}
use Rattle.faces.proofs.Rows.{overlap_read}
use Rattle.bearings.specs.Bearing.{governed_bearing}
use Rattle.overlap.specs.Overlap.{owner_in, sunk_of, overlap_by, pair_overlap}
use Rattle.overlap.specs.Prepared.{sunk_in, pair_overlap_in}
use Rattle.tables.specs.Tables.{geometry_of, less_cuts}
use Rattle.tables.proofs.Features.{features_of, cuts_of, side-a, side-b, geometry_a, center_b, pair-in, material_a, material_b, sampled_a, sampled_b}
use Rattle.drawing.proofs.ReadBack.{side-read}
use Rattle.prepared.specs.Prepared.{Holds}
use Rattle.prepared.proofs.Sunk.{sunk_read}
use Rattle.std.proofs.Common.{Option, Ok}

-- ---- by the geometry of a pair, which its side's row gives as a number
module _ (ps : Parts) (o : Outlines) (q : Pose) where
  candidates_by_lem : (g : PairGeometry) (p : ContactPair) (f : PairFeatures)
      → cond (eqb (geometry_of g) 0) (features_candidates (side_material ps o q p.a (less_cuts g)) (side_material ps o q p.b (less_cuts g)) f q)
      (center_candidates (side_material ps o q p.a (less_cuts g)) f q)
      ≡ candidates_by g ps o q p f
  candidates_by_lem Features p f = refl
  candidates_by_lem CenterBearing p f = refl

  overlap_by_lem : (g : PairGeometry) (a b : Surface)
      → cond (eqb (geometry_of g) 0) (max_of (max_of zero_f (sunk_of ps o q (owner_in ps a) (side_material ps o q b (less_cuts g))))
      (sunk_of ps o q (owner_in ps b) (side_material ps o q a (less_cuts g))))
      (depth_of (side_material ps o q a (less_cuts g)) (world_of (placement_at q (body_of_side ps b)) (center_at ps o b (center_of_b g))))
      ≡ overlap_by g ps o q a b
  overlap_by_lem Features a b = refl
  overlap_by_lem CenterBearing a b = refl

bound_by : (g : PairGeometry) (a b : SideFeatures) → cond (eqb (geometry_of g) 0) (a.discs * b.faces + b.discs * a.faces + a.discs * b.discs) a.faces ≡ row_bound g a b
bound_by Features a b = refl
bound_by CenterBearing a b = refl

-- where side B of a pair has its centre
module _ (ps : Parts) (o : Outlines) (p : ContactPair) where
  b-body : (pair_features ps o p).b.body ≡ body_of_side ps p.b
  unfolding pair_features side_of
  b-body = refl

  b-center : (pair_features ps o p).b.center.point ≡ center_at ps o p.b (center_of_b p.geometry)
  unfolding pair_features side_of
  b-center = refl

-- ---- pair i of an accepted description
module _ (m : Mechanism) (e : check_of m ≡ Ok tt) {t : TableRows} (held : Holds m t) (i : ℕ) (h : i < m.pairs.count) where
  abbrev pair : ContactPair
  pair = pair_at m.pairs i

  few : FewParts m.parts
  few = (accepted-few m e).parts

  pub body_a_lem : (side_at t (row_a i)).body ≡ (features_of m i).a.body
  body_a_lem = ap (λ (s : SideFacts). s.body) (side-a m e i h t held.sides)

  pub body_b : (side_at t (row_b i)).body ≡ (features_of m i).b.body
  body_b = ap (λ (s : SideFacts). s.body) (side-b m e i h t held.sides)

  pub features_read : pair_in t i ≡ features_of m i
  features_read = pair-in m e i h t held.faces held.fnames held.discs held.dnames held.sides held.centers

  pub bound-read : bound_in t i ≡ pair_bound m i
  bound-read =
      ap₂ (λ (a b : SideFacts). cond (eqb a.geometry 0) (a.discs * b.faces + b.discs * a.faces + a.discs * b.discs) a.faces) (side-a m e i h t held.sides) (side-b m e i h t held.sides)
      ∙ bound_by pair.geometry (features_of m i).a (features_of m i).b

  pub face-overlap_read : (q : Pose) → face_overlap_in t q i ≡ sides_overlap (features_of m i) q
  face-overlap_read q = overlap_read t q i ∙ ap (λ (f : PairFeatures). sides_overlap f q) features_read

  pub bearing-read : (q : Pose) (row : ℕ → Row) (g : Option ℕ) → governed_bearing (pair_in t i) q row g ≡ governed_bearing (features_of m i) q row g
  bearing-read q row g = ap (λ (f : PairFeatures). governed_bearing f q row g) features_read

  module _ (q : Pose) where
    material_of-a : material_or t q (choice_at t (row_of_material (row_a i))) ≡ side_material m.parts m.outlines q pair.a (cuts_of m i)
    material_of-a = ap (material_or t q) (material_a m e i h t held.choices) ∙ side-read m.parts m.outlines few t held.parts q held.drawn pair.a (cuts_of m i)

    material_of-b : material_or t q (choice_at t (row_of_material (row_b i))) ≡ side_material m.parts m.outlines q pair.b (cuts_of m i)
    material_of-b = ap (material_or t q) (material_b m e i h t held.choices) ∙ side-read m.parts m.outlines few t held.parts q held.drawn pair.b (cuts_of m i)

    pub candidates_read : candidates_from t q i ≡ pair_candidates m.parts m.outlines q pair
    unfolding candidates_from pair_candidates
    candidates_read =
        let ma = material_or t q (choice_at t (row_of_material (row_a i))) in
        let mb = material_or t q (choice_at t (row_of_material (row_b i))) in
        ap₂ (λ (n : ℕ) (f : PairFeatures). cond (eqb n 0) (features_candidates ma mb f q) (center_candidates ma f q)) (geometry_a m e i h t held.sides) features_read
        ∙ ap₂ (λ (x y : Material). cond (eqb (geometry_of pair.geometry) 0) (features_candidates x y (features_of m i) q) (center_candidates x (features_of m i) q)) material_of-a material_of-b
        ∙ candidates_by_lem m.parts m.outlines q pair.geometry pair (features_of m i)

    sunk_a : sunk_in t q (choice_at t (row_of_sampled (row_a i))) (material_or t q (choice_at t (row_of_material (row_b i))))
        ≡ sunk_of m.parts m.outlines q (owner_in m.parts pair.a) (side_material m.parts m.outlines q pair.b (cuts_of m i))
    sunk_a =
        ap₂ (λ (w : Chosen) (x : Material). sunk_in t q w x) (sampled_a m e i h t held.choices) material_of-b
        ∙ sunk_read m.parts m.outlines few t held.parts q held.sampled pair.a (side_material m.parts m.outlines q pair.b (cuts_of m i))

    sunk_b : sunk_in t q (choice_at t (row_of_sampled (row_b i))) (material_or t q (choice_at t (row_of_material (row_a i))))
        ≡ sunk_of m.parts m.outlines q (owner_in m.parts pair.b) (side_material m.parts m.outlines q pair.a (cuts_of m i))
    sunk_b =
        ap₂ (λ (w : Chosen) (x : Material). sunk_in t q w x) (sampled_b m e i h t held.choices) material_of-a
        ∙ sunk_read m.parts m.outlines few t held.parts q held.sampled pair.b (side_material m.parts m.outlines q pair.a (cuts_of m i))

    center_at_lem : world_of (placement_at q (side_at t (row_b i)).body) (Strips.center_at t (row_b i))
        ≡ world_of (placement_at q (body_of_side m.parts pair.b)) (center_at m.parts m.outlines pair.b (center_of_b pair.geometry))
    center_at_lem =
        ap₂ (λ (b : ℕ) (c : Point). world_of (placement_at q b) c) (body_b ∙ b-body m.parts m.outlines pair)
        (center_b m e i h t held.centers ∙ b-center m.parts m.outlines pair)

    pub pair-overlap_read : pair_overlap_in t q i ≡ pair_overlap m.parts m.outlines q pair
    unfolding pair_overlap_in pair_overlap
    pair-overlap_read =
        let g = pair.geometry in
        let x = max_of (max_of zero_f (sunk_in t q (choice_at t (row_of_sampled (row_a i))) (material_or t q (choice_at t (row_of_material (row_b i))))))
        (sunk_in t q (choice_at t (row_of_sampled (row_b i))) (material_or t q (choice_at t (row_of_material (row_a i))))) in
        let y = depth_of (material_or t q (choice_at t (row_of_material (row_a i)))) (world_of (placement_at q (side_at t (row_b i)).body) (Strips.center_at t (row_b i))) in
        ap (λ (n : ℕ). cond (eqb n 0) x y) (geometry_a m e i h t held.sides)
        ∙ ap₂ (λ (v w : Float). cond (eqb (geometry_of g) 0) v w) (ap₂ (λ (v w : Float). max_of (max_of zero_f v) w) sunk_a sunk_b) (ap₂ depth_of material_of-a center_at_lem)
        ∙ overlap_by_lem m.parts m.outlines q g pair.a pair.b
