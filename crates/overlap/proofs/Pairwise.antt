-- How deep the two sides of a pair stand in one another, and the parts of two lists, from what the callees say. Assumes nothing.
use Prim.Native.Nat.{ℕ}
use mathlib.Core.Path.{◌≡◌, sym, ap, ap₂, ◌∙◌}
use mathlib.Core.Bool.{Bool, true, false, ◌&&◌}
use mathlib.Core.List.{List}
use lib.Ieee.{Float}
use Rattle.laws.specs.Lists.{foldl}
use Rattle.laws.proofs.Choice.{cond_yes}
use Rattle.ieee.specs.Consts.{zero_f}
use Rattle.ieee.specs.Num.{max_of}
use Rattle.geometry.specs.declared.Point.{Point}
use Rattle.mechanism.specs.Check.{FewParts, side_drawn}
use Rattle.mechanism.specs.Description.{part_at}
use Rattle.bodies.specs.Pose.{placement_at, world_of}
use Rattle.mechanism.specs.declared.Outlines.{Outlines}
use Rattle.mechanism.specs.declared.Parts.{Parts}
use Rattle.mechanism.specs.declared.pair.ContactPair.{ContactPair}
use Rattle.mechanism.specs.declared.pair.PairGeometry.{PairGeometry}
use Rattle.mechanism.specs.declared.pair.PairGeometry.TheVariants.{Features, CenterBearing}
use Rattle.mechanism.specs.declared.pair.Surface.{Surface}
use Rattle.bodies.specs.declared.pose.MaterialPoint.{MaterialPoint}
use Rattle.bodies.specs.declared.pose.Placement.{Placement}
use Rattle.bodies.specs.declared.pose.Pose.{Pose}
use Rattle.material.specs.Material.{depth_of, deepest_of}
use Rattle.drawing.specs.Drawing.{is_sampled, body_of_side, side_material, chosen_material, side_chosen}
use Rattle.drawing.specs.Samples.{mouths_of, part_samples}
use Rattle.drawing.specs.declared.Chosen.{Chosen}
use Rattle.drawing.proofs.Laid.{side-chosen}
use Rattle.sides.specs.Features.{center_at, center_of_side}
use Rattle.overlap.specs.Overlap.{sunk_of, features_overlap, center_overlap, overlap_by, pair_overlap, owners_of, is_in, list_material, parts_overlap, all_parts, owner_at, as_owners}
use Rattle.overlap.proofs.Flags.{owners-as}
use Rattle.overlap.proofs.Listed.{chosen_of, sunk_owners, sunk_listed}

-- ---- the owners of one side in the other side's material
pub sunk_side : (ps : Parts) (o : Outlines) (q : Pose) → FewParts ps → (p : ℕ → Bool) (u : Surface) {d : Float} {w c : Chosen}
    → d ≡ sunk_of ps o q (owner_at w) (chosen_material ps o q c) → w ≡ as_owners p → c ≡ side_chosen ps u true → d ≡ sunk_of ps o q p (side_material ps o q u true)
sunk_side ps o q few p u h e f =
    h ∙ ap₂ (λ (w c : Chosen). sunk_of ps o q (owner_at w) (chosen_material ps o q c)) e f
    ∙ ap (foldl (λ d i. deepest_of (chosen_material ps o q (side_chosen ps u true)) d (part_samples ps o q (mouths_of ps o) i)) zero_f) (owners-as p ps.count few.count)
    ∙ ap (sunk_of ps o q p) (side-chosen ps o q u true few.count)

-- ---- side B's centre in side A's parts
pub center_depth : (ps : Parts) (o : Outlines) (q : Pose) → FewParts ps → (a b : Surface) → side_drawn ps b ≡ true
    → {d : Float} {c : Chosen} {x : Point} {place : Placement} {z : MaterialPoint}
    → d ≡ depth_of (chosen_material ps o q c) x → c ≡ side_chosen ps a false → x ≡ world_of place z.at → place ≡ placement_at q z.body → z ≡ center_of_side ps o b true
    → d ≡ center_overlap ps o q a b
unfolding center_of_side
center_depth ps o q few a b drawn {place = place} {z} h e f g k =
    let at : z ≡ record { body = body_of_side ps b; at = center_at ps o b true } = k ∙ cond_yes _ _ drawn in
    h ∙ ap₂ (λ (c : Chosen) (x : Point). depth_of (chosen_material ps o q c) x) e
    (f ∙ ap (λ (l : Placement). world_of l z.at) g ∙ ap (λ (y : MaterialPoint). world_of (placement_at q y.body) y.at) at)
    ∙ ap (λ m. depth_of m (world_of (placement_at q (body_of_side ps b)) (center_at ps o b true))) (side-chosen ps o q a false few.count)

-- ---- by the pair's geometry
module _ (ps : Parts) (o : Outlines) (q : Pose) (p : ContactPair) {d : Float} where
  pub by_features_lem : p.geometry ≡ Features → d ≡ features_overlap ps o q p.a p.b → d ≡ pair_overlap ps o q p
  unfolding pair_overlap
  by_features_lem e h = h ∙ sym (ap (λ (g : PairGeometry). overlap_by g ps o q p.a p.b) e)

  pub by_center_lem : p.geometry ≡ CenterBearing → d ≡ center_overlap ps o q p.a p.b → d ≡ pair_overlap ps o q p
  unfolding pair_overlap
  by_center_lem e h = h ∙ sym (ap (λ (g : PairGeometry). overlap_by g ps o q p.a p.b) e)

-- ---- the parts of one list in those of another
pub sunk_parts : (ps : Parts) (o : Outlines) (q : Pose) → FewParts ps → (a b : List ℕ) → all_parts ps a ≡ true → all_parts ps b ≡ true → {d : Float} {v w c : Chosen}
    → d ≡ sunk_of ps o q (owner_at v) (chosen_material ps o q c) → v ≡ as_owners (λ i. is_in a i && is_sampled (part_at ps i)) → c ≡ chosen_of ps w
    → w ≡ as_owners (λ i. is_in b i && is_sampled (part_at ps i))
    → d ≡ sunk_of ps o q (is_in (owners_of ps a)) (list_material ps o q (owners_of ps b))
sunk_parts ps o q few a b x y h e f g =
    h ∙ ap₂ (λ (v c : Chosen). sunk_of ps o q (owner_at v) (chosen_material ps o q c)) e (f ∙ ap (chosen_of ps) g)
    ∙ sunk_owners ps few a x o q (chosen_material ps o q (chosen_of ps (as_owners (λ i. is_in b i && is_sampled (part_at ps i)))))
    ∙ sunk_listed ps few b y o q (is_in (owners_of ps a))

pub parts-both : (ps : Parts) (o : Outlines) (q : Pose) (a b : List ℕ) {d x y : Float} → d ≡ max_of x y
    → x ≡ sunk_of ps o q (is_in (owners_of ps a)) (list_material ps o q (owners_of ps b)) → y ≡ sunk_of ps o q (is_in (owners_of ps b)) (list_material ps o q (owners_of ps a))
    → d ≡ parts_overlap ps o q a b
unfolding parts_overlap
parts-both ps o q a b h e f = h ∙ ap₂ max_of e f
