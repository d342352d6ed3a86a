-- Where no reading is deep, the material makes no difference. Assumes nothing.
use mathlib.Core.Path.{◌≡◌, refl, sym, ap, ap₂}
use mathlib.Core.Bool.{Bool, true, false, false≢true, not, ◌||◌, cond}
use mathlib.Core.List.{List, [], ◌∷◌, ◌++◌}
use Rattle.std.specs.List.{list_any}
use Rattle.laws.specs.Lists.{flat}
use Rattle.laws.proofs.Choice.{neither}
use Rattle.geometry.specs.Signed.{disc_on_face, center_on_face, reversed_of, on_a, on_b}
use Rattle.geometry.specs.declared.Point.{Point}
use Rattle.geometry.specs.declared.signed.Proximity.{Proximity}
use Rattle.mechanism.specs.declared.features.Piece.{Piece}
use Rattle.material.specs.Material.{Material}
use Rattle.sides.specs.declared.PlacedDisc.{PlacedDisc}
use Rattle.sides.specs.declared.PlacedFace.{PlacedFace}
use Rattle.proximities.specs.declared.Candidate.{Candidate}
use Rattle.proximities.specs.Proximities.{reading, kept_if, exchanged, is_deep, real_of, center_real, found_deep, read_ab, read_ba, read_discs, read_center, each}
use Rattle.candidates.specs.declared.PlacedSides.{PlacedSides}
use Rattle.candidates.specs.Candidates.{disc_deep, any_deep, center_deep, candidates_in, placed_candidates}
use Rattle.sides.specs.Features.{faces_in, discs_in}
use Rattle.std.proofs.Common.{Option, Some, None}

-- two readings that agree wherever none passes
flat-same : {A : Type 0} (p : A → Bool) (f g : A → List Candidate) → ((x : A) → p x ≡ false → f x ≡ g x) → (l : List A) → list_any p l ≡ false → flat f l ≡ flat g l
unfolding flat
flat-same p f g h [] e = refl
flat-same {A} p f g h (x ∷ l) e =
    let n = neither (p x) (list_any p l) e in
    ap₂ (λ (a b : List Candidate). a ++ b) (h x n.0) (flat-same p f g h l n.1)

-- a reading that is not deep counts, whatever the material
counts : (gap : Bool) (x y : Bool) → gap ≡ false → (not gap || x) ≡ (not gap || y)
counts true x y e = absurd (false≢true (sym e))
counts false x y e = refl

module _ (p q : Proximity → Bool) (same : (x : Proximity) → is_deep x.gap ≡ false → p x ≡ q x) where
  kept_same : (found : Option Proximity) → found_deep found ≡ false → kept_if p found ≡ kept_if q found
  kept_same None e = refl
  kept_same (Some x) e = ap (λ (b : Bool). cond b (Some x) None) (same x e)

  -- turned round, a reading keeps its gap
  kept-exchanged : (found : Option Proximity) → found_deep found ≡ false → kept_if p (exchanged found) ≡ kept_if q (exchanged found)
  unfolding reversed_of
  kept-exchanged None e = refl
  kept-exchanged (Some x) e = ap (λ (b : Bool). cond b (Some (reversed_of x)) None) (same (reversed_of x) e)

module _ (m m' : Material) where
  ab_same : (d : PlacedDisc) (f : PlacedFace) → found_deep (disc_on_face d.disc f.face) ≡ false → read_ab m d f ≡ read_ab m' d f
  unfolding read_ab
  ab_same d f e =
      ap (reading d.piece f.piece 1)
      (kept_same (λ x. real_of m x.gap (on_a x)) (λ x. real_of m' x.gap (on_a x)) (λ x g. counts (is_deep x.gap) _ _ g) (disc_on_face d.disc f.face) e)

  ba_same : (d : PlacedDisc) (f : PlacedFace) → found_deep (disc_on_face d.disc f.face) ≡ false → read_ba m d f ≡ read_ba m' d f
  unfolding read_ba
  ba_same d f e =
      ap (reading f.piece d.piece 2)
      (kept-exchanged (λ x. real_of m x.gap (on_b x)) (λ x. real_of m' x.gap (on_b x)) (λ x g. counts (is_deep x.gap) _ _ g) (disc_on_face d.disc f.face) e)

  center_same : (piece : Piece) (c : Point) (f : PlacedFace) → found_deep (center_on_face c f.face) ≡ false → read_center m piece c f ≡ read_center m' piece c f
  unfolding read_center
  center_same piece c f e =
      ap (reading f.piece piece 2)
      (kept_same (λ x. center_real m c x.gap) (λ x. center_real m' c x.gap) (λ x g. counts (is_deep x.gap) _ _ g) (center_on_face c f.face) e)

  pub each-ab_same : (discs : List PlacedDisc) (faces : List PlacedFace) → any_deep discs faces ≡ false → each (read_ab m) discs faces ≡ each (read_ab m') discs faces
  each-ab_same discs faces =
      flat-same (λ d. disc_deep faces d.disc) (λ d. flat (read_ab m d) faces) (λ d. flat (read_ab m' d) faces)
      (λ d. flat-same (λ f. found_deep (disc_on_face d.disc f.face)) (read_ab m d) (read_ab m' d) (ab_same d) faces) discs

  pub each-ba_same : (discs : List PlacedDisc) (faces : List PlacedFace) → any_deep discs faces ≡ false → each (read_ba m) discs faces ≡ each (read_ba m') discs faces
  each-ba_same discs faces =
      flat-same (λ d. disc_deep faces d.disc) (λ d. flat (read_ba m d) faces) (λ d. flat (read_ba m' d) faces)
      (λ d. flat-same (λ f. found_deep (disc_on_face d.disc f.face)) (read_ba m d) (read_ba m' d) (ba_same d) faces) discs

  pub flat-center_same : (piece : Piece) (c : Point) (faces : List PlacedFace) → center_deep faces c ≡ false → flat (read_center m piece c) faces ≡ flat (read_center m' piece c) faces
  flat-center_same piece c faces = flat-same (λ f. found_deep (center_on_face c f.face)) (read_center m piece c) (read_center m' piece c) (center_same piece c) faces

-- the candidates of two sides in the world, where nothing is deep either way
pub candidates_same : (ma ma' mb mb' : Material) (fa : List PlacedFace) (da : List PlacedDisc) (fb : List PlacedFace) (db : List PlacedDisc) → any_deep da fb ≡ false → any_deep db fa ≡ false
    → candidates_in ma mb fa da fb db ≡ candidates_in ma' mb' fa da fb db
candidates_same ma ma' mb mb' fa da fb db p q =
    ap₂ (λ (x y : List Candidate). x ++ (y ++ each read_discs da db)) (each-ab_same mb mb' da fb p) (each-ba_same ma ma' db fa q)

pub placed_same : (ma ma' mb mb' : Material) (s : PlacedSides) → any_deep (discs_in s.a.now) (faces_in s.b.now) ≡ false → any_deep (discs_in s.b.now) (faces_in s.a.now) ≡ false
    → placed_candidates ma mb s ≡ placed_candidates ma' mb' s
placed_same ma ma' mb mb' s p q =
    let a = s.a.now in
    let b = s.b.now in
    candidates_same ma ma' mb mb' (faces_in a) (discs_in a) (faces_in b) (discs_in b) p q
