-- How few candidates a pair has that is drawn, and what the code reads of it. Assumes nothing.
use Prim.Native.Nat.{ℕ, ◌+◌, ◌*◌, ◌≤◌}
use native.Mathlib.Omega.{arith}
use native.Mathlib.Nat.{add_assoc}
use mathlib.Core.Path.{◌≡◌, sym, ap, ap₂, subst, ◌∙◌}
use mathlib.Core.Bool.{true, false}
use lib.Dec.{leb}
use lib.ListN.{length, length-take}
use borrow.Author.Tests.{leb-true}
use Rattle.laws.proofs.Choice.{both, cond_yes}
use Rattle.mechanism.specs.Check.{FewParts, pair_drawn}
use Rattle.mechanism.specs.declared.Outlines.{Outlines}
use Rattle.mechanism.specs.declared.Parts.{Parts}
use Rattle.mechanism.specs.declared.pair.ContactPair.{ContactPair}
use Rattle.mechanism.specs.declared.pair.PairGeometry.{PairGeometry}
use Rattle.mechanism.specs.declared.pair.PairGeometry.TheVariants.{Features, CenterBearing}
use Rattle.bodies.specs.declared.pose.Pose.{Pose}
use Rattle.material.specs.Material.{Material}
use Rattle.drawing.specs.Drawing.{side_material, side_chosen, chosen_material}
use Rattle.drawing.specs.declared.Chosen.{Chosen}
use Rattle.drawing.proofs.Laid.{side-chosen}
use Rattle.sides.specs.Contacts.{pair_features, pair_features_at}
use Rattle.sides.specs.Features.{faces_in, discs_in}
use Rattle.sides.specs.Sizes.{FewOnSide}
use Rattle.sides.specs.declared.SideFeatures.{SideFeatures}
use Rattle.sides.specs.declared.contacts.PairFeatures.{PairFeatures}
use Rattle.sides.proofs.Accepted.{are_drawn}
use Rattle.sides.proofs.Few.{pair-few, rows_few}
use Rattle.candidates.specs.Candidates.{features_candidates, center_candidates, candidates_by, pair_candidates, places_of, candidate_room}

-- ---- how few candidates two sides have
places-few : {a b : SideFeatures} → FewOnSide a → FewOnSide b → places_of a b ≤ 784
places-few {a} {b} x y =
    let p = length-take a.faces a.face in
    let q = length-take a.discs a.disc in
    let r = length-take b.faces b.face in
    let s = length-take b.discs b.disc in
    let e = x.features in
    let f = y.features in
    let h : length (faces_in a) + length (discs_in a) ≤ 28 = omega (arith, p, q, e) in
    let k : length (faces_in b) + length (discs_in b) ≤ 28 = omega (arith, r, s, f) in
    let n = rows_few (length (faces_in a)) (length (discs_in a)) (length (faces_in b)) (length (discs_in b)) h k in
    let m = add_assoc (length (discs_in a) * length (faces_in b)) (length (discs_in b) * length (faces_in a)) (length (discs_in a) * length (discs_in b)) in
    omega (arith, n, m)

faces-few : {a : SideFeatures} → FewOnSide a → length (faces_in a) ≤ 784
faces-few {a} x = let p = length-take a.faces a.face in let h = x.faces in omega (arith, p, h)

-- ---- what the code reads of a pair that is drawn
module _ (ps : Parts) (o : Outlines) (p : ContactPair) {f : PairFeatures} (d : pair_drawn ps p ≡ true) (e : f ≡ pair_features_at ps o p) where
  features_are : f ≡ pair_features ps o p
  unfolding pair_features_at
  features_are = e ∙ cond_yes _ _ d

  pub parts_few : FewParts ps
  parts_few = (are_drawn ps p d).0

  sides-few : FewOnSide f.a × FewOnSide f.b
  sides-few =
      let w = are_drawn ps p d in
      let h = pair-few ps o p w.1 w.2 in
      subst (λ (g : PairFeatures). FewOnSide g.a × FewOnSide g.b) (sym features_are) (h.a, h.b)

  pub pair_places : {n : ℕ} → 784 ≤ n → places_of f.a f.b ≤ n
  pair_places h = let x = places-few sides-few.0 sides-few.1 in omega (arith, x, h)

  pub face_places : {n : ℕ} → 784 ≤ n → length (faces_in f.a) ≤ n
  face_places h = let x = faces-few sides-few.0 in omega (arith, x, h)

  module _ (q : Pose) {ca : Chosen} where
    pub features_read : {cb : Chosen} → p.geometry ≡ Features → ca ≡ side_chosen ps p.a true → cb ≡ side_chosen ps p.b true
        → features_candidates (chosen_material ps o q ca) (chosen_material ps o q cb) f q ≡ pair_candidates ps o q p
    unfolding pair_candidates
    features_read {cb} g ea eb =
        let few = parts_few.count in
        let ma = ap (chosen_material ps o q) ea ∙ side-chosen ps o q p.a true few in
        let mb = ap (chosen_material ps o q) eb ∙ side-chosen ps o q p.b true few in
        ap₂ (λ (x y : Material). features_candidates x y f q) ma mb
        ∙ ap (λ (h : PairFeatures). features_candidates (side_material ps o q p.a true) (side_material ps o q p.b true) h q) features_are
        ∙ ap (λ (h : PairGeometry). candidates_by h ps o q p (pair_features ps o p)) (sym g)

    pub center_read : p.geometry ≡ CenterBearing → ca ≡ side_chosen ps p.a false → center_candidates (chosen_material ps o q ca) f q ≡ pair_candidates ps o q p
    unfolding pair_candidates
    center_read g ea =
        ap (λ (x : Material). center_candidates x f q) (ap (chosen_material ps o q) ea ∙ side-chosen ps o q p.a false parts_few.count)
        ∙ ap (λ (h : PairFeatures). center_candidates (side_material ps o q p.a false) h q) features_are
        ∙ ap (λ (h : PairGeometry). candidates_by h ps o q p (pair_features ps o p)) (sym g)

-- the array of a caller has room
pub has_room : (ps : Parts) (p : ContactPair) (n : ℕ) → candidate_room ps p n ≡ true → (pair_drawn ps p ≡ true) × (784 ≤ n)
has_room ps p n e = let a = both (pair_drawn ps p) (leb 784 n) e in (a.0, leb-true 784 n a.1)
