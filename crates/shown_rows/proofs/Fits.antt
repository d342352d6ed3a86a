-- What an accepted description is known to be where its rows are written: its sides stand on bodies that there are, and a pair has no more candidates than its bound. Assumes nothing.
use Prim.Native.Nat.{ℕ, ◌+◌, ◌*◌, ◌<◌, ◌≤◌}
use native.Mathlib.Omega.{arith}
use native.Mathlib.Nat.{mul-le-mul}
use mathlib.Core.Path.{◌≡◌, refl, ap}
use mathlib.Core.Bool.{Bool, true, false, false≢true}
use mathlib.Core.List.{List, ◌++◌, map}
use lib.Dec.{ltb}
use lib.ListN.{length, take, length-map, length-take, length-append}
use borrow.Author.Tests.{ltb-true, ltb-false}
use Rattle.laws.specs.Lists.{flat}
use Rattle.laws.proofs.Choice.{both}
use Rattle.laws.proofs.Finite.{first-none}
use Rattle.laws.proofs.Lists.{flat-short}
use Rattle.bodies.specs.Check.{Checked, and_then, refused_if, bodies_checked}
use Rattle.mechanism.specs.Check.{limit_passed, direction_missing, part_checked, parts_checked, check_of, part_draws}
use Rattle.mechanism.specs.Description.{pair_at, part_at, range_at, start_of_part}
use Rattle.mechanism.specs.declared.Mechanism.{Mechanism}
use Rattle.mechanism.specs.declared.Outlines.{Outlines}
use Rattle.mechanism.specs.declared.Parts.{Parts}
use Rattle.bodies.specs.declared.Problem.{Problem}
use Rattle.bodies.specs.declared.Problem.TheVariants.{LimitPassed, NoDirection, PartOnNoSuchBody}
use Rattle.mechanism.specs.declared.pair.ContactPair.{ContactPair}
use Rattle.mechanism.specs.declared.pair.PairGeometry.{PairGeometry}
use Rattle.mechanism.specs.declared.pair.PairGeometry.TheVariants.{Features, CenterBearing}
use Rattle.mechanism.specs.declared.pair.Surface.{Surface}
use Rattle.bodies.specs.declared.pose.Pose.{Pose}
use Rattle.mechanism.proofs.Drawn.{RangesDrawn, accepted-ranges_a, accepted-ranges_b}
use Rattle.drawing.specs.Drawing.{body_of_side, side_material}
use Rattle.sides.specs.Bounds.{row_bound}
use Rattle.sides.specs.Contacts.{pair_features}
use Rattle.sides.specs.Features.{side_of}
use Rattle.sides.specs.declared.contacts.PairFeatures.{PairFeatures}
use Rattle.material.specs.Material.{Material}
use Rattle.proximities.specs.Proximities.{read_ab, read_ba, read_discs, read_center, each}
use Rattle.proximities.specs.declared.Candidate.{Candidate}
use Rattle.proximities.proofs.Wrote.{ab_short, ba_short, discs_short, center_short}
use Rattle.candidates.specs.Candidates.{faces_at, discs_at, center_in, candidates_by, pair_candidates, features_candidates, center_candidates}
use Rattle.std.proofs.Common.{Ok, Err, is_ok}

-- ---- check 6: the body of each part
passed : (c next : Checked) → and_then c next ≡ Ok tt → (c ≡ Ok tt) × (next ≡ Ok tt)
passed (Ok tt) next e = (refl, e)
passed (Err p) next e = absurd (false≢true (ap is_ok e))

parts-pass : (m : Mechanism) → check_of m ≡ Ok tt → is_ok (parts_checked m.bodies.count m.parts m.outlines) ≡ true
unfolding check_of
parts-pass m e =
    let a = passed (refused_if (limit_passed m) LimitPassed) _ e in
    let b = passed (bodies_checked m.bodies) _ a.1 in
    let c = passed (refused_if (direction_missing m) NoDirection) _ b.1 in
    let d = passed (parts_checked m.bodies.count m.parts m.outlines) _ c.1 in
    ap is_ok d.0

not_above : (b : Bool) (p : Problem) (next : Checked) → is_ok (and_then (refused_if b p) next) ≡ true → b ≡ false
not_above true p next e = absurd (false≢true e)
not_above false p next e = refl

part_body : (m : Mechanism) → check_of m ≡ Ok tt → (k : ℕ) → k < m.parts.count → (part_at m.parts k).body ≤ m.bodies.count
unfolding parts_checked
part_body m e k h =
    ltb-false m.bodies.count (part_at m.parts k).body
    (not_above (ltb m.bodies.count (part_at m.parts k).body) (PartOnNoSuchBody k) _
    (first-none is_ok (Ok tt) (λ i. part_checked m.bodies.count m.outlines (part_at m.parts i) (start_of_part m.parts i) i) m.parts.count 0 (parts-pass m e) k (omega arith) (omega arith)))

side-body : (m : Mechanism) → check_of m ≡ Ok tt → (u : Surface) → RangesDrawn m.parts u → body_of_side m.parts u ≤ m.bodies.count
side-body m e u r =
    let d = both (ltb (range_at u 0).part m.parts.count) (part_draws (part_at m.parts (range_at u 0).part) (range_at u 0)) (r.each 0 r.some) in
    part_body m e (range_at u 0).part (ltb-true (range_at u 0).part m.parts.count d.0)

module _ (m : Mechanism) (e : check_of m ≡ Ok tt) (i : ℕ) (h : i < m.pairs.count) where
  pub body_a_lem : body_of_side m.parts (pair_at m.pairs i).a ≤ m.bodies.count
  body_a_lem = side-body m e (pair_at m.pairs i).a (accepted-ranges_a m e i h)

  pub body_b : body_of_side m.parts (pair_at m.pairs i).b ≤ m.bodies.count
  body_b = side-body m e (pair_at m.pairs i).b (accepted-ranges_b m e i h)

-- the bodies of a pair's features
pub feature_a : (ps : Parts) (o : Outlines) (p : ContactPair) → body_of_side ps p.a ≡ (pair_features ps o p).a.body
unfolding pair_features side_of
feature_a ps o p = refl

pub feature_b : (ps : Parts) (o : Outlines) (p : ContactPair) → body_of_side ps p.b ≡ (pair_features ps o p).b.body
unfolding pair_features side_of
feature_b ps o p = refl

-- ---- how many candidates a pair has
each-short : {A B : Type 0} (f : A → B → List Candidate) → ((x : A) (y : B) → length (f x y) ≤ 1) → (l : List A) (r : List B) (n k : ℕ)
    → length l ≤ n → length r ≤ k → length (each f l r) ≤ n * k
each-short f h l r n k a b =
    let s = flat-short (λ x. flat (f x) r) (length r) (λ x. let t = flat-short (f x) 1 (h x) r in omega (arith, t)) l in
    let t : length l * length r ≤ n * k = mul-le-mul a b in
    omega (arith, s, t)

few-of : {A B : Type 0} (g : A → B) (n : ℕ) (l : List A) → length (map g (take n l)) ≤ n
few-of g n l = let e = length-map (take n l) g in let t = length-take n l in omega (arith, e, t)

pub features_few : (ma mb : Material) (f : PairFeatures) (q : Pose) → length (features_candidates ma mb f q) ≤ f.a.discs * f.b.faces + f.b.discs * f.a.faces + f.a.discs * f.b.discs
features_few ma mb f q =
    let x = each-short (read_ab mb) (ab_short _) (discs_at f.a q) (faces_at f.b q) f.a.discs f.b.faces (few-of _ f.a.discs f.a.disc) (few-of _ f.b.faces f.b.face) in
    let y = each-short (read_ba ma) (ba_short _) (discs_at f.b q) (faces_at f.a q) f.b.discs f.a.faces (few-of _ f.b.discs f.b.disc) (few-of _ f.a.faces f.a.face) in
    let z = each-short read_discs discs_short (discs_at f.a q) (discs_at f.b q) f.a.discs f.b.discs (few-of _ f.a.discs f.a.disc) (few-of _ f.b.discs f.b.disc) in
    let s = length-append (each (read_ab mb) (discs_at f.a q) (faces_at f.b q)) (each (read_ba ma) (discs_at f.b q) (faces_at f.a q) ++ each read_discs (discs_at f.a q) (discs_at f.b q)) in
    let t = length-append (each (read_ba ma) (discs_at f.b q) (faces_at f.a q)) (each read_discs (discs_at f.a q) (discs_at f.b q)) in
    omega (arith, x, y, z, s, t)

pub center_few : (ma : Material) (f : PairFeatures) (q : Pose) → length (center_candidates ma f q) ≤ f.a.faces
center_few ma f q =
    let s = flat-short (read_center ma f.b.center.piece (center_in f.b q)) 1 (center_short _ _ _) (faces_at f.a q) in
    let t : length (faces_at f.a q) ≤ f.a.faces = few-of _ f.a.faces f.a.face in
    omega (arith, s, t)

by_few : (g : PairGeometry) (ps : Parts) (o : Outlines) (q : Pose) (p : ContactPair) (f : PairFeatures) → length (candidates_by g ps o q p f) ≤ row_bound g f.a f.b
by_few Features ps o q p f = features_few (side_material ps o q p.a true) (side_material ps o q p.b true) f q
by_few CenterBearing ps o q p f = center_few (side_material ps o q p.a false) f q

pub candidates_few : (ps : Parts) (o : Outlines) (q : Pose) (p : ContactPair) → length (pair_candidates ps o q p) ≤ row_bound p.geometry (pair_features ps o p).a (pair_features ps o p).b
unfolding pair_candidates
candidates_few ps o q p = by_few p.geometry ps o q p (pair_features ps o p)
