-- Demand 3 of bearings: a bearing repeats the gap and the point of its row, which is the pair's governing one; a row in lent arrays is read back. Assumes nothing.
use Prim.Native.Nat.{ℕ}
use mathlib.Core.Path.{◌≡◌, refl, ap₂, subst}
use mathlib.Core.Bool.{Bool, true, false, cond}
use lib.Dec.{eqb, ltb}
use Rattle.mechanism.specs.Check.{call_checked}
use Rattle.mechanism.specs.Description.{pair_at}
use Rattle.mechanism.specs.Piece.{is_disc, letter_of, part_of, seg_of, piece_in}
use Rattle.bodies.specs.Pose.{placement_at, pose_fits}
use Rattle.mechanism.specs.Rows.{place_row, value_row, row_in}
use Rattle.mechanism.specs.declared.Mechanism.{Mechanism}
use Rattle.mechanism.specs.declared.bearing.Bearing.{Bearing}
use Rattle.mechanism.specs.declared.features.Piece.{Piece}
use Rattle.mechanism.specs.declared.features.Piece.TheVariants.{Segment, Arc, Vertex, Center}
use Rattle.bodies.specs.declared.pose.Placement.{Placement}
use Rattle.bodies.specs.declared.pose.Pose.{Pose}
use Rattle.mechanism.specs.declared.rows.Row.{Row}
use Rattle.sides.specs.Contacts.{pair_features}
use Rattle.sides.specs.declared.SideFeatures.{SideFeatures}
use Rattle.sides.specs.declared.contacts.PairFeatures.{PairFeatures}
use Rattle.sides.specs.Features.{faces_in, discs_in}
use Rattle.governing.specs.Governing.{governing_of}
use Rattle.bearings.specs.Bearing.{ends_of, first_of, face_named, stop_at, stop_under, corner_on, corner_bearing, edge_on, edge_bearing, bearing_of, governed_bearing, bearing_if, bearing_from}
use Rattle.std.proofs.Common.{Option, Some, None, Ok, Err}
use Rattle.bodies.specs.Check.{Checked}
use Rattle.geometry.specs.declared.signed.Face.{Face}
use Rattle.geometry.specs.declared.Point.{Point}

-- ---- a bearing of the row r
abbrev Repeats : Row → Option Bearing → Type 0
Repeats r None = Unit {0}
Repeats r (Some b) = (b.gap ≡ r.gap) × (b.point ≡ r.point)

module _ (r : Row) where
  either : (t : Bool) (x y : Option Bearing) → Repeats r x → Repeats r y → Repeats r (cond t x y)
  either true x y p q = p
  either false x y p q = q

  corner-on : (a : SideFeatures) (pa : Placement) (stop : Option Face) (pb : Placement) (e : Option Point) → Repeats r (corner_on a pa stop pb r e)
  corner-on a pa stop pb None = tt
  corner-on a pa stop pb (Some p) = (refl, refl)

  corner : (a : SideFeatures) (pa : Placement) (b : SideFeatures) (pb : Placement) → Repeats r (corner_bearing a pa b pb r)
  unfolding corner_bearing
  corner a pa b pb = corner-on a pa (stop_under b pb r) pb (first_of (ends_of r.feature.a (discs_in a)))

  edge_on_lem : (pa : Placement) (key : Option Face) (pb : Placement) (stop : Option Face) → Repeats r (edge_on pa key pb stop r)
  edge_on_lem pa None pb stop = tt
  edge_on_lem pa (Some k) pb None = (refl, refl)
  edge_on_lem pa (Some k) pb (Some s) = (refl, refl)

  edge : (a : SideFeatures) (pa : Placement) (b : SideFeatures) (pb : Placement) → Repeats r (edge_bearing a pa b pb r)
  unfolding edge_bearing
  edge a pa b pb = edge_on_lem pa (face_named r.feature.a (faces_in a)) pb (stop_at b pb r)

  repeats : (f : PairFeatures) (q : Pose) → Repeats r (bearing_of f q r)
  unfolding bearing_of
  repeats f q =
      let pa = placement_at q f.a.body in
      let pb = placement_at q f.b.body in
      either (eqb (letter_of r.feature.b) 3) None (cond (is_disc r.feature.a) (corner_bearing f.a pa f.b pb r) (edge_bearing f.a pa f.b pb r)) tt
      (either (is_disc r.feature.a) (corner_bearing f.a pa f.b pb r) (edge_bearing f.a pa f.b pb r) (corner f.a pa f.b pb) (edge f.a pa f.b pb))

pub bearing-repeats : (f : PairFeatures) (q : Pose) (r : Row) (b : Bearing) → bearing_of f q r ≡ Some b → (b.gap ≡ r.gap) × (b.point ≡ r.point)
bearing-repeats f q r b e = subst (Repeats r) e (repeats r f q)

-- ---- a bearing of the governing row, if any
abbrev Governed : (ℕ → Row) → Option ℕ → Option Bearing → Type 0
Governed row g None = Unit {0}
Governed row g (Some b) = (i : ℕ) × (g ≡ Some i) × (b.gap ≡ (row i).gap) × (b.point ≡ (row i).point)

module _ (q : Pose) (row : ℕ → Row) where
  of_row : (i : ℕ) (x : Option Bearing) → Repeats (row i) x → Governed row (Some i) x
  of_row i None p = tt
  of_row i (Some b) p = (i, refl, p.0, p.1)

  governed : (f : PairFeatures) (g : Option ℕ) → Governed row g (governed_bearing f q row g)
  governed f None = tt
  governed f (Some i) = of_row i (bearing_of f q (row i)) (repeats (row i) f q)

  of_pair : (g : Option ℕ) (t : Bool) (x : Option Bearing) → Governed row g x → Governed row g (cond t x None)
  of_pair g true x p = p
  of_pair g false x p = tt

pub bearing-governed : (m : Mechanism) (q : Pose) (row : ℕ → Row) (n pair : ℕ) (b : Bearing) → bearing_from m q row n pair ≡ Ok (Some b)
    → (i : ℕ) × (governing_of (λ k. (row k).pair) (λ k. (row k).gap) n pair ≡ Some i) × (b.gap ≡ (row i).gap) × (b.point ≡ (row i).point)
bearing-governed m q row n pair b e =
    let g = governing_of (λ k. (row k).pair) (λ k. (row k).gap) n pair in
    let f = pair_features m.parts m.outlines (pair_at m.pairs pair) in
    let x = governed_bearing f q row g in
    let t = ltb pair m.pairs.count in
    subst (Governed row g) (of-call (call_checked m (pose_fits m.bodies q) true true) (cond t x None) e) (of_pair q row g t x (governed q row f g))
  where
    of-call : (c : Checked) (x : Option Bearing) → bearing_if c x ≡ Ok (Some b) → x ≡ Some b
    of-call (Ok tt) x h = cc
    of-call (Err z) x h = absurd cc

-- ---- a row written into the two arrays and read again
piece-again : (p : Piece) → piece_in (letter_of p) (part_of p) (seg_of p) ≡ p
piece-again (Segment p s) = refl
piece-again (Arc p s) = refl
piece-again (Vertex p s) = refl
piece-again (Center p) = refl

pub row-again : (r : Row) → row_in (place_row r) (value_row r) ≡ r
row-again r =
    ap₂ (λ (x : Piece) (y : Piece). record { pair = r.pair; feature = record { a = x; b = y }; gap = r.gap; normal = r.normal; point = r.point })
    (piece-again r.feature.a) (piece-again r.feature.b)
