-- Features that grow: one more, one step after another. Assumes nothing.
use Prim.Native.Nat.{ℕ, ◌+◌}
use native.Mathlib.Nat.{add-zero, zero-add}
use native.Mathlib.Omega.{arith}
use mathlib.Core.Path.{◌≡◌, refl, sym, ap, ap₂, subst₂, ◌∙◌}
use mathlib.Core.List.{List, [], ◌++◌}
use lib.ListN.{length, replicate, length-append}
use lib.Seq.{sets}
use Rattle.laws.specs.Fill.{filled}
use Rattle.laws.proofs.Writing.{sets-append}
use Rattle.geometry.specs.declared.Point.{Point}
use Rattle.mechanism.specs.declared.features.Piece.{Piece}
use Rattle.sides.specs.declared.Features.{Features}
use Rattle.sides.specs.declared.PlacedFace.{PlacedFace}
use Rattle.sides.specs.declared.PlacedDisc.{PlacedDisc}
use Rattle.sides.specs.declared.SideFeatures.{SideFeatures}
use Rattle.sides.specs.Features.{Grown, no_face, no_disc, side_from}

pub grown-as : {f r : Features} {fs fs' : List PlacedFace} {ds ds' : List PlacedDisc} → fs ≡ fs' → ds ≡ ds' → Grown f r fs ds → Grown f r fs' ds'
grown-as {f} {r} p q w = subst₂ (λ a b. Grown f r a b) p q w

pub grown-same : (f : Features) → Grown f f [] []
grown-same f = record { all_faces = refl; all_discs = refl; more_faces = sym (add-zero f.faces); more_discs = sym (add-zero f.discs) }

-- a list behind what is there, and one more behind it
then-all : {A : Type 0} (x y z : List A) (m n : ℕ) (a b : List A) → y ≡ sets x m a → n ≡ m + length a → z ≡ sets y n b → z ≡ sets x m (a ++ b)
then-all {A} x y z m n a b p q r = r ∙ ap₂ (λ (l : List A) (k : ℕ). sets l k b) p q ∙ sym (sets-append a b x m)

then-count : {A : Type 0} (m n k : ℕ) (a b : List A) → n ≡ m + length a → k ≡ n + length b → k ≡ m + length (a ++ b)
then-count m n k a b p q = let e = length-append a b in omega arith

pub grown-then : {f g r : Features} {fs fs' : List PlacedFace} {ds ds' : List PlacedDisc} → Grown f g fs ds → Grown g r fs' ds' → Grown f r (fs ++ fs') (ds ++ ds')
grown-then {f} {g} {r} {fs} {fs'} {ds} {ds'} v w = record {
  all_faces = then-all f.face g.face r.face f.faces g.faces fs fs' v.all_faces v.more_faces w.all_faces;
  all_discs = then-all f.disc g.disc r.disc f.discs g.discs ds ds' v.all_discs v.more_discs w.all_discs;
  more_faces = then-count f.faces g.faces r.faces fs fs' v.more_faces w.more_faces;
  more_discs = then-count f.discs g.discs r.discs ds ds' v.more_discs w.more_discs;
}

-- all of them, where there were none at first
pub grown-all : {f r : Features} {fs fs' : List PlacedFace} {ds ds' : List PlacedDisc} → (f.faces ≡ 0) × (f.discs ≡ 0) × (f.face ≡ replicate 12 no_face) × (f.disc ≡ replicate 28 no_disc)
    → fs ≡ fs' → ds ≡ ds' → Grown f r fs ds
    → (r.faces ≡ length fs') × (r.face ≡ filled 12 no_face fs') × (r.discs ≡ length ds') × (r.disc ≡ filled 28 no_disc ds')
grown-all {f} {r} {fs} {fs'} {ds} {ds'} z p q w = (
  w.more_faces ∙ ap₂ (λ (a b : ℕ). a + b) z.0 (ap length p) ∙ zero-add (length fs'),
  w.all_faces ∙ ap₂ (λ (l : List PlacedFace) (k : ℕ). sets l k fs) z.2 z.0 ∙ ap (filled 12 no_face) p,
  w.more_discs ∙ ap₂ (λ (a b : ℕ). a + b) z.1 (ap length q) ∙ zero-add (length ds'),
  w.all_discs ∙ ap₂ (λ (l : List PlacedDisc) (k : ℕ). sets l k ds) z.3 z.1 ∙ ap (filled 28 no_disc) q,
)

-- a side by its fields
pub side-by : (body : ℕ) (piece : Piece) (fs : List PlacedFace) (ds : List PlacedDisc) {faces discs : ℕ} {face : List PlacedFace} {disc : List PlacedDisc} {p q : Point}
    → (faces ≡ length fs) × (face ≡ filled 12 no_face fs) × (discs ≡ length ds) × (disc ≡ filled 28 no_disc ds) → p ≡ q
    → ◌≡◌ {A = SideFeatures} (record { body = body; faces = faces; face = face; discs = discs; disc = disc; center = record { piece = piece; point = p } }) (side_from body fs ds piece q)
side-by body piece fs ds z e = simp (z.0, z.1, z.2, z.3, e)
