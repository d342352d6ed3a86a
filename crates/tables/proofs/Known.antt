-- The arrays of a side: their lengths. Assumes nothing.
use Prim.Native.Nat.{ℕ, ◌+◌}
use native.Mathlib.Omega.{arith}
use mathlib.Core.Path.{◌≡◌, ◌∙◌}
use mathlib.Core.Bool.{Bool, true, false}
use mathlib.Core.List.{List, ◌++◌, map}
use lib.ListN.{length, length-map, length-append}
use mir.Val.{Val}
use denote.Laws.{Is}
use Rattle.laws.proofs.Fill.{length-filled}
use Rattle.laws.proofs.Choice.{cond_yes}
use Rattle.mechanism.specs.Check.{pair_drawn}
use Rattle.mechanism.specs.declared.Outlines.{Outlines}
use Rattle.mechanism.specs.declared.Parts.{Parts}
use Rattle.mechanism.specs.declared.pair.ContactPair.{ContactPair}
use Rattle.mechanism.specs.declared.pair.Surface.{Surface}
use Rattle.bodies.proofs.Known.{array_length}
use Rattle.sides.specs.Contacts.{center_of_b, pair_features, pair_features_at}
use Rattle.sides.specs.Features.{no_face, no_disc, traversals_of, faces_of, discs_of, side_of}
use Rattle.sides.specs.declared.SideFeatures.{SideFeatures}
use Rattle.sides.specs.declared.contacts.PairFeatures.{PairFeatures}
use Rattle.strips.specs.Strips.{face_row, disc_row, piece_row}
use Rattle.sides.specs.contracts.PlacedDisc as D
use Rattle.sides.specs.contracts.PlacedFace as F
use Rattle.sides.specs.contracts.SideFeatures as S
use Rattle.tables.specs.Tables.{pair_faces, pair_face_names, pair_discs, pair_disc_names}

pub faces_long : (s : SideFeatures) (vs : List Val) → Is S.the_row s vs → length s.face ≡ 12
faces_long s vs p = array_length F.the_row 12 s.face _ p.1.1.1.1.0

pub discs_long : (s : SideFeatures) (vs : List Val) → Is S.the_row s vs → length s.disc ≡ 28
discs_long s vs p = array_length D.the_row 28 s.disc _ p.1.1.1.1.1.1.0

-- the features that the code reads are the pair's
pub features_are : (ps : Parts) (o : Outlines) (p : ContactPair) {f : PairFeatures} → pair_drawn ps p ≡ true → f ≡ pair_features_at ps o p → f ≡ pair_features ps o p
unfolding pair_features_at
features_are ps o p d e = e ∙ cond_yes _ _ d

-- ---- the arrays of a side that is computed
module _ (ps : Parts) (o : Outlines) (u : Surface) (wanted : Bool) where
  side-faces : length (side_of ps o u wanted).face ≡ 12
  unfolding side_of
  side-faces = length-filled 12 no_face (faces_of (traversals_of ps o u))

  side-discs : length (side_of ps o u wanted).disc ≡ 28
  unfolding side_of
  side-discs = length-filled 28 no_disc (discs_of (traversals_of ps o u))

module _ (ps : Parts) (o : Outlines) (p : ContactPair) where
  pub faces_a : length (pair_features ps o p).a.face ≡ 12
  unfolding pair_features
  faces_a = side-faces ps o p.a false

  pub faces_b : length (pair_features ps o p).b.face ≡ 12
  unfolding pair_features
  faces_b = side-faces ps o p.b (center_of_b p.geometry)

  pub discs_a : length (pair_features ps o p).a.disc ≡ 28
  unfolding pair_features
  discs_a = side-discs ps o p.a false

  pub discs_b : length (pair_features ps o p).b.disc ≡ 28
  unfolding pair_features
  discs_b = side-discs ps o p.b (center_of_b p.geometry)

-- the rows of two arrays
pub rows_both : {A B : Type 0} (g : A → B) (n : ℕ) (x y : List A) → length x ≡ n → length y ≡ n → length (map g x ++ map g y) ≡ n + n
rows_both g n x y a b = omega (arith, a, b, length-append (map g x) (map g y), length-map x g, length-map y g)

-- how many rows a pair has
module _ (ps : Parts) (o : Outlines) (p : ContactPair) where
  pub pair-faces : length (pair_faces ps o p) ≡ 24
  pair-faces = rows_both (λ q. face_row q.face) 12 (pair_features ps o p).a.face (pair_features ps o p).b.face (faces_a ps o p) (faces_b ps o p)

  pub pair-face-names : length (pair_face_names ps o p) ≡ 24
  pair-face-names = rows_both (λ q. piece_row q.piece) 12 (pair_features ps o p).a.face (pair_features ps o p).b.face (faces_a ps o p) (faces_b ps o p)

  pub pair-discs : length (pair_discs ps o p) ≡ 56
  pair-discs = rows_both (λ q. disc_row q.disc) 28 (pair_features ps o p).a.disc (pair_features ps o p).b.disc (discs_a ps o p) (discs_b ps o p)

  pub pair-disc_names : length (pair_disc_names ps o p) ≡ 56
  pair-disc_names = rows_both (λ q. piece_row q.piece) 28 (pair_features ps o p).a.disc (pair_features ps o p).b.disc (discs_a ps o p) (discs_b ps o p)
