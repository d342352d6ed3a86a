-- What is written as a row is read back. Assumes nothing.
use mathlib.Core.Path.{◌≡◌, refl}
use Rattle.geometry.specs.declared.signed.Disc.{Disc}
use Rattle.geometry.specs.declared.signed.Face.{Face}
use Rattle.mechanism.specs.declared.features.Piece.{Piece}
use Rattle.mechanism.specs.declared.features.Piece.TheVariants.{Segment, Arc, Vertex, Center}
use Rattle.strips.specs.Strips.{face_from, face_row, disc_from, disc_row, piece_from, piece_row}

pub face-back : (f : Face) → face_from (face_row f) ≡ f
face-back f = refl

pub disc_back : (d : Disc) → disc_from (disc_row d) ≡ d
disc_back d = refl

pub piece_back : (p : Piece) → piece_from (piece_row p) ≡ p
piece_back (Segment p s) = refl
piece_back (Arc p s) = refl
piece_back (Vertex p s) = refl
piece_back (Center p) = refl
