-- Two pieces are equal, as `==` compares them, where letter, part and segment agree. Assumes nothing.
use mathlib.Core.Path.{◌≡◌, refl}
use mathlib.Core.Bool.{Bool, true, false, ◌&&◌}
use lib.Dec.{eqb}
use Rattle.mechanism.specs.Piece.{same_piece}
use Rattle.mechanism.specs.declared.features.Piece.{Piece}
use Rattle.mechanism.specs.declared.features.Piece.TheVariants.{Segment, Arc, Vertex, Center}
use Rattle.mechanism.specs.contracts.features.PiecePartialEq.TheImpl.{eq-value}

-- what `==` computes
abbrev pub equal : Piece → Piece → Bool
equal = eq-value.it

and-true : (b : Bool) → b ≡ b && true
and-true true = refl
and-true false = refl

pub equal_pieces : (p r : Piece) → equal p r ≡ same_piece p r
equal_pieces (Segment p s) (Segment q t) = refl
equal_pieces (Segment p s) (Arc q t) = refl
equal_pieces (Segment p s) (Vertex q t) = refl
equal_pieces (Segment p s) (Center q) = refl
equal_pieces (Arc p s) (Segment q t) = refl
equal_pieces (Arc p s) (Arc q t) = refl
equal_pieces (Arc p s) (Vertex q t) = refl
equal_pieces (Arc p s) (Center q) = refl
equal_pieces (Vertex p s) (Segment q t) = refl
equal_pieces (Vertex p s) (Arc q t) = refl
equal_pieces (Vertex p s) (Vertex q t) = refl
equal_pieces (Vertex p s) (Center q) = refl
equal_pieces (Center p) (Segment q t) = refl
equal_pieces (Center p) (Arc q t) = refl
equal_pieces (Center p) (Vertex q t) = refl
equal_pieces (Center p) (Center q) = and-true (eqb p q)
