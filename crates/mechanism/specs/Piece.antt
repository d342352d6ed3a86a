-- Pieces (contact/features.rs). Definitions only.
use Rattle.std.specs.Prelude.{ℕ, Bool, true, false, ◌&&◌, cond, eqb}
use Rattle.mechanism.specs.declared.features.Piece.{Piece}
use Rattle.mechanism.specs.declared.features.Piece.TheVariants.{Segment, Arc, Vertex, Center}

-- read as a disc: an arc or a vertex
abbrev pub is_disc : Piece → Bool
is_disc (Segment p s) = false
is_disc (Arc p s) = true
is_disc (Vertex p s) = true
is_disc (Center p) = false

-- ---- a piece in whole numbers
-- 0 a segment, 1 an arc, 2 a vertex, 3 a centre
abbrev pub letter_of : Piece → ℕ
letter_of (Segment p s) = 0
letter_of (Arc p s) = 1
letter_of (Vertex p s) = 2
letter_of (Center p) = 3

abbrev pub part_of : Piece → ℕ
part_of (Segment p s) = p
part_of (Arc p s) = p
part_of (Vertex p s) = p
part_of (Center p) = p

abbrev pub seg_of : Piece → ℕ
seg_of (Segment p s) = s
seg_of (Arc p s) = s
seg_of (Vertex p s) = s
seg_of (Center p) = 0

-- the piece of three whole numbers
abbrev pub piece_in : ℕ → ℕ → ℕ → Piece
piece_in letter part seg = cond (eqb letter 0) (Segment part seg) (cond (eqb letter 1) (Arc part seg) (cond (eqb letter 2) (Vertex part seg) (Center part)))

-- pieces agree where letter, part and segment agree
abbrev pub same_piece : Piece → Piece → Bool
same_piece p r = eqb (letter_of p) (letter_of r) && (eqb (part_of p) (part_of r) && eqb (seg_of p) (seg_of r))
