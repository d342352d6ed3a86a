-- The lines of a listing, as bytes. Definitions only.
use Rattle.std.specs.Prelude.{ℕ, ◌+◌, ◌≤◌, ◌≡◌, List, [], ◌∷◌, ◌++◌, length, Float, Option, Some, None}
use Prim.Native.Char.{code}
use Rattle.std.proofs.lemmas.List.Edits.{sets}
use Rattle.mechanism.specs.declared.features.Piece.{Piece}
use Rattle.mechanism.specs.declared.features.Piece.TheVariants.{Segment, Arc, Vertex, Center}
use Rattle.mechanism.specs.declared.rows.Row.{Row}
use Rattle.mechanism.specs.declared.bearing.HowItBears.{HowItBears}
use Rattle.mechanism.specs.declared.bearing.HowItBears.TheVariants.{Flat, StopEdge, KeyCorner}
use Rattle.mechanism.specs.declared.bearing.Bearing.{Bearing}
use Rattle.reading_lines.specs.Digits.{decimal_of, pattern_of}

-- a slice has room for the bytes xs from `at` on
pub record Room (l : List ℕ) (at : ℕ) (xs : List ℕ) : Type 0 where
  pub inside : at + length xs ≤ length l

-- the bytes xs stand in a slice from `at` on, the place behind them is r, and all else is as before
pub record Wrote (before : List ℕ) (at : ℕ) (xs : List ℕ) (r : ℕ) (after : List ℕ) : Type 0 where
  pub behind : r ≡ at + length xs
  pub there : after ≡ sets before at xs

unfoldable pub one_byte : ℕ → List ℕ
one_byte b = b ∷ []

-- ---- fields, each behind its comma
unfoldable pub letter_field : ℕ → List ℕ
letter_field b = one_byte (code ",") ++ one_byte b

unfoldable pub number_field : ℕ → List ℕ
number_field v = one_byte (code ",") ++ decimal_of v

unfoldable pub float_field : Float → List ℕ
float_field x = one_byte (code ",") ++ pattern_of x

unfoldable pub two_fields : Float → Float → List ℕ
two_fields x y = float_field x ++ float_field y

unfoldable pub float_fields : List Float → List ℕ
float_fields [] = []
float_fields (x ∷ xs) = float_field x ++ float_fields xs

-- S, A, V or C with part and segment; a centre's segment is -
abbrev pub place_fields : ℕ → ℕ → ℕ → List ℕ
place_fields letter part seg = letter_field letter ++ (number_field part ++ number_field seg)

abbrev pub centre_fields : ℕ → List ℕ
centre_fields part = letter_field (code "C") ++ (number_field part ++ letter_field (code "-"))

abbrev pub piece_fields : Piece → List ℕ
piece_fields (Segment p s) = place_fields (code "S") p s
piece_fields (Arc p s) = place_fields (code "A") p s
piece_fields (Vertex p s) = place_fields (code "V") p s
piece_fields (Center p) = centre_fields p

-- F flat, E stop edge, C key corner
abbrev pub how_field : HowItBears → List ℕ
how_field Flat = letter_field (code "F")
how_field StopEdge = letter_field (code "E")
how_field KeyCorner = letter_field (code "C")

abbrev pub slope_field : Option Float → List ℕ
slope_field (Some x) = float_field x
slope_field None = letter_field (code "N")

-- ---- lines
abbrev newline : List ℕ
newline = one_byte (code "\n")

unfoldable pub row_line : Row → List ℕ
row_line r =
    one_byte (code "R")
    ++ (number_field r.pair
    ++ (piece_fields r.feature.a
    ++ (piece_fields r.feature.b
    ++ (float_field r.gap
    ++ (two_fields r.normal.x r.normal.y
    ++ (two_fields r.point.x r.point.y
    ++ newline))))))

-- all gradients, then all slips
unfoldable pub columns_line : List Float → List Float → List ℕ
columns_line gradients slips = one_byte (code "D") ++ (float_fields gradients ++ (float_fields slips ++ newline))

-- `pair_overlap`, then `face_overlap`
unfoldable pub overlap_line : ℕ → Float → Float → List ℕ
overlap_line pair x y = one_byte (code "O") ++ (number_field pair ++ (two_fields x y ++ newline))

abbrev pub bearing_of : Bearing → List ℕ
bearing_of b = how_field b.how ++ (float_field b.gap ++ (two_fields b.point.x b.point.y ++ slope_field b.slope))

abbrev pub bearing_fields : Option Bearing → List ℕ
bearing_fields (Some b) = bearing_of b
bearing_fields None = letter_field (code "N")

unfoldable pub bearing_line : ℕ → Option Bearing → List ℕ
bearing_line pair b = one_byte (code "B") ++ (number_field pair ++ (bearing_fields b ++ newline))

unfoldable pub refusal_line : ℕ → ℕ → List ℕ
refusal_line number place = one_byte (code "X") ++ (number_field number ++ (number_field place ++ newline))
