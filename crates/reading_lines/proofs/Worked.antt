-- Worked examples. Assumes nothing.
use Prim.Native.Nat.{ℕ}
use mathlib.Core.Path.{◌≡◌, refl}
use mathlib.Core.List.{[], ◌∷◌}
use lib.Ieee.{Float, nan, neg, binary64, of_bits, to_bits}
use Rattle.mechanism.specs.declared.features.Piece.TheVariants.{Segment, Vertex, Center}
use Rattle.mechanism.specs.declared.rows.Row.{Row}
use Rattle.mechanism.specs.declared.bearing.HowItBears.TheVariants.{Flat, KeyCorner}
use Rattle.mechanism.specs.declared.bearing.Bearing.{Bearing}
use Rattle.text.specs.Bytes.{bytes}
use Rattle.reading_lines.specs.Digits.{last_digits, digit_count, decimal_of, pattern_of}
use Rattle.reading_lines.specs.Lines.{one_byte, letter_field, number_field, float_field, two_fields, float_fields, piece_fields, row_line, columns_line, overlap_line, bearing_line, refusal_line}
use Rattle.std.proofs.Common.{Some, None}

none : decimal_of 0 ≡ bytes "0"
unfolding decimal_of digit_count last_digits
none = refl

ten : decimal_of 10 ≡ bytes "10"
unfolding decimal_of digit_count last_digits
ten = refl

largest : decimal_of 65535 ≡ bytes "65535"
unfolding decimal_of digit_count last_digits
largest = refl

-- 1.0, -0.0 and the NaN
one : pattern_of (of_bits binary64 0x3ff0_0000_0000_0000) ≡ bytes "3ff0000000000000"
unfolding pattern_of last_digits of_bits to_bits
one = refl

minus-zero : pattern_of (neg (of_bits binary64 0)) ≡ bytes "8000000000000000"
unfolding pattern_of last_digits of_bits to_bits neg
minus-zero = refl

no_number : pattern_of nan ≡ bytes "7ff8000000000000"
unfolding pattern_of last_digits to_bits
no_number = refl

-- ---- document 01's listing, line by line
abbrev f : ℕ → Float
f = of_bits binary64

abbrev row : Row
row = record {
  pair = 0;
  feature = record { a = Vertex 1 0; b = Segment 0 2 };
  gap = f 0x3fe0_0000_0000_0000;
  normal = record { x = f 0; y = f 0x3ff0_0000_0000_0000 };
  point = record { x = f 0x3fe0_0000_0000_0000; y = f 0x3ff4_0000_0000_0000 };
}

abbrev bearing : Bearing
bearing = record { how = KeyCorner; gap = row.gap; point = row.point; slope = Some (f 0xc000_0000_0000_0000) }

pub record Paper : Type 0 where
  pub rows : row_line row ≡ bytes "R,0,V,1,0,S,0,2,3fe0000000000000,0000000000000000,3ff0000000000000,3fe0000000000000,3ff4000000000000\n"
  pub columns : columns_line (f 0x3ff0_0000_0000_0000 ∷ []) (f 0 ∷ []) ≡ bytes "D,3ff0000000000000,0000000000000000\n"
  pub overlap : overlap_line 0 (f 0) (f 0) ≡ bytes "O,0,0000000000000000,0000000000000000\n"
  pub bears : bearing_line 0 (Some bearing) ≡ bytes "B,0,C,3fe0000000000000,3fe0000000000000,3ff4000000000000,c000000000000000\n"

pub paper : Paper
unfolding row_line columns_line overlap_line bearing_line one_byte letter_field number_field float_field two_fields float_fields decimal_of digit_count last_digits pattern_of of_bits to_bits
paper = record { rows = refl; columns = refl; overlap = refl; bears = refl }

-- ---- what that listing does not show
pub record Others : Type 0 where
  pub no_coordinates : columns_line [] [] ≡ bytes "D\n"
  pub centre : piece_fields (Center 12) ≡ bytes ",C,12,-"
  pub no_bearing : bearing_line 15 None ≡ bytes "B,15,N\n"
  pub no_slope : bearing_line 3 (Some (record { how = Flat; gap = nan; point = row.point; slope = None })) ≡ bytes "B,3,F,7ff8000000000000,3fe0000000000000,3ff4000000000000,N\n"
  pub refusal : refusal_line 10 31 ≡ bytes "X,10,31\n"

pub others : Others
unfolding columns_line bearing_line refusal_line one_byte letter_field number_field float_field two_fields float_fields decimal_of digit_count last_digits pattern_of of_bits to_bits
others = record { no_coordinates = refl; centre = refl; no_bearing = refl; no_slope = refl; refusal = refl }
