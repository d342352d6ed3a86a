-- Worked texts, computed from the definition. Assumes nothing.
use Prim.Native.Nat.{ℕ}
use Prim.Native.String.{String}
use mathlib.Core.Path.{◌≡◌, refl}
use mathlib.Core.List.{List, [], ◌∷◌, ◌++◌}
use lib.ListN.{replicate}
use lib.Ieee.{Float, binary64, of_bits, add, mul, div, lt}
use Rattle.ieee.specs.Consts.{zero_f, one_f, half_f}
use Rattle.ieee.specs.Root.{root_of}
use Rattle.geometry.specs.Geometry.{dir_of}
use Rattle.geometry.specs.declared.Point.{Point}
use Rattle.geometry.specs.declared.Seg.TheVariants.{Line}
use Rattle.bodies.specs.declared.Joint.TheVariants.{Prismatic}
use Rattle.mechanism.specs.declared.part.Part.{Part}
use Rattle.mechanism.specs.declared.part.Role.TheVariants.{Solid}
use Rattle.mechanism.specs.declared.part.Sweep.TheVariants.{Extruded}
use Rattle.mechanism.specs.declared.part.OutlineSeg.{OutlineSeg}
use Rattle.mechanism.specs.declared.pair.Surface.{Surface}
use Rattle.mechanism.specs.declared.pair.PairGeometry.TheVariants.{Features}
use Rattle.bodies.specs.declared.Problem.TheVariants.{LineNotRead, LimitPassed}
use Rattle.text.specs.Bytes.{bytes}
use Rattle.text.specs.Lists.{all_of, fold_of}
use Rattle.text.specs.Pieces.{onto, split}
use Rattle.text.specs.Fields.{written, decimal, number_of, pattern, float_of, letter_of, is_kind, fits_form}
use Rattle.text.specs.Records.{first_fit}
use Rattle.sheet.specs.Limits.{counted, within_limits}
use Rattle.sheet.specs.Draft.{no_body, no_part, no_seg, no_range, new_pair, no_entry, no_draft, put}
use Rattle.sheet.specs.Read.{lines, all_within, drafted, edges, accepted, sheet_of_lines, written_in}
use Rattle.std.proofs.Common.{Ok, Err, MatchResult}

-- each line with its newline
abbrev text : List String → List ℕ
text [] = []
text (l ∷ ls) = bytes l ++ (10 ∷ text ls)

-- ---- texts that are refused
pub record RefusedTexts : Type 0 where
  -- an empty text: M is missing, at the line after the last
  pub empty : written_in [] ≡ Err (LineNotRead 1)
  -- G alone
  pub only_margin : written_in (text ("G,3ff0000000000000" ∷ [])) ≡ Err (LineNotRead 2)
  -- M alone
  pub no_margin : written_in (text ("M,1" ∷ [])) ≡ Err (LineNotRead 2)
  -- J before M: then M is out of order
  pub joint_first : written_in (text ("J,G,0" ∷ "M,1" ∷ "G,3ff0000000000000" ∷ [])) ≡ Err (LineNotRead 2)
  -- K, then P
  pub pair_first : written_in (text ("M,1" ∷ "K,F" ∷ "P,0,S,M,3ff0000000000000" ∷ "G,3ff0000000000000" ∷ [])) ≡ Err (LineNotRead 3)
  -- S,B, then S,A
  pub b_first : written_in (text ("M,1" ∷ "K,F" ∷ "S,B,0,0,1" ∷ "S,A,0,0,1" ∷ "G,3ff0000000000000" ∷ [])) ≡ Err (LineNotRead 4)
  -- T before G
  pub entry_first : written_in (text ("M,1" ∷ "T,0000000000000000,0000000000000000,3ff0000000000000" ∷ "G,3ff0000000000000" ∷ [])) ≡ Err (LineNotRead 2)
  -- a second G
  pub two_margins : written_in (text ("M,1" ∷ "G,3ff0000000000000" ∷ "G,3ff0000000000000" ∷ [])) ≡ Err (LineNotRead 3)
  -- L without its P
  pub loose_segment : written_in (text ("M,1" ∷ "L,0000000000000000,0000000000000000,0000000000000000,0000000000000000" ∷ "G,3ff0000000000000" ∷ [])) ≡ Err (LineNotRead 2)
  -- a last line without its newline
  pub no_newline : written_in (bytes "M,1\nG,3ff0000000000000") ≡ Err (LineNotRead 2)
  -- a carriage return
  pub carriage_return : written_in (text ("M,1\r" ∷ "G,3ff0000000000000" ∷ [])) ≡ Err (LineNotRead 1)
  -- 00 is no whole number
  pub two_zeros : written_in (text ("M,00" ∷ "G,3ff0000000000000" ∷ [])) ≡ Err (LineNotRead 1)
  -- 65,536 is no whole number
  pub too_large : written_in (text ("M,65536" ∷ "G,3ff0000000000000" ∷ [])) ≡ Err (LineNotRead 1)
  -- a capital hexadecimal digit
  pub capital_digit : written_in (text ("M,1" ∷ "G,3FF0000000000000" ∷ [])) ≡ Err (LineNotRead 2)
  -- 65,535 is one, and too many coordinates
  pub too_many_coordinates : written_in (text ("M,65535" ∷ "G,3ff0000000000000" ∷ [])) ≡ Err LimitPassed
  -- a side of thirteen segments, of a part that does not exist
  pub thirteen_segments : written_in (text ("M,1" ∷ "K,F" ∷ "S,A,9,0,13" ∷ "G,3ff0000000000000" ∷ [])) ≡ Err LimitPassed
  -- 2 comes before 3
  pub order_first : written_in (text ("M,17" ∷ "G,3ff0000000000000" ∷ "G,3ff0000000000000" ∷ [])) ≡ Err (LineNotRead 3)

pub refused-texts : RefusedTexts
unfolding all_of fold_of onto split written decimal number_of pattern float_of letter_of is_kind fits_form first_fit
    counted within_limits no_draft put lines all_within drafted edges sheet_of_lines written_in
refused-texts = record {
  empty = refl;
  only_margin = refl;
  no_margin = refl;
  joint_first = refl;
  pair_first = refl;
  b_first = refl;
  entry_first = refl;
  two_margins = refl;
  loose_segment = refl;
  no_newline = refl;
  carriage_return = refl;
  two_zeros = refl;
  too_large = refl;
  capital_digit = refl;
  too_many_coordinates = refl;
  thirteen_segments = refl;
  order_first = refl;
}

-- ---- seventeen T lines are read
abbrev seventeen : List ℕ
seventeen = text ("M,1" ∷ "G,3ff0000000000000" ∷ replicate 17 "T,0000000000000000,0000000000000000,3ff0000000000000")

pub seventeen-entries : MatchResult (written_in seventeen) (λ s. s.entries.count ≡ 17) (λ p. ⊥)
unfolding all_of fold_of onto split written decimal number_of pattern float_of letter_of is_kind fits_form first_fit
    counted within_limits no_draft put lines all_within drafted edges accepted sheet_of_lines written_in
seventeen-entries = refl

-- ---- the sheet of document 01
abbrev at : Float → Float → Point
at x y = record { x = x; y = y }

abbrev line : Point → Point → OutlineSeg
line a b = record { seg = Line a b }

abbrev solid : ℕ → ℕ → Part
solid b n = record { body = b; segs = n; sweep = Extruded one_f zero_f; role = Solid }

-- one range, from segment 2 to 3
abbrev third : ℕ → Surface
third p = record { count = 1; range = record { part = p; start = 2; end = 3 } ∷ replicate 3 no_range }

abbrev paper : List ℕ
paper =
    text
    ("M,1"
    ∷ "J,P,0,0,0000000000000000,0000000000000000,0000000000000000,3ff0000000000000"
    ∷ "P,0,S,E,3ff0000000000000,0000000000000000"
    ∷ "L,0000000000000000,0000000000000000,3ff0000000000000,0000000000000000"
    ∷ "L,3ff0000000000000,0000000000000000,3ff0000000000000,3ff0000000000000"
    ∷ "L,3ff0000000000000,3ff0000000000000,0000000000000000,3ff0000000000000"
    ∷ "L,0000000000000000,3ff0000000000000,0000000000000000,0000000000000000"
    ∷ "P,1,S,E,3ff0000000000000,0000000000000000"
    ∷ "L,3fe0000000000000,0000000000000000,3ff0000000000000,3ff0000000000000"
    ∷ "L,3ff0000000000000,3ff0000000000000,0000000000000000,3ff0000000000000"
    ∷ "L,0000000000000000,3ff0000000000000,3fe0000000000000,0000000000000000"
    ∷ "K,F"
    ∷ "S,A,1,2,3"
    ∷ "S,B,0,2,3"
    ∷ "G,3ff0000000000000"
    ∷ "T,3ff8000000000000,0000000000000000,3ff0000000000000"
    ∷ [])

pub paper-says : written_in paper ≡ Ok record {
  mechanism = record {
    bodies = record { coords = 1; count = 1; body = record { parent = 0; joint = Prismatic (at zero_f zero_f) (record { x = zero_f; y = one_f }) 0 } ∷ replicate 14 no_body };
    parts = record { count = 2; part = solid 0 4 ∷ solid 1 3 ∷ replicate 30 no_part };
    outlines = record {
      seg =
          line (at zero_f zero_f) (at one_f zero_f) ∷
          line (at one_f zero_f) (at one_f one_f) ∷
          line (at one_f one_f) (at zero_f one_f) ∷
          line (at zero_f one_f) (at zero_f zero_f) ∷
          line (at half_f zero_f) (at one_f one_f) ∷
          line (at one_f one_f) (at zero_f one_f) ∷
          line (at zero_f one_f) (at half_f zero_f) ∷
          replicate 377 no_seg;
    };
    pairs = record { count = 1; pair = record { a = third 1; b = third 0; geometry = Features } ∷ replicate 15 (new_pair Features) };
  };
  margin = one_f;
  entries = record { count = 1; entry = record { value = of_bits binary64 0x3ff8000000000000; sine = zero_f; cosine = one_f } ∷ replicate 15 no_entry };
}
unfolding all_of fold_of onto split written decimal number_of pattern float_of letter_of is_kind fits_form first_fit
    counted within_limits no_draft put lines all_within drafted edges accepted sheet_of_lines written_in dir_of root_of of_bits add mul div lt
paper-says = refl
