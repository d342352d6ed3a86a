-- The fields of a line: whole numbers, floats and letters. Definitions only.
use Rattle.std.specs.Prelude.{ℕ, ◌+◌, ◌*◌, ◌-◌, Bool, true, false, not, ◌&&◌, ◌||◌, cond, ltb, leb, eqb}
use Rattle.std.specs.Prelude.{List, [], ◌∷◌, get_or, length, Float, Option, Some, None, is_some, unwrap_or}
use Prim.Native.Char.{code}
use Rattle.std.specs.Float.Ieee.{of_bits}
use Rattle.std.specs.Float.{binary64}
use Rattle.text.specs.Lists.{all_of, fold_of}

abbrev pub is_digit : ℕ → Bool
is_digit b = leb (code "0") b && leb b (code "9")

-- at least one byte, and no leading zero
unfoldable pub written : List ℕ → Bool
written f = ltb 0 (length f) && not (ltb 1 (length f) && eqb (get_or f 0 0) (code "0"))

-- a number, with one more digit after it
abbrev pub tens : ℕ → ℕ → ℕ
tens v b = v * 10 + (b - code "0")

unfoldable pub decimal : List ℕ → ℕ
decimal f = fold_of tens 0 f

-- the whole number that a field is: decimal, no leading zero, at most 65,535
unfoldable pub number_of : List ℕ → Option ℕ
number_of f = cond (written f && (all_of is_digit f && leb (decimal f) 65535)) (Some (decimal f)) None

abbrev pub is_hex : ℕ → Bool
is_hex b = is_digit b || (leb (code "a") b && leb b (code "f"))

-- a lowercase hexadecimal digit's value
abbrev pub hex_of : ℕ → ℕ
hex_of b = cond (is_digit b) (b - code "0") (b - code "a" + 10)

abbrev pub sixteens : ℕ → ℕ → ℕ
sixteens v b = v * 16 + hex_of b

unfoldable pub pattern : List ℕ → ℕ
pattern f = fold_of sixteens 0 f

-- the float that a field is: sixteen lowercase hexadecimal digits of its bits
unfoldable pub float_of : List ℕ → Option Float
float_of f = cond (eqb (length f) 16 && all_of is_hex f) (Some (of_bits binary64 (pattern f))) None

-- the letter that a field is, or 0
unfoldable pub letter_of : List ℕ → ℕ
letter_of f = cond (eqb (length f) 1) (get_or f 0 0) 0

-- S solid, C cut, L lining
abbrev pub is_role : ℕ → Bool
is_role b = eqb b (code "S") || (eqb b (code "C") || eqb b (code "L"))

-- a field is of a kind: n a whole number, f a float, r a role's letter, a capital letter that letter
unfoldable pub is_kind : ℕ → List ℕ → Bool
is_kind k f =
    cond (eqb k (code "n")) (is_some (number_of f))
    (cond (eqb k (code "f")) (is_some (float_of f))
    (cond (eqb k (code "r")) (is_role (letter_of f))
    (eqb (letter_of f) k)))

-- fields are of the kinds of a form, one for one
unfoldable pub fits_form : List ℕ → List (List ℕ) → Bool
fits_form [] [] = true
fits_form [] (f ∷ fs) = false
fits_form (k ∷ ks) [] = false
fits_form (k ∷ ks) (f ∷ fs) = is_kind k f && fits_form ks fs

-- the field j, or nothing where there are fewer; the same as a whole number, as a float, as a letter
abbrev pub field_at : List (List ℕ) → ℕ → List ℕ
field_at fs j = get_or fs j []

abbrev pub number_at : List (List ℕ) → ℕ → ℕ
number_at fs j = unwrap_or (number_of (field_at fs j)) 0

abbrev pub real_at : List (List ℕ) → ℕ → Float
real_at fs j = unwrap_or (float_of (field_at fs j)) (of_bits binary64 0)

abbrev pub letter_at : List (List ℕ) → ℕ → ℕ
letter_at fs j = letter_of (field_at fs j)
