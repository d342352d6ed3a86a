-- The bytes of a whole number and of a float in a listing. Definitions only.
use Rattle.std.specs.Prelude.{ℕ, zero, suc, ◌+◌, ◌-◌, ◌/◌, ◌%◌, cond, List, [], ◌∷◌, ◌++◌, ltb, Float}
use Prim.Native.Char.{code}
use Rattle.std.specs.Float.Ieee.{to_bits}
use Rattle.std.specs.Float.{binary64}

-- a digit's byte: 0 to 9, then a to f
abbrev pub digit_of : ℕ → ℕ
digit_of d = cond (ltb d 10) (code "0" + d) (code "a" + (d - 10))

-- the last n digits of v in a base, leading zeros included
unfoldable pub last_digits : ℕ → ℕ → ℕ → List ℕ
last_digits base zero v = []
last_digits base (suc n) v = last_digits base n (v / base) ++ (digit_of (v % base) ∷ [])

-- how many decimal digits v has, where they are at most n + 1
unfoldable pub digit_count : ℕ → ℕ → ℕ
digit_count zero v = 1
digit_count (suc n) v = cond (ltb v 10) 1 (digit_count n (v / 10) + 1)

-- a whole number: decimal, no leading zero
unfoldable pub decimal_of : ℕ → List ℕ
decimal_of v = last_digits 10 (digit_count 19 v) v

-- a float: the sixteen hexadecimal digits of its bits; a NaN's are 7ff8000000000000
unfoldable pub pattern_of : Float → List ℕ
pattern_of x = last_digits 16 16 (to_bits binary64 x)
