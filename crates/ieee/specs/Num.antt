-- Rust's small functions on f64. Definitions only.
use Rattle.std.specs.Prelude.{Bool, true, false, cond, eqb, Float}
use Rattle.std.specs.Float.{nan, inf, fin, binary64}
use Rattle.std.specs.Float.Ieee.{lt, eq, is_nan, to_bits}
use Rattle.ieee.specs.Consts.{zero_f, one_f}

-- neither a NaN nor an infinity
abbrev pub finite : Float → Bool
finite nan = false
finite (inf s) = false
finite (fin s m e) = true

-- the sign left off
abbrev pub abs_of : Float → Float
abs_of nan = nan
abs_of (inf s) = inf false
abs_of (fin s m e) = fin false m e

-- +0.0 for either zero, every other number itself
abbrev pub plain_zero : Float → Float
plain_zero x = cond (eq x zero_f) zero_f x

-- A NaN gives way to the other argument. Of two equal ones, the two zeros among them, the first is kept (document 01).
abbrev pub max_of : Float → Float → Float
max_of a b = cond (is_nan a) b (cond (lt a b) b a)

abbrev pub min_of : Float → Float → Float
min_of a b = cond (is_nan a) b (cond (lt b a) b a)

-- clamp(0.0, 1.0): a NaN stays
abbrev pub clamp_of : Float → Float
clamp_of x = cond (lt x zero_f) zero_f (cond (lt one_f x) one_f x)

-- Bit for bit, for a model with one NaN, so that two NaNs are the same and the two zeros are not.
abbrev pub same_of : Float → Float → Bool
same_of x y = eqb (to_bits binary64 x) (to_bits binary64 y)
