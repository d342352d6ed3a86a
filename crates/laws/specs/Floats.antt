-- Document 01, "Words of demand 3": numeric means not NaN, infinities included. Definitions only.
use Rattle.std.specs.Prelude.{not, T, Float}
use Rattle.std.specs.Float.Ieee.{is_nan}

abbrev pub Numeric : Float → Type 0
Numeric x = T (not (is_nan x))
