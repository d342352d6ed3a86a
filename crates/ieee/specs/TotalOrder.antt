-- The total order of IEEE 754-2019, 5.10, for a model with one NaN, which ranks above all numbers (document 01). Definitions only.
use Rattle.std.specs.Prelude.{Bool, true, false, not, ◌&&◌, ◌||◌, zero, suc, Float}
use Rattle.std.specs.Float.{nan, inf, fin}
use Rattle.std.specs.Float.Ieee.{lt, eq, is_nan}
use Rattle.std.specs.declared.cmp.Ordering.{Ordering}
use Rattle.std.specs.declared.cmp.Ordering.TheVariants.{Less, Equal, Greater}

-- the zero of the sign s
abbrev pub is_zero : Bool → Float → Bool
is_zero true (fin s zero e) = s
is_zero false (fin s zero e) = not s
is_zero t (fin s (suc m) e) = false
is_zero t nan = false
is_zero t (inf s) = false

-- Whether x stands no later than y. Clause d: y is a NaN, or x is and y is not. Clauses a and b: the smaller stands first. Clause c: of two
-- that compare equal -0 stands before +0, and any others are one datum.
unfoldable pub total_order : Float → Float → Bool
total_order x y = is_nan y || (lt x y || (eq x y && not (is_zero false x && is_zero true y)))

abbrev pub ordering_of : Bool → Bool → Ordering
ordering_of true true = Equal
ordering_of true false = Less
ordering_of false b = Greater

-- f64::total_cmp
abbrev pub total_of : Float → Float → Ordering
total_of x y = ordering_of (total_order x y) (total_order y x)
