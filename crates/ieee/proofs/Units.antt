-- A finite double is known by how many units it counts. Assumes nothing.
use mathlib.Core.Path.{◌≡◌, refl, sym, ap, ◌∙◌}
use mathlib.Core.Bool.{true, false, cond, true≢false}
use Prim.Native.Nat.{ℕ, ◌+◌, ◌-◌, ◌*◌, ◌/◌, ◌^◌}
use native.Mathlib.Nat.{mul-div_cancel}
use lib.Dec.{T}
use lib.Ieee.{Float, nan, inf, fin, binary64, down, size, fits, to_bits, of_bits}
use lib.Ieee.Fits.{down_pos}
use lib.Ieee.Bits.{of_bits-to_bits}
use lib.Ieee.Exact.{HasValue}
use lib.Ieee.Positive.{positive}
use Rattle.ieee.specs.Root.{in_units}

-- x counts a units, and its sign is not negative
abbrev pub Counts : Float → ℕ → Type 0
Counts x a = HasValue x false a (2 ^ 1074)

pub units_of : (x : Float) (a : ℕ) → Counts x a → in_units x ≡ a
units_of nan a h = absurd h
units_of (inf s) a h = absurd h
units_of (fin s m e) a h = ap (λ (n : ℕ). n / down e) h.1 ∙ mul-div_cancel a (down_pos e)

pattern : ℕ → ℕ
pattern n = let k = size n - 53 in cond false (2 ^ 63) 0 + k * 2 ^ 52 + n / 2 ^ k

pattern-is : (x : Float) (a : ℕ) → Counts x a → to_bits binary64 x ≡ pattern (in_units x)
unfolding to_bits pattern
pattern-is nan a h = absurd h
pattern-is (inf s) a h = absurd h
pattern-is (fin true m e) a h = absurd (true≢false h.0)
pattern-is (fin false m e) a h = refl

pub same-double : (x y : Float) (a : ℕ) → T (fits binary64 x) → T (fits binary64 y) → Counts x a → Counts y a → x ≡ y
same-double x y a p q h k =
    sym (of_bits-to_bits binary64 x p)
    ∙ ap (of_bits binary64) (pattern-is x a h ∙ ap pattern (units_of x a h ∙ sym (units_of y a k)) ∙ sym (pattern-is y a k))
    ∙ of_bits-to_bits binary64 y q

pattern-of : (x : Float) → T (positive x) → to_bits binary64 x ≡ pattern (in_units x)
unfolding to_bits pattern
pattern-of nan h = absurd h
pattern-of (inf s) h = absurd h
pattern-of (fin true m e) h = absurd h
pattern-of (fin false m e) h = refl

-- two doubles above zero that count as many units are one
pub same_units : (x y : Float) → T (fits binary64 x) → T (fits binary64 y) → T (positive x) → T (positive y) → in_units x ≡ in_units y → x ≡ y
same_units x y p q h k e =
    sym (of_bits-to_bits binary64 x p)
    ∙ ap (of_bits binary64) (pattern-of x h ∙ ap pattern e ∙ sym (pattern-of y k))
    ∙ of_bits-to_bits binary64 y q
