-- Worked examples, computed from the definitions: roots (document 01, "Marked for proof"), the constants against their decimals, and the corners of the small functions. Assumes nothing.
use mathlib.Core.Path.{◌≡◌, refl}
use mathlib.Core.Bool.{true, false}
use Prim.Native.Nat.{◌*◌, ◌^◌}
use lib.Ieee.{nan, binary64, of_bits, to_bits, round, neg, lt, is_nan}
use Rattle.ieee.specs.Consts.{zero_f, one_f, two_f, half_f, sector_slack, row_margin, flat_within}
use Rattle.ieee.specs.Root.{root_of}
use Rattle.ieee.specs.Num.{max_of, min_of, clamp_of, same_of}

-- the root of 2 ^ -1074 is 2 ^ -537, whose exponent's field is 1023 - 537; of -0.0, -0.0; of 2, the double nearest to it; of -1, NaN
root_least : root_of (of_bits binary64 1) ≡ of_bits binary64 (486 * 2 ^ 52)
unfolding root_of of_bits
root_least = refl

root_minus_zero : root_of (neg zero_f) ≡ neg zero_f
unfolding root_of of_bits neg
root_minus_zero = refl

root_two : root_of two_f ≡ of_bits binary64 0x3ff6_a09e_667f_3bcd
unfolding root_of of_bits
root_two = refl

root_largest : root_of (of_bits binary64 0x7fef_ffff_ffff_ffff) ≡ of_bits binary64 0x5fef_ffff_ffff_ffff
unfolding root_of of_bits
root_largest = refl

root_below-zero : root_of (neg one_f) ≡ nan
unfolding root_of of_bits neg
root_below-zero = refl

-- each constant is the double nearest to its decimal
one-is : one_f ≡ round binary64 false 1 1
unfolding of_bits round
one-is = refl

two_is : two_f ≡ round binary64 false 2 1
unfolding of_bits round
two_is = refl

half_is : half_f ≡ round binary64 false 1 2
unfolding of_bits round
half_is = refl

sector_slack-is : sector_slack ≡ round binary64 false 8 (2 ^ 52)
unfolding of_bits round
sector_slack-is = refl

row-margin_is : row_margin ≡ round binary64 false 1 1000
unfolding of_bits round
row-margin_is = refl

flat-within-is : flat_within ≡ round binary64 false 25 10000000
unfolding of_bits round
flat-within-is = refl

-- of both zeros the first is kept; a NaN gives way, on either side; clamp keeps -0.0 and NaN
max_zeros : max_of (neg zero_f) zero_f ≡ neg zero_f
unfolding of_bits neg lt is_nan
max_zeros = refl

min_zeros : min_of zero_f (neg zero_f) ≡ zero_f
unfolding of_bits neg lt is_nan
min_zeros = refl

max_nan : max_of nan one_f ≡ one_f
unfolding is_nan
max_nan = refl

nan_max : max_of one_f nan ≡ one_f
unfolding of_bits lt is_nan
nan_max = refl

clamp_minus_zero : clamp_of (neg zero_f) ≡ neg zero_f
unfolding of_bits neg lt
clamp_minus_zero = refl

clamp_nan : clamp_of nan ≡ nan
unfolding lt of_bits
clamp_nan = refl

-- two NaNs are the same, the two zeros are not
same-nans : same_of nan nan ≡ true
unfolding to_bits
same-nans = refl

zeros_differ : same_of zero_f (neg zero_f) ≡ false
unfolding of_bits neg to_bits
zeros_differ = refl

nan_pattern : to_bits binary64 nan ≡ 0x7ff8_0000_0000_0000
unfolding to_bits
nan_pattern = refl
