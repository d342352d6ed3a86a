-- The numbers that the code writes, by their bit patterns. proofs/Worked.antt shows that each is the double nearest to its decimal. Definitions only.
use Rattle.std.specs.Prelude.{Float}
use Rattle.std.specs.Float.{binary64}
use Rattle.std.specs.Float.Ieee.{of_bits}

abbrev pub zero_f : Float
zero_f = of_bits binary64 0

abbrev pub one_f : Float
one_f = of_bits binary64 0x3ff0_0000_0000_0000

abbrev pub two_f : Float
two_f = of_bits binary64 0x4000_0000_0000_0000

abbrev pub half_f : Float
half_f = of_bits binary64 0x3fe0_0000_0000_0000

abbrev pub infinity_f : Float
infinity_f = of_bits binary64 0x7ff0_0000_0000_0000

-- SECTOR_SLACK, 8 * 2^-52 = 2^-49
abbrev pub sector_slack : Float
sector_slack = of_bits binary64 0x3ce0_0000_0000_0000

-- ROW_MARGIN, 0.001
abbrev pub row_margin : Float
row_margin = of_bits binary64 0x3f50_624d_d2f1_a9fc

-- FLAT_WITHIN, 2.5e-6
abbrev pub flat_within : Float
flat_within = of_bits binary64 0x3ec4_f8b5_88e3_68f1
