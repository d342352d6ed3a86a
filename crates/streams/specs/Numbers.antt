-- A number in decimal digits.
use Rattle.std.specs.Prelude.{ℕ, ◌+◌, ◌*◌, ◌%◌}

-- a number of at most six digits with one more digit behind it, the low four bits of a byte
abbrev pub tens : ℕ → ℕ → ℕ
tens value b = value % 100000 * 10 + b % 16 % 10
