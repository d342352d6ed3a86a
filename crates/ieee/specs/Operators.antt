-- Rust's operators on f64, each rounded once. Definitions only.
use Rattle.std.specs.Float.Ieee as Ieee
use Rattle.std.specs.Prelude.{Float}
use Rattle.std.specs.Float.{binary64}

infixl 70 ◌⊗◌
infixl 70 ◌⊘◌
infixl 60 ◌⊕◌
infixl 60 ◌⊖◌
abbrev pub ◌⊕◌ : Float → Float → Float
x ⊕ y = Ieee.add binary64 x y

abbrev pub ◌⊖◌ : Float → Float → Float
x ⊖ y = Ieee.sub binary64 x y

abbrev pub ◌⊗◌ : Float → Float → Float
x ⊗ y = Ieee.mul binary64 x y

abbrev pub ◌⊘◌ : Float → Float → Float
x ⊘ y = Ieee.div binary64 x y
