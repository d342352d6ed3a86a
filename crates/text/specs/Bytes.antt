-- The bytes of a quoted text. Definitions only.
use Rattle.std.specs.Prelude.{ℕ, zero, suc, List, [], ◌∷◌}
use Prim.Native.Char.{code}
use Prim.Native.String.{String, len, char_at}

-- n bytes of a text from i on
abbrev bytes_from : String → ℕ → ℕ → List ℕ
bytes_from s zero i = []
bytes_from s (suc n) i = code (char_at s i) ∷ bytes_from s n (suc i)

-- of a text of ASCII characters
abbrev pub bytes : String → List ℕ
bytes s = bytes_from s (len s) 0
