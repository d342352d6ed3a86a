-- A byte parts a text into pieces: n of them give n + 1 pieces, of which any may be empty. Lines are parted by newlines, fields by commas. Definitions only.
use Rattle.std.specs.Prelude.{ℕ, ◌+◌, cond, List, [], ◌∷◌, ◌++◌, eqb, length, get_or, drop}
use Prim.Native.Char.{code}

-- bytes put before the first piece
unfoldable pub onto : List ℕ → List (List ℕ) → List (List ℕ)
onto p [] = p ∷ []
onto p (f ∷ fs) = (p ++ f) ∷ fs

-- the pieces of a text that the byte c parts
unfoldable pub split : ℕ → List ℕ → List (List ℕ)
split c [] = [] ∷ []
split c (b ∷ bs) = cond (eqb b c) ([] ∷ split c bs) (onto (b ∷ []) (split c bs))

-- where the piece ends that starts at `at`
abbrev pub piece_end : ℕ → List ℕ → ℕ → ℕ
piece_end c s at = at + length (get_or (split c (drop at s)) 0 [])

-- the fields of a line
abbrev pub fields_of : List ℕ → List (List ℕ)
fields_of line = split (code ",") line
