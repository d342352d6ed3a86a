-- Texts behind their lengths. `old` and `new` are the bytes that a reader has left before and after, where they are known.
use Rattle.std.specs.Prelude.{ℕ, ◌≡◌, ◌≤◌, ◌<◌, List, length, take, fold, Option}
use Rattle.std.specs.Io.KnownBytes.{Consumes, IsAtEnd}
use Rattle.streams.specs.Numbers.{tens}

-- fewer than n bytes were read, and then the input ended
abbrev pub EndsBelow : ℕ → Option (List ℕ) → Option (List ℕ) → Type 0
EndsBelow n old new = (bs : List ℕ) × (length bs < n) × Consumes old new bs × IsAtEnd new

-- n bytes were read, those at the front of xs, or fewer of them, and then the input ended
abbrev pub ReadsFront : Option (List ℕ) → Option (List ℕ) → ℕ → List ℕ → Type 0
ReadsFront old new n xs = (k : ℕ) × (k ≤ n) × Consumes old new (take k xs) × (k < n → IsAtEnd new)

-- six digits were read, which say n, and the byte that ends their line
abbrev pub ReadsLength : Option (List ℕ) → Option (List ℕ) → ℕ → Type 0
ReadsLength old new n = (line : List ℕ) × (length line ≡ 7) × Consumes old new line × (n ≡ fold tens 0 (take 6 line))

-- a length n was read, and a text of n bytes into the front of `buf`; none where `buf` has no room for it
abbrev pub ReadsText : Option (List ℕ) → Option (List ℕ) → ℕ → List ℕ → Type 0
ReadsText old new n buf = (between : Option (List ℕ)) × ReadsLength old between n
    × (n ≤ length buf → ReadsFront between new n buf) × (length buf < n → new ≡ between)
