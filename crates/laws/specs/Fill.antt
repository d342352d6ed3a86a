-- Arrays that a loop fills from the front, with a count, and lists of indexes. Definitions only.
use Rattle.std.specs.Prelude.{ℕ, zero, suc, ◌-◌, ◌≡◌, List, [], ◌∷◌, ◌++◌, length, take, replicate}
use Rattle.std.proofs.lemmas.List.Edits.{sets}

-- An array of `cap` places holds the first `n` elements of `all`; `rest` is to come.
pub record Filling {A : Type 0} (cap : ℕ) (all : List A) (arr : List A) (n : ℕ) (rest : List A) : Type 0 where
  pub long : length arr ≡ cap
  pub held : take n arr ++ rest ≡ all

-- an array of n places that holds a list from its front, and d in the places behind it
abbrev pub filled : {A : Type 0} → ℕ → A → List A → List A
filled n d l = sets (replicate n d) 0 l

-- k indexes from a on
unfoldable pub indexes : ℕ → ℕ → List ℕ
indexes zero a = []
indexes (suc k) a = a ∷ indexes k (suc a)

-- a, a + 1, .., e - 1: Rust's a..e
abbrev pub range : ℕ → ℕ → List ℕ
range a e = indexes (e - a) a
