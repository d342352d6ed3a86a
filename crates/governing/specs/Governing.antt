-- The governing row of a pair (contact/rows.rs: `of_pair`, `governing`, `gap`), and one row's gradient or slip by its number (`grad`, `slip`). Records are given by functions of their
-- number: the pair that they name, and their gap. Definitions only.
use Rattle.std.specs.Prelude.{ℕ, ◌+◌, ◌*◌, ◌<◌, ◌≡◌, Bool, ◌&&◌, cond, List, [], ◌∷◌, T, eqb, leb, ltb, length, take, drop}
use Rattle.std.specs.Prelude.{Float, Option, Some, None, option_map, Result, Ok, Err}
use Rattle.std.specs.Float.{nan}
use Rattle.std.specs.Float.Ieee.{lt, eq}
use Rattle.laws.specs.Fill.{filled}
use Rattle.laws.specs.Loops.{fold_in}
use Rattle.ieee.specs.Consts.{zero_f}
use Rattle.mechanism.specs.Rows.{pair_in, gap_in}
use Rattle.bodies.specs.declared.Problem.TheVariants.{NoSuchThing}
use Rattle.bodies.specs.declared.Problem.{Problem}
use Rattle.governing.specs.declared.Smallest.{Smallest}
use Rattle.governing.specs.declared.RowEntries.{RowEntries}

module _ (pair : ℕ → ℕ) (gap : ℕ → Float) where
  -- with the record j looked at too: the pair's first record, then only a strictly smaller gap
  abbrev pub least_of : ℕ → Option ℕ → ℕ → Option ℕ
  least_of p None j = cond (eqb (pair j) p) (Some j) None
  least_of p (Some a) j = cond (eqb (pair j) p && lt (gap j) (gap a)) (Some j) (Some a)

  -- of n records, for the pair p
  unfoldable pub governing_of : ℕ → ℕ → Option ℕ
  governing_of n p = fold_in (least_of p) None n 0

  abbrev pub gap_of : Option ℕ → Option Float
  gap_of (Some i) = Some (gap i)
  gap_of None = None

-- ---- what demand 3 says of it, for n records and the pair p
module _ (pair : ℕ → ℕ) (gap : ℕ → Float) (n p : ℕ) where
  -- i is the governing record: one of the pair's; none of the pair's has a smaller gap, none of the pair's before it an equal one; a NaN in the pair's first record stays
  pub record Governs (i : ℕ) : Type 0 where
    pub inside : i < n
    pub of_pair : pair i ≡ p
    pub smallest : (j : ℕ) → j < n → pair j ≡ p → T (lt (gap j) (gap i)) → ⊥
    pub earliest : (j : ℕ) → j < i → pair j ≡ p → T (eq (gap j) (gap i)) → ⊥
    pub nan_stays : (j : ℕ) → j < n → pair j ≡ p → ((k : ℕ) → k < j → pair k ≡ p → ⊥) → gap j ≡ nan → i ≡ j

  -- there is none exactly where no record names the pair
  abbrev pub Governing : Option ℕ → Type 0
  Governing (Some i) = Governs i
  Governing None = (j : ℕ) → j < n → pair j ≡ p → ⊥

-- ---- the smallest of gaps that come with the numbers of their rows
-- one gap more: the first, then only a strictly smaller one; a NaN that came first stays
abbrev pub lesser_gap : Option Smallest → ℕ → Float → Option Smallest
lesser_gap None i g = Some (record { at = i; gap = g })
lesser_gap (Some b) i g = cond (lt g b.gap) (Some (record { at = i; gap = g })) (Some b)

-- gap by gap, as far as both lists go
unfoldable pub least_gap : Option Smallest → List ℕ → List Float → Option Smallest
least_gap best [] gs = best
least_gap best (i ∷ js) [] = best
least_gap best (i ∷ js) (g ∷ gs) = least_gap (lesser_gap best i g) js gs

-- its row, and the gap by itself
abbrev pub row_of_best : Option Smallest → Option ℕ
row_of_best best = option_map (λ (b : Smallest). b.at) best

abbrev pub gap_of_best : Option Smallest → Option Float
gap_of_best best = option_map (λ (b : Smallest). b.gap) best

-- ---- of lent arrays: no more records than the shorter holds
abbrev pub lesser : ℕ → ℕ → ℕ
lesser a b = cond (ltb a b) a b

abbrev pub records_in : ℕ → ℕ → ℕ → ℕ
records_in n places values = lesser n (lesser places values)

-- the governing row among the first n, or among those that there are
abbrev pub governing_in : List (List ℕ) → List (List Float) → ℕ → ℕ → Option ℕ
governing_in places values n p = governing_of (pair_in places) (gap_in values) (records_in n (length places) (length values)) p

-- ---- one row's entries among those of n rows: 12 where there is no such row, or more coordinates than a description has, or too few entries
abbrev pub row_there : (entries coords n i : ℕ) → Bool
row_there entries coords n i = leb coords 16 && (ltb i n && leb (i * coords + coords) entries)

unfoldable pub row_entries : List Float → ℕ → ℕ → ℕ → Result RowEntries Problem
row_entries entries coords n i =
    cond (row_there (length entries) coords n i)
    (Ok (record { count = coords; entry = filled 16 zero_f (take coords (drop (i * coords) entries)) }))
    (Err NoSuchThing)
