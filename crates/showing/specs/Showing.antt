-- Which candidates of a pair are shown as rows (contact/rows.rs: the hiding of `read_pair`, the margin of `push`). Candidates are given by functions of
-- their number: the gap, whether one of the two pieces decides, and whether two of them have the same deciding piece. Definitions only.
use Rattle.std.specs.Prelude.{ℕ, Bool, not, ◌&&◌, ◌||◌, List, T, ltb, Float}
use Rattle.std.specs.Float.Ieee.{lt, eq, neg, is_nan}
use Rattle.laws.specs.Loops.{any_in, filter_in}
use Rattle.ieee.specs.Consts.{zero_f, row_margin}

-- -0.001
abbrev pub deep_f : Float
deep_f = neg row_margin

-- a gap is a number and not above the margin
abbrev pub within : Float → Float → Bool
within m x = not (is_nan x) && not (lt m x)

module _ (gap : ℕ → Float) (decides : ℕ → Bool) (alike : ℕ → ℕ → Bool) where
  -- j has the same deciding piece as i, and a negative gap that is larger, or equal and earlier
  abbrev pub hides : ℕ → ℕ → Bool
  hides i j = alike j i && (lt (gap j) zero_f && (lt (gap i) (gap j) || (eq (gap i) (gap j) && ltb j i)))

  -- only a candidate with a deciding piece and a gap below -0.001 can be hidden
  abbrev pub can_hide : ℕ → Bool
  can_hide i = decides i && lt (gap i) deep_f

  -- one of the n candidates hides it
  abbrev pub hidden : ℕ → ℕ → Bool
  hidden n i = can_hide i && any_in (hides i) n 0

  abbrev pub shows : ℕ → Float → ℕ → Bool
  shows n m i = not (hidden n i) && within m (gap i)

  -- of the n candidates those that are shown, in order; a term of document 01: a candidate among a pair's rows is shown
  unfoldable pub shown : ℕ → Float → List ℕ
  shown n m = filter_in (shows n m) n 0

-- the same deciding piece: what the theorem needs to know of `alike`
pub record Alike (decides : ℕ → Bool) (alike : ℕ → ℕ → Bool) : Type 0 where
  pub decided : (i j : ℕ) → T (alike i j) → T (decides i)
  pub symmetric : (i j : ℕ) → T (alike i j) → T (alike j i)
  pub transitive : (i j k : ℕ) → T (alike i j) → T (alike j k) → T (alike i k)
