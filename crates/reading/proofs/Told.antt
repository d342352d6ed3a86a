-- What a reading answers by the rows that its call wrote to lent arrays, however the pairs are held. Assumes nothing.
use Prim.Native.Nat.{ℕ, ◌≤◌}
use native.Mathlib.Omega.{arith}
use mathlib.Core.Path.{◌≡◌, ap, ap₂, ◌∙◌}
use mathlib.Core.List.{List, map}
use lib.Ieee.{Float}
use lib.ListN.{length}
use lib.Seq.{sets, length-sets}
use Rattle.laws.specs.Fill.{filled}
use Rattle.laws.proofs.Lists.{list_same}
use Rattle.bodies.specs.Check.{Checked}
use Rattle.mechanism.specs.Rows.{RowLists, place_row, value_row}
use Rattle.mechanism.specs.declared.rows.Row.{Row}
use Rattle.shown_rows.specs.Rows.{answer_if, rows_over}
use Rattle.reading.specs.Reading.{no_pair_reading, readings_by}
use Rattle.reading.specs.declared.PairReading.{PairReading}
use Rattle.reading.specs.declared.Reading.{Reading}
use Rattle.reading.proofs.OfPairs.{accepted_told}
use Rattle.std.proofs.Common.{Ok}

-- `one` reads a pair by n rows in arrays
module _ (pairs : ℕ) (one : List (List ℕ) → List (List Float) → ℕ → ℕ → PairReading) (rows : List Row) (b : RowLists) where
  abbrev pub Fit : Type 0
  Fit = (length rows ≤ length b.places) × (length rows ≤ length b.values)

  -- of rows written to the arrays it reads what it reads of the rows
  abbrev pub Back : Type 0
  Back = (i : ℕ) → Fit → one (sets b.places 0 (map place_row rows)) (sets b.values 0 (map value_row rows)) (length rows) i ≡ one (map place_row rows) (map value_row rows) (length rows) i

  -- all pairs
  abbrev pub read_of : RowLists → ℕ → Reading
  read_of l n = record { count = n; pairs = pairs; pair = readings_by (one l.places l.values n) pairs }

  module _ (grad slip : List Float) (c : Checked) (fit : c ≡ Ok tt → Fit) where
    abbrev pub written : RowLists
    written = record { places = map place_row rows; values = map value_row rows; grad = grad; slip = slip }

    -- what is left in the arrays by an accepted call
    module _ {n : ℕ} {a : RowLists} (e : Ok n ≡ answer_if c (length rows)) (after : a ≡ rows_over c written b) where
      pub known : (c ≡ Ok tt) × (n ≡ length rows)
      known = accepted_told c n (length rows) e

      left : a ≡ rows_over (Ok tt) written b
      left = after ∙ ap (λ (k : Checked). rows_over k written b) known.0

      pub there : (n ≤ length a.places) × (n ≤ length a.values)
      there =
          let f = fit known.0 in
          let k = known.1 in
          let x = ap (λ (l : RowLists). length l.places) left ∙ length-sets b.places 0 (map place_row rows) in
          let y = ap (λ (l : RowLists). length l.values) left ∙ length-sets b.values 0 (map value_row rows) in
          (omega (arith, k, x, f.0), omega (arith, k, y, f.1))

      pub read_by_rows : Back → read_of a n ≡ read_of written (length rows)
      read_by_rows back =
          ap₂ read_of left known.1
          ∙ ap (λ (l : List PairReading). record { count = length rows; pairs = pairs; pair = filled 16 no_pair_reading l })
          (list_same (one (sets b.places 0 (map place_row rows)) (sets b.values 0 (map value_row rows)) (length rows)) (one (map place_row rows) (map value_row rows) (length rows))
          (λ i. back i (fit known.0)) pairs 0)
