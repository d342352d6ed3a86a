-- The record that governs, a record more at a time. Assumes nothing.
use Prim.Native.Nat.{ℕ, ◌+◌}
use mathlib.Core.Path.{◌≡◌, refl, ap, ◌∙◌}
use mathlib.Core.Bool.{Bool, true, false, ◌&&◌, cond}
use mathlib.Core.List.{List}
use lib.Dec.{eqb}
use lib.Ieee.{lt}
use lib.ListN.{length}
use Rattle.laws.proofs.Sums.{fold_more}
use Rattle.mechanism.specs.declared.rows.Row.{Row}
use Rattle.governing.specs.Governing.{governing_of, least_of, gap_of}
use Rattle.row_records.specs.declared.Found.{Found}
use Rattle.row_records.specs.Records.{record_at, pair_at, gap_at, governing_record, gap_record}
use Rattle.row_records.specs.Private.{found_at, found_of}
use Rattle.std.proofs.Common.{Option, Some, None, option_map}

-- with a record more
abbrev pub with_record : ℕ → Option Found → ℕ → Row → Option Found
with_record p None i r = cond (eqb r.pair p) (Some (record { at = i; row = r })) None
with_record p (Some f) i r = cond (eqb r.pair p && lt r.gap f.row.gap) (Some (record { at = i; row = r })) (Some f)

module _ (rows : List Row) (p : ℕ) where
  step : (g : Option ℕ) (i : ℕ) → found_at rows (least_of (pair_at rows) (gap_at rows) p g i) ≡ with_record p (found_at rows g) i (record_at rows i)
  step None i = go (eqb (pair_at rows i) p)
    where
      go : (t : Bool) → found_at rows (cond t (Some i) None) ≡ cond t (Some (record { at = i; row = record_at rows i })) None
      go true = refl
      go false = refl
  step (Some a) i = go (eqb (pair_at rows i) p && lt (gap_at rows i) (gap_at rows a))
    where
      go : (t : Bool) → found_at rows (cond t (Some i) (Some a)) ≡ cond t (Some (record { at = i; row = record_at rows i })) (Some (record { at = a; row = record_at rows a }))
      go true = refl
      go false = refl

  pub found_none : found_of rows p 0 ≡ None
  unfolding found_of governing_of Rattle.laws.specs.Loops.fold_in
  found_none = refl

  pub found_more : (i : ℕ) → found_of rows p (i + 1) ≡ with_record p (found_of rows p i) i (record_at rows i)
  unfolding found_of governing_of
  found_more i = ap (found_at rows) (fold_more (least_of (pair_at rows) (gap_at rows) p) None i) ∙ step (governing_of (pair_at rows) (gap_at rows) i p) i

-- ---- of all records
module _ (rows : List Row) (p : ℕ) {found : Option Found} (e : found ≡ found_of rows p (length rows)) where
  pub number_is : option_map (λ (f : Found). f.at) found ≡ governing_record rows p
  unfolding found_of governing_record
  number_is = ap (option_map (λ (f : Found). f.at)) e ∙ go (governing_of (pair_at rows) (gap_at rows) (length rows) p)
    where
      go : (g : Option ℕ) → option_map (λ (f : Found). f.at) (found_at rows g) ≡ g
      go None = refl
      go (Some i) = refl

  pub gap_is : option_map (λ (f : Found). f.row.gap) found ≡ gap_record rows p
  unfolding found_of gap_record
  gap_is = ap (option_map (λ (f : Found). f.row.gap)) e ∙ go (governing_of (pair_at rows) (gap_at rows) (length rows) p)
    where
      go : (g : Option ℕ) → option_map (λ (f : Found). f.row.gap) (found_at rows g) ≡ gap_of (pair_at rows) (gap_at rows) g
      go None = refl
      go (Some i) = refl
