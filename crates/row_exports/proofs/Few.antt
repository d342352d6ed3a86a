-- How many records there are: no more than are asked for. Then what is written over records, and the bearing by them. Assumes nothing.
use Prim.Native.Nat.{ℕ, ◌≤◌}
use native.Mathlib.Omega.{arith}
use mathlib.Core.Path.{◌≡◌, refl, ap, ◌∙◌}
use mathlib.Core.Bool.{Bool, true, false, cond}
use mathlib.Core.List.{List}
use lib.Dec.{ltb}
use lib.ListN.{length, take}
use lib.Seq.{sets}
use lib.Ieee.{Float}
use borrow.Author.Tests.{ltb-false}
use Rattle.laws.proofs.Writing.{sets-taken}
use Rattle.laws.proofs.Lists.{list_length}
use Rattle.mechanism.specs.declared.rows.Row.{Row}
use Rattle.bearings.specs.Bearing.{row_at}
use Rattle.governing.specs.Governing.{lesser, records_in}
use Rattle.governing.proofs.Laws.{lesser-le}
use Rattle.row_records.specs.Records.{records_of, records_fit}

pub few : (n k : ℕ) → lesser n k ≤ n
few n k = (lesser-le n k).0

lesser-first : (a b : ℕ) → a ≤ b → lesser a b ≡ a
lesser-first a b h = go (ltb a b) refl
  where
    go : (t : Bool) → ltb a b ≡ t → cond t a b ≡ a
    go true e = refl
    go false e = let g = ltb-false a b e in omega (arith, g, h)

-- ---- the first n of the rows of numbers written over records that are as many
module _ (places : List (List ℕ)) (values : List (List Float)) (n : ℕ) (rows : List Row) (c : n ≤ length rows) where
  abbrev there : ℕ
  there = records_in n (length places) (length values)

  there-few : there ≤ length rows
  there-few = let x = few n (lesser (length places) (length values)) in omega (arith, c, x)

  pub put-taken : {zs : List Row} → zs ≡ sets rows 0 (records_of places values (records_fit n (length places) (length values) (length rows))) → take there zs ≡ records_of places values there
  put-taken e =
      let l = list_length (row_at places values) there 0 in
      let f = there-few in
      ap (take there) (e ∙ ap (λ (k : ℕ). sets rows 0 (records_of places values k)) (lesser-first there (length rows) f))
      ∙ sets-taken (records_of places values there) rows there l (omega (arith, l, f))
