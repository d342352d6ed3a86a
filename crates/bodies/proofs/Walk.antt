-- The walk up the parents, a step at a time. Assumes nothing.
use Prim.Native.Nat.{ℕ, zero, suc, ◌+◌, ◌-◌, ◌≤◌, ◌<◌}
use native.Mathlib.Omega.{arith}
use mathlib.Core.Path.{◌≡◌, refl, sym, ap, ap₂, ◌∙◌}
use mathlib.Core.Bool.{Bool, true, false, cond}
use mathlib.Core.List.{List, [], ◌++◌}
use lib.Dec.{ltb}
use lib.ListN.{length, get_or, take, drop, replicate, length-append}
use lib.Seq.{length-sets, sets-eq, take-append_seam}
use borrow.Author.Tests.{lt-ltb, le-ltb}
use Rattle.laws.specs.Loops.{Writing}
use Rattle.laws.proofs.Choice.{cond_yes, cond_no}
use Rattle.laws.proofs.Writing.{ends, ends-count}
use Rattle.bodies.specs.Description.{body_at}
use Rattle.bodies.specs.Pose.{column_of, columns_of, columns_up, no_column, no_placement, columns_in, body_numbered}
use Rattle.bodies.specs.declared.Bodies.{Bodies}
use Rattle.bodies.specs.declared.Joint.{Joint}
use Rattle.bodies.specs.declared.Joint.TheVariants.{Ground, Revolute, Prismatic}
use Rattle.bodies.specs.declared.pose.Placement.{Placement}
use Rattle.bodies.specs.declared.pose.Pose.{Pose}
use Rattle.bodies.specs.declared.pose.Column.{Column}
use Rattle.bodies.specs.declared.pose.Columns.{Columns}
use Rattle.geometry.specs.declared.Point.{Point}

module _ (b : Bodies) (q : Pose) (p : Point) where
  -- the ground, and a number that names no body
  pub up_none : (steps at : ℕ) → (0 < at → 15 < at) → columns_up b q p steps at ≡ []
  unfolding columns_up
  up_none zero at e = refl
  up_none (suc steps) zero e = refl
  up_none (suc steps) (suc i) e = let h = e (omega arith) in cond_no _ _ (le-ltb i 15 (omega arith))

  pub up-over : (n i at : ℕ) → n ≤ i → columns_up b q p (n - i) at ≡ []
  unfolding columns_up
  up-over n i at h = let e : n - i ≡ 0 = omega arith in rw e refl

  up_turn : (steps at : ℕ) → (at ≡ 0 → ⊥) → at ≤ 15
      → columns_up b q p (suc steps) at ≡ column_of p (get_or q.placement at no_placement) (body_at b (at - 1)).joint ++ columns_up b q p steps (body_at b (at - 1)).parent
  unfolding columns_up
  up_turn steps zero g h = absurd (g refl)
  up_turn steps (suc i) g h =
      let k : suc i - 1 ≡ i = omega arith in
      cond_yes _ _ (lt-ltb i 15 (omega arith))
      ∙ ap (λ (j : ℕ). column_of p (get_or q.placement (suc i) no_placement) (body_at b j).joint ++ columns_up b q p steps (body_at b j).parent) (sym k)

  -- step i of n, at a joint whose columns are l
  pub turns : (n i at : ℕ) → i < n → (at ≡ 0 → ⊥) → at ≤ 15 → {l : List Column} → l ≡ column_of p (get_or q.placement at no_placement) (body_at b (at - 1)).joint
      → columns_up b q p (n - i) at ≡ l ++ columns_up b q p (n - (i + 1)) (body_at b (at - 1)).parent
  turns n i at h g e f =
      let k : n - i ≡ suc (n - (i + 1)) = omega arith in
      rw k (up_turn (n - (i + 1)) at g e ∙ ap (λ (x : List Column). x ++ columns_up b q p (n - (i + 1)) (body_at b (at - 1)).parent) (sym f))

  -- a column for each step at most
  one-column : (placed : Placement) (j : Joint) → length (column_of p placed j) ≤ 1
  one-column placed Ground = omega arith
  one-column placed (Revolute pivot c) = omega arith
  one-column placed (Prismatic origin axis c) = omega arith

  pub few-columns : (steps at : ℕ) → length (columns_up b q p steps at) ≤ steps
  unfolding columns_up
  few-columns zero at = omega arith
  few-columns (suc steps) zero = omega arith
  few-columns (suc steps) (suc i) = go (ltb i 15) (few-columns steps (body_at b i).parent)
    where
      go : (t : Bool) → length (columns_up b q p steps (body_at b i).parent) ≤ steps
          → length (cond t (column_of p (get_or q.placement (suc i) no_placement) (body_at b i).joint ++ columns_up b q p steps (body_at b i).parent) []) ≤ suc steps
      go true h = rw (length-append (column_of p (get_or q.placement (suc i) no_placement) (body_at b i).joint) (columns_up b q p steps (body_at b i).parent)) (omega (arith, one-column (get_or q.placement (suc i) no_placement) (body_at b i).joint))
      go false h = omega arith

-- the columns that stand in the array
pub taken : (l : List Column) → length l ≤ 15 → take (columns_in l).count (columns_in l).column ≡ l
taken l h =
    let z : 0 + length l ≡ length l = native.Mathlib.Nat.zero-add (length l) in
    ap (take (length l)) (sets-eq l (replicate 15 no_column) 0 (omega arith)) ∙ take-append_seam l (drop (0 + length l) (replicate 15 no_column))

-- the array and the number of columns that a walk leaves
pub columns_done : {all out rest : List Column} {n : ℕ} → rest ≡ [] → Writing (replicate 15 no_column) 0 all out n rest → record { count = n; column = out } ≡ columns_in all
columns_done {all} {out} {rest} {n} e w = ap₂ made (ends-count e w ∙ native.Mathlib.Nat.zero-add (length all)) (ends e w)
  where
    made : ℕ → List Column → Columns
    made k l = record { count = k; column = l }

-- ---- what public calls put together
pub numbered : (b : Bodies) (n : ℕ) → (n ≡ 0 → ⊥) → body_at b (n - 1) ≡ body_numbered b n
numbered b zero h = absurd (h refl)
numbered b (suc i) h = let k : suc i - 1 ≡ i = omega arith in ap (body_at b) k

-- ---- column_for
pub columns_fit : (k : Columns) (l : List Column) → k ≡ columns_in l → length l ≤ 15 → (k.count ≤ 15) × (k.count ≤ length k.column)
columns_fit k l e h =
    let n = ap (λ (x : Columns). x.count) e in
    let m = ap (λ (x : Columns). length x.column) e ∙ length-sets (replicate 15 no_column) 0 l in
    (omega arith, omega arith)

-- what is read back of the columns that a walk left
pub columns-read : (b : Bodies) (q : Pose) (p : Point) (body : ℕ) (k : Columns) → k ≡ columns_in (columns_of b q p body)
    → ((k.count ≤ 15) × (k.count ≤ length k.column)) × (take k.count k.column ≡ columns_of b q p body)
columns-read b q p body k e =
    let h = few-columns b q p 15 body in
    (columns_fit k (columns_of b q p body) e h, ap (λ (x : Columns). take x.count x.column) e ∙ taken (columns_of b q p body) h)
