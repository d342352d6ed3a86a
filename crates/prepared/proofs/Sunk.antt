-- The deepest sample of the parts of a side, read over the tables of parts and points. Assumes nothing.
use Prim.Native.Nat.{ℕ, zero, suc, ◌+◌, ◌<◌}
use native.Mathlib.Omega.{arith}
use native.Mathlib.Nat.{zero-add}
use mathlib.Core.Path.{◌≡◌, refl, ap, ◌∙◌}
use mathlib.Core.Bool.{Bool, true, false, cond, ◌&&◌, false≢true}
use mathlib.Core.List.{List, ◌∷◌}
use lib.Dec.{eqb}
use lib.Ieee.{Float}
use Rattle.laws.specs.Lists.{foldl}
use Rattle.laws.specs.Loops.{filter_in}
use Rattle.laws.proofs.Lists.{list_get, filter_same}
use Rattle.ieee.specs.Consts.{zero_f}
use Rattle.geometry.specs.declared.Point.{Point}
use Rattle.mechanism.specs.Check.{FewParts}
use Rattle.mechanism.specs.Description.{part_at}
use Rattle.mechanism.specs.declared.Outlines.{Outlines}
use Rattle.mechanism.specs.declared.Parts.{Parts}
use Rattle.mechanism.specs.declared.pair.Surface.{Surface}
use Rattle.bodies.specs.declared.pose.Pose.{Pose}
use Rattle.strips.specs.Strips.{TableRows}
use Rattle.material.specs.Material.{Material, deepest_of}
use Rattle.drawing.specs.Drawing.{is_own, is_sampled, chosen_as}
use Rattle.drawing.specs.Samples.{mouths_of, part_samples}
use Rattle.drawing.specs.declared.Chosen.{Chosen}
use Rattle.overlap.specs.Overlap.{owner_in, sunk_of}
use Rattle.overlap.specs.Prepared.{samples_in, sunk_in}
use Rattle.tables.specs.Tables.{sampled_row}
use Rattle.drawing.specs.Points.{Agrees, sampled_table, part_table}
use Rattle.drawing.proofs.ReadBack.{parts-in, samples_read}

-- ---- a fold over the indexes that pass, with two lists that are the same at each of them
module _ (step : Float → List Point → Float) (f g : ℕ → List Point) (p : ℕ → Bool) where
  pub fold_passed : (k j : ℕ) (d : Float) → ((i : ℕ) → i < j + k → p i ≡ true → f i ≡ g i) → foldl (λ x i. step x (f i)) d (filter_in p k j) ≡ foldl (λ x i. step x (g i)) d (filter_in p k j)
  unfolding foldl filter_in
  fold_passed zero j d e = refl
  fold_passed (suc k) j d e = go (p j) (e j (omega arith)) (λ x. fold_passed k (suc j) x (λ i h. e i (omega arith)))
    where
      go : (b : Bool) → (b ≡ true → f j ≡ g j) → ((x : Float) → foldl (λ x i. step x (f i)) x (filter_in p k (suc j)) ≡ foldl (λ x i. step x (g i)) x (filter_in p k (suc j)))
          → foldl (λ x i. step x (f i)) d (cond b (j ∷ filter_in p k (suc j)) (filter_in p k (suc j))) ≡ foldl (λ x i. step x (g i)) d (cond b (j ∷ filter_in p k (suc j)) (filter_in p k (suc j)))
      go true s r = r (step d (f j)) ∙ ap (λ (l : List Point). foldl (λ x i. step x (g i)) (step d l) (filter_in p k (suc j))) (s refl)
      go false s r = r d

-- ---- the parts chosen as 1 are those of the side that are sampled
is_one : (a b : Bool) → eqb (cond a (cond b 1 0) 0) 1 ≡ (a && b)
is_one true true = refl
is_one true false = refl
is_one false b = refl

and_second : (a b : Bool) → (a && b) ≡ true → b ≡ true
and_second true b e = e
and_second false b e = absurd (false≢true e)

abbrev pub sampled_of_side : Parts → Surface → Chosen
sampled_of_side ps u = record { what = sampled_row ps u }

pub owner-is : (ps : Parts) (u : Surface) (i : ℕ) → i < 32 → chosen_as (sampled_of_side ps u) 1 i ≡ owner_in ps u i
owner-is ps u i h =
    let f : ℕ → ℕ = λ k. cond (is_own u k) (cond (is_sampled (part_at ps k)) 1 0) 0 in
    ap (λ (x : ℕ). eqb x 1) (list_get f 0 32 0 i h ∙ ap f (zero-add i)) ∙ is_one (is_own u i) (is_sampled (part_at ps i))

-- ---- the deepest sample
pub sunk_read : (ps : Parts) (o : Outlines) → FewParts ps → (t : TableRows) → t.parts ≡ part_table ps o → (q : Pose) → Agrees t.sampled (sampled_table ps o) → (u : Surface) (m : Material)
    → sunk_in t q (sampled_of_side ps u) m ≡ sunk_of ps o q (owner_in ps u) m
unfolding sunk_in samples_in
sunk_read ps o few t stands q agree u m =
    let n = few.count in
    let deeper : Float → ℕ → Float = λ d i. deepest_of m d (samples_in t q i) in
    ap (λ (k : ℕ). foldl deeper zero_f (filter_in (chosen_as (sampled_of_side ps u) 1) k 0)) (parts-in ps o few t stands)
    ∙ ap (foldl deeper zero_f) (filter_same (chosen_as (sampled_of_side ps u) 1) (owner_in ps u) ps.count 0 (λ i l. owner-is ps u i (omega (arith, l, n))))
    ∙ fold_passed (deepest_of m) (samples_in t q) (part_samples ps o q (mouths_of ps o)) (owner_in ps u) ps.count 0 zero_f
    (λ i l k. samples_read ps o few t stands q i (omega (arith, l)) agree (and_second (is_own u i) (is_sampled (part_at ps i)) k))
