-- Columns added to the floats of a part of a list, each at its coordinate. Assumes nothing.
use Prim.Native.Nat.{ℕ, zero, suc, ◌+◌, ◌*◌, ◌<◌, ◌≤◌}
use native.Mathlib.Omega.{arith}
use native.Mathlib.Numerals.{add-one}
use native.Mathlib.Nat.{add-mul}
use mathlib.Core.Path.{◌≡◌, refl, sym, ap, ap₂, ◌∙◌}
use mathlib.Core.List.{List, [], ◌∷◌}
use lib.Ieee.{Float, nan}
use lib.ListN.{length, get_or, set, take, drop, replicate, length-set, length-replicate}
use lib.Seq.{sets, take-suc, take_all}
use Rattle.laws.specs.Lists.{foldl}
use Rattle.laws.proofs.Lists.{foldl-append}
use Rattle.geometry.specs.declared.Point.{Point}
use Rattle.bodies.specs.Pose.{columns_of, columns_in}
use Rattle.bodies.specs.declared.Bodies.{Bodies}
use Rattle.bodies.specs.declared.pose.Column.{Column}
use Rattle.bodies.specs.declared.pose.Columns.{Columns}
use Rattle.bodies.specs.declared.pose.Pose.{Pose}
use Rattle.bodies.proofs.Walk.{few-columns, columns_fit, taken}
use Rattle.bodies.specs.contracts.pose.Column as C
use Rattle.bodies.specs.contracts.pose.Columns as K
use Rattle.ieee.specs.Consts.{zero_f}
use Rattle.ieee.specs.Operators.{◌⊕◌, ◌⊖◌}
use Rattle.geometry.specs.Signed.{dot_of}
use Rattle.pair_rows.specs.PairRows.{add_into, sub_from, along_of}
use Rattle.pair_rows.proofs.Store.{sets-get, sets-set, sets_then, part-long, part_same}

-- one column taken in: f of what stands at its coordinate
abbrev pub step_by : (Float → Column → Float) → List Float → Column → List Float
step_by f g k = set g k.coord (f (get_or g k.coord nan) k)

pub step-long : (f : Float → Column → Float) (l : List Column) (g : List Float) → length (foldl (step_by f) g l) ≡ length g
unfolding foldl
step-long f [] g = refl
step-long f (k ∷ l) g = step-long f l (step_by f g k) ∙ length-set g k.coord (f (get_or g k.coord nan) k)

-- a coordinate past the end changes nothing
pub set_past : (g : List Float) (i : ℕ) (x : Float) → length g ≤ i → set g i x ≡ g
set_past [] i x h = refl
set_past (y ∷ g) zero x h = absurd (omega arith)
set_past (y ∷ g) (suc i) x h = ap (λ (l : List Float). y ∷ l) (set_past g i x (omega arith))

-- ---- A loop over columns: the first i are taken in, into the n floats from `at` on.
pub record Summed (f : Float → Column → Float) (cols : List Column) (n at : ℕ) (out₀ out : List Float) (i : ℕ) : Type 0 where
  pub sum : out ≡ sets out₀ at (foldl (step_by f) (take n (drop at out₀)) (take i cols))

pub summed_start : (f : Float → Column → Float) (cols : List Column) (n at : ℕ) (out : List Float) → at + n ≤ length out → Summed f cols n at out out 0
unfolding foldl
summed_start f cols n at out h = record { sum = part_same out at n h }

module _ {f : Float → Column → Float} {cols : List Column} {n at : ℕ} {out₀ out : List Float} {i : ℕ} (w : Summed f cols n at out₀ out i) where
  pub summed_end : length cols ≤ i → out ≡ sets out₀ at (foldl (step_by f) (take n (drop at out₀)) cols)
  summed_end h = w.sum ∙ ap (λ (l : List Column). sets out₀ at (foldl (step_by f) (take n (drop at out₀)) l)) (take_all i cols h)

  module _ (d : Column) (h : i < length cols) (room : at + n ≤ length out₀) where
    abbrev next : Column
    next = get_or cols i d

    abbrev sum-so_far : List Float
    sum-so_far = foldl (step_by f) (take n (drop at out₀)) (take i cols)

    long : length sum-so_far ≡ n
    long = step-long f (take i cols) (take n (drop at out₀)) ∙ part-long out₀ at n room

    turn : foldl (step_by f) (take n (drop at out₀)) (take (i + 1) cols) ≡ step_by f sum-so_far next
    unfolding foldl
    turn =
        ap (λ (j : ℕ). foldl (step_by f) (take n (drop at out₀)) (take j cols)) (add-one i)
        ∙ ap (foldl (step_by f) (take n (drop at out₀))) (take-suc cols i d h)
        ∙ foldl-append (step_by f) (take n (drop at out₀)) (take i cols) (next ∷ [])

    -- a column whose coordinate is not one of the n
    pub summed_skip : n ≤ next.coord → Summed f cols n at out₀ out (i + 1)
    summed_skip b =
        let e = long in
        record { sum = w.sum ∙ ap (sets out₀ at) (sym (turn ∙ set_past sum-so_far next.coord (f (get_or sum-so_far next.coord nan) next) (omega (arith, e, b)))) }

    pub summed_more : next.coord < n → Summed f cols n at out₀ (set out (at + next.coord) (f (get_or out (at + next.coord) nan) next)) (i + 1)
    summed_more b =
        let e = long in
        let fits : at + length sum-so_far ≤ length out₀ = omega (arith, e, room) in
        let inside : next.coord < length sum-so_far = omega (arith, e, b) in
        record {
          sum = ap (λ (m : List Float). set m (at + next.coord) (f (get_or m (at + next.coord) nan) next)) w.sum
              ∙ ap (λ (x : Float). set (sets out₀ at sum-so_far) (at + next.coord) (f x next)) (sets-get sum-so_far out₀ at fits next.coord nan inside)
              ∙ sets-set sum-so_far out₀ at fits next.coord (f (get_or sum-so_far next.coord nan) next) inside
              ∙ ap (sets out₀ at) (sym turn);
        }

-- ---- the columns of one chain added to zeros, then those of another subtracted
pub along-is : (f g : Float → Column → Float) (ka kb : List Column) (z : Float) (at n : ℕ) (out₀ out₁ out₂ out₃ : List Float) → at + n ≤ length out₀
    → out₁ ≡ sets out₀ at (replicate n z)
    → out₂ ≡ sets out₁ at (foldl (step_by f) (take n (drop at out₁)) ka)
    → out₃ ≡ sets out₂ at (foldl (step_by g) (take n (drop at out₂)) kb)
    → out₃ ≡ sets out₀ at (foldl (step_by g) (foldl (step_by f) (replicate n z) ka) kb)
along-is f g ka kb z at n out₀ out₁ out₂ out₃ h p q r =
    let a = sets_then (λ x. foldl (step_by f) x ka) (replicate n z) out₀ out₁ out₂ at n (step-long f ka) (length-replicate n z) h p q in
    sets_then (λ x. foldl (step_by g) x kb) (foldl (step_by f) (replicate n z) ka) out₀ out₂ out₃ at n (step-long g kb) (step-long f ka (replicate n z) ∙ length-replicate n z) h a r

-- of the columns that the code has found
module _ (b : Bodies) (q : Pose) (p : Point) (body : ℕ) (k : Columns) (e : k ≡ columns_in (columns_of b q p body)) where
  pub found-few : k.count ≤ 15
  found-few = (columns_fit k (columns_of b q p body) e (few-columns b q p 15 body)).0

  pub found-are : take k.count k.column ≡ columns_of b q p body
  found-are = ap (λ (x : Columns). take x.count x.column) e ∙ taken (columns_of b q p body) (few-columns b q p 15 body)

-- what is written with the columns found of two bodies
pub along-found : (b : Bodies) (q : Pose) (v p : Point) (x y : ℕ) (ka kb : Columns) → ka ≡ columns_in (columns_of b q p x) → kb ≡ columns_in (columns_of b q p y)
    → foldl (sub_from v) (foldl (add_into v) (replicate b.coords zero_f) (take ka.count ka.column)) (take kb.count kb.column) ≡ along_of b q v p x y
along-found b q v p x y ka kb e f =
    ap₂ (λ (l m : List Column). foldl (sub_from v) (foldl (add_into v) (replicate b.coords zero_f) l) m) (found-are b q p x ka e) (found-are b q p y kb f)

-- one float a coordinate
pub along-long : (b : Bodies) (q : Pose) (v p : Point) (x y : ℕ) → length (along_of b q v p x y) ≡ b.coords
along-long b q v p x y =
    step-long (λ r k. r ⊖ dot_of v k.column) (columns_of b q p y) (foldl (add_into v) (replicate b.coords zero_f) (columns_of b q p x))
    ∙ step-long (λ r k. r ⊕ dot_of v k.column) (columns_of b q p x) (replicate b.coords zero_f) ∙ length-replicate b.coords zero_f

-- row number `at` of c floats each
pub next_row : (at c n : ℕ) → (at + 1) * c ≤ n → at * c + c ≤ n
next_row at c n h = let e = add-mul at 1 c in omega (arith, e, h)
