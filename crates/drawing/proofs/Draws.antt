-- Laws of the polygons of chosen parts, drawn one behind the other. Assumes nothing.
use Prim.Native.Nat.{ℕ, suc, ◌+◌, ◌-◌, ◌<◌, ◌≤◌}
use native.Mathlib.Omega.{arith}
use native.Mathlib.Nat.{add-zero, add_assoc, sub-zero}
use mathlib.Core.Path.{◌≡◌, refl, sym, ap, ap₂, ◌∙◌}
use mathlib.Core.Bool.{Bool, true, false, cond}
use mathlib.Core.List.{List, [], ◌∷◌, ◌++◌, map, map-append}
use lib.Dec.{eqb}
use lib.Ieee.{Float}
use lib.ListN.{length, get_or, set, length-map, length-append, length-set}
use lib.Seq.{sets, length-sets}
use borrow.Author.Tests.{eqb-true}
use Rattle.laws.specs.Lists.{flat}
use Rattle.laws.specs.Loops.{fold_in, filter_in, Writing}
use Rattle.laws.proofs.Choice.{cond_yes, cond_no}
use Rattle.laws.proofs.Lists.{filter-count, flat_append, flat_map, flat-none, filter-within}
use Rattle.laws.proofs.Loops.{filter-yes, filter-no, filter-done}
use Rattle.laws.proofs.Sums.{sums_within, sum_ones}
use Rattle.laws.proofs.Writing.{starts, puts, goes_on, appends-map, ends, ends-count, sets-append}
use Rattle.geometry.specs.declared.Point.{Point}
use Rattle.mechanism.specs.Description.{sum_in}
use Rattle.drawing.specs.Drawing.{Laid, chosen_as, chosen_polygons, row_of, same, rows_of, ends_from, starts_of, cursor_after, counts_of}
use Rattle.drawing.specs.declared.Chosen.{Chosen}
use Rattle.drawing.specs.declared.Polygons.{Polygons}
use Rattle.drawing.specs.declared.outlined.Cursor.{Cursor}

-- a part is no solid and cut at once
pub one_of : (x a : ℕ) → cond (eqb x 1) a 0 + cond (eqb x 2) a 0 ≤ a
one_of x a = go (eqb x 1) (eqb x 2) refl refl
  where
    go : (b d : Bool) → eqb x 1 ≡ b → eqb x 2 ≡ d → cond b a 0 + cond d a 0 ≤ a
    go true true e f = absurd (let g = eqb-true x 1 e in let h = eqb-true x 2 f in omega (arith, g, h))
    go true false e f = omega arith
    go false true e f = omega arith
    go false false e f = omega arith

pub cond_below : (a : ℕ) (b : Bool) → cond b a 0 ≤ a
cond_below a true = omega arith
cond_below a false = omega arith

-- ---- where polygons end
pub ends-length : (polys : List (List Point)) (a : ℕ) → length (ends_from a polys) ≡ length polys
unfolding ends_from
ends-length [] a = refl
ends-length (p ∷ polys) a = ap suc (ends-length polys (a + length p))

pub ends-append : (xs ys : List (List Point)) (a : ℕ) → ends_from a (xs ++ ys) ≡ ends_from a xs ++ ends_from (a + length (flat same xs)) ys
unfolding ends_from flat
ends-append [] ys a = ap (λ (n : ℕ). ends_from n ys) (sym (add-zero a))
ends-append (p ∷ xs) ys a =
    ap (λ (l : List ℕ). (a + length p) ∷ l)
    (ends-append xs ys (a + length p)
    ∙ ap (λ (n : ℕ). ends_from (a + length p) xs ++ ends_from n ys) (add_assoc a (length p) (length (flat same xs)) ∙ ap (λ (n : ℕ). a + n) (sym (length-append p (flat same xs)))))

pub ends-none : {polys : List (List Point)} (a : ℕ) → polys ≡ [] → ends_from a polys ≡ []
unfolding ends_from
ends-none a e = ap (ends_from a) e

pub ends-first : {polys : List (List Point)} {b : ℕ} (a : ℕ) (p : List Point) (rest : List (List Point)) → polys ≡ p ∷ rest → b ≡ a + length p
    → ends_from a polys ≡ b ∷ ends_from b rest
unfolding ends_from
ends-first a p rest e f = ap (ends_from a) e ∙ ap (λ (n : ℕ). n ∷ ends_from n rest) (sym f)

pub flat-first : {polys : List (List Point)} (p : List Point) (rest : List (List Point)) → polys ≡ p ∷ rest → flat same polys ≡ p ++ flat same rest
unfolding flat
flat-first p rest e = ap (flat same) e

-- ---- polygons that a loop draws: those of the chosen ones of n parts
module _ (n : ℕ) (poly : ℕ → List Point) (c : Chosen) (w : ℕ) where
  abbrev pub whole : List (List Point)
  whole = chosen_polygons poly n c w

  -- those from i on
  abbrev pub left : ℕ → List (List Point)
  left i = map poly (filter_in (chosen_as c w) (n - i) i)

  pub record Draws (points₀ : List (List Float)) (starts₀ : List ℕ) (at₀ k₀ : ℕ) (points : List (List Float)) (starts : List ℕ) (at k i : ℕ) : Type 0 where
    pub far : i ≤ n
    pub drawn : Writing points₀ at₀ (rows_of whole) points at (rows_of (left i))
    pub marked : Writing starts₀ (k₀ + 1) (ends_from at₀ whole) starts (k + 1) (ends_from at (left i))

  pub draws_start : (points : List (List Float)) (st : List ℕ) (at k : ℕ) → Draws points st at k points st at k 0
  draws_start points st at k =
      let e : left 0 ≡ whole = ap (λ (m : ℕ). map poly (filter_in (chosen_as c w) m 0)) (sub-zero n) in
      record { far = omega arith; drawn = starts (ap rows_of e); marked = starts (ap (ends_from at) e) }

  module _ {points₀ : List (List Float)} {starts₀ : List ℕ} {at₀ k₀ : ℕ} {points : List (List Float)} {st : List ℕ} {at k i : ℕ}
      (d : Draws points₀ starts₀ at₀ k₀ points st at k i) where
    next : i < n → chosen_as c w i ≡ true → left i ≡ poly i ∷ left (i + 1)
    next h e = ap (map poly) (filter-yes (chosen_as c w) n i h e)

    pub draws_room : i < n → chosen_as c w i ≡ true → at₀ + length (rows_of whole) ≤ length points₀ → at + length (poly i) ≤ length points
    draws_room h e r =
        let l = d.drawn.long in
        let a = d.drawn.counted in
        let f = ap length (ap rows_of (next h e)) in
        let g = length-map (flat same (poly i ∷ left (i + 1))) row_of ∙ ap length (flat-first (poly i) (left (i + 1)) refl) ∙ length-append (poly i) (flat same (left (i + 1))) in
        omega (arith, l, a, f, g, r)

    pub draws_place : i < n → chosen_as c w i ≡ true → k₀ + length whole < length starts₀ → k + 1 < length st
    draws_place h e r =
        let l = d.marked.long in
        let a = d.marked.counted in
        let f = ends-length (left i) at in
        let g = ap length (next h e) in
        let b = ends-length whole at₀ in
        omega (arith, l, a, f, g, b, r)

    pub draws_more : {points' : List (List Float)} {at' : ℕ} → i < n → chosen_as c w i ≡ true
        → (at' ≡ at + length (poly i)) × (points' ≡ sets points at (map row_of (poly i)))
        → Draws points₀ starts₀ at₀ k₀ points' (set st (k + 1) at') at' (k + 1) (i + 1)
    draws_more {points'} {at'} h e f =
        let t = next h e in
        record {
          far = omega arith;
          drawn = appends-map row_of (poly i) (flat same (left (i + 1))) (flat-first (poly i) (left (i + 1)) t) f.1 f.0 d.drawn;
          marked = puts (ends-first at (poly i) (left (i + 1)) t f.0) d.marked;
        }

    pub draws_skip : i < n → chosen_as c w i ≡ false → Draws points₀ starts₀ at₀ k₀ points st at k (i + 1)
    draws_skip h e =
        let t : left i ≡ left (i + 1) = ap (map poly) (filter-no (chosen_as c w) n i h e) in
        record { far = omega arith; drawn = goes_on (ap rows_of t) d.drawn; marked = goes_on (ap (ends_from at) t) d.marked }

    none_left : n ≤ i → left i ≡ []
    none_left h = ap (map poly) (filter-done (chosen_as c w) n i h)

    pub draws_at : n ≤ i → at ≡ at₀ + length (flat same whole)
    draws_at h = ends-count (ap (map row_of) (flat-none same (none_left h))) d.drawn ∙ ap (λ (m : ℕ). at₀ + m) (length-map (flat same whole) row_of)

    pub draws_count : n ≤ i → k ≡ k₀ + length whole
    draws_count h =
        let e = ends-count (ends-none at (none_left h)) d.marked in
        let l = ends-length whole at₀ in
        omega (arith, e, l)

    pub draws_points : n ≤ i → points ≡ sets points₀ at₀ (rows_of whole)
    draws_points h = ends (ap (map row_of) (flat-none same (none_left h))) d.drawn

    pub draws_starts : n ≤ i → st ≡ sets starts₀ (k₀ + 1) (ends_from at₀ whole)
    draws_starts h = ends (ends-none at (none_left h)) d.marked

-- ---- solids and cuts together are no more than all
module _ (n : ℕ) (poly : ℕ → List Point) (c : Chosen) where
  abbrev solids : List (List Point)
  solids = chosen_polygons poly n c 1

  abbrev cuts : List (List Point)
  cuts = chosen_polygons poly n c 2

  chosen-long : (most : ℕ → ℕ) → ((i : ℕ) → length (poly i) ≤ most i) → (w : ℕ)
      → length (flat same (chosen_polygons poly n c w)) ≤ fold_in (λ s i. s + cond (chosen_as c w i) (most i) 0) 0 n 0
  chosen-long most h w =
      let b = ap length (flat_map same poly (filter_in (chosen_as c w) n 0)) in
      let f = filter-within (chosen_as c w) poly most h n 0 in
      omega (arith, b, f)

  -- where part i has `most i` points at most
  pub points-within : (most : ℕ → ℕ) → ((i : ℕ) → length (poly i) ≤ most i) → length (flat same (solids ++ cuts)) ≤ sum_in most n 0
  points-within most h =
      let a = chosen-long most h 1 in
      let b = chosen-long most h 2 in
      let s = sums_within (λ i. cond (chosen_as c 1 i) (most i) 0) (λ i. cond (chosen_as c 2 i) (most i) 0) most (λ i. one_of (get_or c.what i 0) (most i)) n 0 in
      let l = ap length (flat_append same solids cuts) ∙ length-append (flat same solids) (flat same cuts) in
      omega (arith, a, b, s, l)

  pub polygons-within : length solids + length cuts ≤ n
  polygons-within =
      let a = length-map (filter_in (chosen_as c 1) n 0) poly ∙ filter-count (chosen_as c 1) n 0 in
      let b = length-map (filter_in (chosen_as c 2) n 0) poly ∙ filter-count (chosen_as c 2) n 0 in
      let s = sums_within (λ i. cond (chosen_as c 1 i) 1 0) (λ i. cond (chosen_as c 2 i) 1 0) (λ i. 1) (λ i. one_of (get_or c.what i 0) 1) n 0 in
      let o = sum_ones n 0 in
      omega (arith, a, b, s, o)

pub rows_append : (xs ys : List (List Point)) → rows_of (xs ++ ys) ≡ rows_of xs ++ rows_of ys
rows_append xs ys = ap (map row_of) (flat_append same xs ys) ∙ map-append row_of (flat same xs) (flat same ys)

-- both drawn, the one behind the other
pub points_both : (xs ys : List (List Point)) (out : List (List Float)) → sets (sets out 0 (rows_of xs)) (0 + length (flat same xs)) (rows_of ys) ≡ sets out 0 (rows_of (xs ++ ys))
points_both xs ys out =
    ap (λ (n : ℕ). sets (sets out 0 (rows_of xs)) (0 + n) (rows_of ys)) (sym (length-map (flat same xs) row_of))
    ∙ sym (sets-append (rows_of xs) (rows_of ys) out 0) ∙ ap (sets out 0) (sym (rows_append xs ys))

pub starts-both : (xs ys : List (List Point)) (out : List ℕ)
    → sets (sets (set out 0 0) (0 + 1) (ends_from 0 xs)) (0 + length xs + 1) (ends_from (0 + length (flat same xs)) ys) ≡ sets out 0 (starts_of (xs ++ ys))
starts-both xs ys out =
    let l : 0 + length xs + 1 ≡ 1 + length (ends_from 0 xs) = let e = ends-length xs 0 in omega (arith, e) in
    ap (λ (n : ℕ). sets (sets (set out 0 0) 1 (ends_from 0 xs)) n (ends_from (0 + length (flat same xs)) ys)) l
    ∙ sym (sets-append (ends_from 0 xs) (ends_from (0 + length (flat same xs)) ys) (set out 0 0) 1)
    ∙ ap (sets (set out 0 0) 1) (sym (ends-append xs ys 0))

pub counts-both : (xs ys : List (List Point)) → 0 + length (flat same xs) + length (flat same ys) ≡ length (flat same (xs ++ ys))
counts-both xs ys =
    let a = length-append (flat same xs) (flat same ys) in
    let b = ap length (flat_append same xs ys) in
    omega (arith, a, b)

-- ---- `draw_chosen`: the solids from the front on, the cuts behind them
abbrev front : Cursor
front = record { at = 0; count = 0 }

abbrev After : Cursor → List (List Point) → List (List Float) → List ℕ → Cursor → List (List Float) → List ℕ → Type 0
After from polys points₀ starts₀ to points starts =
    (to ≡ cursor_after from polys) × (points ≡ sets points₀ from.at (rows_of polys)) × (starts ≡ sets starts₀ (from.count + 1) (ends_from from.at polys))

module _ (solids cuts : List (List Point)) (points₀ : List (List Float)) (starts₀ : List ℕ) (few : length solids + length cuts ≤ 32)
    (fits : length (rows_of (solids ++ cuts)) ≤ length points₀) (wide : 33 ≤ length starts₀) where
  long : length (rows_of (solids ++ cuts)) ≡ length (rows_of solids) + length (rows_of cuts)
  long = ap length (rows_append solids cuts) ∙ length-append (rows_of solids) (rows_of cuts)

  pub first-asks : (0 + length (rows_of solids) ≤ length points₀) × (0 + length solids < length (set starts₀ 0 0))
  first-asks =
      let a = long in
      let k = length-set starts₀ 0 0 in
      (omega (arith, a, fits), omega (arith, few, k, wide))

  module _ {r : Cursor} {points : List (List Float)} {st : List ℕ} (first : After front solids points₀ (set starts₀ 0 0) r points st) where
    first-at : r.at ≡ 0 + length (flat same solids)
    first-at = ap (λ (x : Cursor). x.at) first.0

    first_count : r.count ≡ 0 + length solids
    first_count = ap (λ (x : Cursor). x.count) first.0

    points_long : length points ≡ length points₀
    points_long = ap length first.1 ∙ length-sets points₀ 0 (rows_of solids)

    starts-long : length st ≡ length starts₀
    starts-long = ap length first.2 ∙ length-sets (set starts₀ 0 0) 1 (ends_from 0 solids) ∙ length-set starts₀ 0 0

    pub second-asks : (r.at + length (rows_of cuts) ≤ length points) × (r.count + length cuts < length st)
    second-asks =
        let a = long in
        let d = first-at in
        let l = length-map (flat same solids) row_of in
        let e = first_count in
        let f = points_long in
        let g = starts-long in
        (omega (arith, a, d, l, f, fits), omega (arith, few, e, g, wide))

    module _ {t : Cursor} {points' : List (List Float)} {st' : List ℕ} (second : After r cuts points st t points' st') where
      pub all-starts-long : length st' ≡ length starts₀
      all-starts-long = ap length second.2 ∙ length-sets st (r.count + 1) (ends_from r.at cuts) ∙ starts-long

      pub all-points_long : length points' ≡ length points₀
      all-points_long = ap length second.1 ∙ length-sets points r.at (rows_of cuts) ∙ points_long

      abbrev made : ℕ → ℕ → ℕ → Polygons
      made a b n = record { solids = a; all = b; points = n }

      all-counted : made r.count t.count t.at ≡ counts_of true solids cuts
      all-counted =
          let s = first_count in
          let e : t.count ≡ r.count + length cuts = ap (λ (x : Cursor). x.count) second.0 in
          let f : t.at ≡ r.at + length (flat same cuts) = ap (λ (x : Cursor). x.at) second.0 in
          let p = first-at in
          let b = counts-both solids cuts in
          let u : r.count ≡ length solids = omega (arith, s) in
          let v : t.count ≡ length solids + length cuts = omega (arith, s, e) in
          let w : t.at ≡ length (flat same (solids ++ cuts)) = omega (arith, f, p, b) in
          ap (λ (n : ℕ). made n t.count t.at) u ∙ ap (λ (n : ℕ). made (length solids) n t.at) v
          ∙ ap (λ (n : ℕ). made (length solids) (length solids + length cuts) n) w

      pub all-drawn : (record { solids = r.count; all = t.count; points = t.at } ≡ counts_of true solids cuts)
          × (points' ≡ sets points₀ 0 (rows_of (solids ++ cuts))) × (st' ≡ sets starts₀ 0 (starts_of (solids ++ cuts)))
      all-drawn = (
        all-counted,
        second.1 ∙ ap₂ (λ (l : List (List Float)) (n : ℕ). sets l n (rows_of cuts)) first.1 first-at ∙ points_both solids cuts points₀,
        second.2 ∙ ap₂ (λ (l : List ℕ) (x : Cursor). sets l (x.count + 1) (ends_from x.at cuts)) first.2 first.0 ∙ starts-both solids cuts starts₀,
      )

-- ---- what a caller says who asked first whether there is room
module _ (t : Bool) (points₀ : List (List Float)) (starts₀ : List ℕ) (xs ys : List (List Point)) where
  pub some-drawn : {n : Polygons} {points : List (List Float)} {st : List ℕ} → t ≡ true
      → (n ≡ counts_of true xs ys) × (points ≡ sets points₀ 0 (rows_of (xs ++ ys))) × (st ≡ sets starts₀ 0 (starts_of (xs ++ ys))) → Laid t xs ys points₀ starts₀ n points st
  some-drawn e d = (d.0 ∙ ap (λ (b : Bool). counts_of b xs ys) (sym e), d.1 ∙ sym (cond_yes _ _ e), d.2 ∙ sym (cond_yes _ _ e))

  pub none-drawn : {n : Polygons} → t ≡ false → n ≡ record { solids = 0; all = 0; points = 0 } → Laid t xs ys points₀ starts₀ n points₀ starts₀
  none-drawn e d = (d ∙ ap (λ (b : Bool). counts_of b xs ys) (sym e), sym (cond_no _ _ e), sym (cond_no _ _ e))
