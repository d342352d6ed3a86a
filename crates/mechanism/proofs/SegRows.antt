-- Segments as rows of numbers: a row read back is its segment, and rows that are written hold the first segments. Assumes nothing.
use Prim.Native.Nat.{ℕ, ◌+◌, ◌<◌, ◌≤◌}
use native.Mathlib.Omega.{arith}
use mathlib.Core.Path.{◌≡◌, refl, sym, ap, subst, ◌∙◌}
use mathlib.Core.List.{List, [], ◌∷◌, map}
use mathlib.Core.Bool.{true, cond}
use lib.Dec.{leb}
use lib.Ieee.{Float, eq, of_bits}
use lib.ListN.{length, get_or, take, drop, length-map, drop_of_length-le, get_or-map, get_or-eq_default}
use lib.Seq.{sets, length-sets, length-take-le, get_or-take}
use borrow.Author.Tests.{leb-true, le-leb}
use Rattle.laws.proofs.Choice.{both, and_yes, cond_yes}
use Rattle.laws.proofs.Fill.{map-drop}
use Rattle.laws.proofs.Lists.{get_d_any}
use Rattle.laws.proofs.Writing.{sets-taken}
use Rattle.ieee.proofs.Values.{the_nan}
use Rattle.geometry.specs.declared.Seg.{Seg}
use Rattle.geometry.specs.declared.Seg.TheVariants.{Line, Arc}
use Rattle.mechanism.specs.Description.{no_seg, seg_at}
use Rattle.mechanism.specs.Segments.{seg_row, seg_from, outline_seg_from, outlines_in, row_of_seg, seg_rows, segs_fit, SameSegs}
use Rattle.mechanism.specs.declared.Outlines.{Outlines}
use Rattle.mechanism.specs.declared.part.OutlineSeg.{OutlineSeg}

-- ---- a row
pub seg-back : (s : Seg) → seg_from (seg_row s) ≡ s
unfolding seg_from eq of_bits
seg-back (Line a b) = refl
seg-back (Arc c r from to) = refl

-- past the rows there is no segment
pub no_row : seg_from [] ≡ no_seg.seg
unfolding seg_from eq of_bits
no_row = refl

pub row_at : (rows : List (List Float)) (i : ℕ) → seg_at (outlines_in rows) i ≡ seg_from (get_or rows i [])
unfolding outlines_in
row_at rows i =
    ap (λ (b : OutlineSeg). (get_or (map outline_seg_from rows) i b).seg) (sym (ap (λ (s : Seg). record { seg = s }) no_row))
    ∙ ap (λ (b : OutlineSeg). b.seg) (get_or-map outline_seg_from rows i [])

-- past the rows, a line without numbers
pub past_rows : (rows : List (List Float)) (i : ℕ) → length rows ≤ i → seg_at (outlines_in rows) i ≡ no_seg.seg
past_rows rows i h = row_at rows i ∙ ap seg_from (get_or-eq_default rows [] h) ∙ no_row

pub rows_long : (rows : List (List Float)) → length (outlines_in rows).seg ≡ length rows
unfolding outlines_in
rows_long rows = length-map rows outline_seg_from

pub ruleset segs_read = (row_at, past_rows, the_nan)

-- ---- rows that are written
module _ (o : Outlines) (n : ℕ) (long : n ≤ length o.seg) where
  pub rows-length : length (seg_rows o n) ≡ n
  rows-length = length-map (take n o.seg) row_of_seg ∙ length-take-le n o.seg long

  -- those from i on are to come
  pub rows-turn : (i : ℕ) {r : List Float} → i < n → r ≡ seg_row (seg_at o i) → map row_of_seg (drop i (take n o.seg)) ≡ r ∷ map row_of_seg (drop (i + 1) (take n o.seg))
  rows-turn i h e =
      let l = length-take-le n o.seg long in
      map-drop row_of_seg (take n o.seg) i no_seg (omega arith)
      ∙ ap (λ (r : List Float). r ∷ map row_of_seg (drop (i + 1) (take n o.seg))) (ap row_of_seg (get_or-take n o.seg i no_seg h) ∙ sym e)

  pub rows-done : (i : ℕ) → n ≤ i → map row_of_seg (drop i (take n o.seg)) ≡ []
  rows-done i h =
      let l = length-take-le n o.seg long in
      let k : length (take n o.seg) ≤ i = omega arith in
      ap (map row_of_seg) (drop_of_length-le (take n o.seg) k)

  pub same-segs : (l : List (List Float)) → n ≤ length l → SameSegs n (outlines_in (sets l 0 (seg_rows o n))) o
  same-segs l h = record { seg = found }
    where
      rows : List (List Float)
      rows = sets l 0 (seg_rows o n)

      taken : take n rows ≡ seg_rows o n
      taken = let e = rows-length in sets-taken (seg_rows o n) l n e (omega arith)

      found : (k : ℕ) → k < n → seg_at (outlines_in rows) k ≡ seg_at o k
      found k b =
          let e = rows-length in
          row_at rows k
          ∙ ap seg_from
          (sym (get_or-take n rows k [] b) ∙ ap (λ (m : List (List Float)). get_or m k []) taken
          ∙ get_d_any (seg_rows o n) k [] (row_of_seg no_seg) (omega arith) ∙ get_or-map row_of_seg (take n o.seg) k no_seg)
          ∙ seg-back (get_or (take n o.seg) k no_seg).seg ∙ ap (λ (x : OutlineSeg). x.seg) (get_or-take n o.seg k no_seg b)

-- rows into which the first n segments were put
module _ (o : Outlines) (l : List (List Float)) {n : ℕ} {rows : List (List Float)} (long : n ≤ length o.seg) (few : n ≤ 384) (room : n ≤ length l)
    (put : rows ≡ cond (segs_fit n (length l)) (sets l 0 (seg_rows o n)) l) where
  put-here : rows ≡ sets l 0 (seg_rows o n)
  put-here = put ∙ cond_yes _ _ (and_yes _ (le-leb n 384 few) ∙ le-leb n (length l) room)

  pub put-rows-long : length rows ≡ length l
  put-rows-long = ap length put-here ∙ length-sets l 0 (seg_rows o n)

  pub put-rows-same : SameSegs n (outlines_in rows) o
  put-rows-same = subst (λ (r : List (List Float)). SameSegs n (outlines_in r) o) (sym put-here) (same-segs o n long l room)

pub fits : (n room : ℕ) → segs_fit n room ≡ true → (n ≤ 384) × (n ≤ room)
fits n room e =
    let b = both (leb n 384) (leb n room) e in
    (leb-true n 384 b.0, leb-true n room b.1)
