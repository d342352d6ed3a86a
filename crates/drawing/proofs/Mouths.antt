-- Laws of the points sampled along a segment, and of mouths. Assumes nothing.
use Prim.Native.Nat.{ℕ, ◌+◌, ◌*◌, ◌-◌, ◌<◌, ◌≤◌}
use native.Mathlib.Omega.{arith}
use native.Mathlib.Nat.{zero-add, sub-zero}
use mathlib.Core.Path.{◌≡◌, refl, sym, ap, ap₂, ◌∙◌}
use mathlib.Core.Bool.{Bool, true, false, not, cond, ◌&&◌}
use mathlib.Core.List.{List, [], ◌∷◌, map}
use lib.Dec.{leb}
use lib.Ieee.{Float}
use lib.ListN.{length, length-map}
use lib.Seq.{sets}
use borrow.Author.Tests.{leb-true}
use Rattle.laws.specs.Lists.{flat, list_in}
use Rattle.laws.specs.Loops.{filter_in, Writing}
use Rattle.laws.proofs.Choice.{cond_yes, cond_no, both, not_yes}
use Rattle.laws.proofs.Lists.{list_turn, list_done, flat-none}
use Rattle.laws.proofs.Loops.{filter-yes, filter-no, filter-done}
use Rattle.laws.proofs.Sums.{sum_more, sum-part}
use Rattle.laws.proofs.Writing.{starts, goes_on, appends-map, ends, ends-count}
use Rattle.geometry.specs.Geometry.{start_of, end_of}
use Rattle.geometry.specs.declared.Point.{Point}
use Rattle.geometry.specs.declared.Seg.{Seg}
use Rattle.geometry.specs.declared.Seg.TheVariants.{Line, Arc}
use Rattle.mechanism.specs.Check.{parts_over, FewParts}
use Rattle.mechanism.specs.Description.{part_at, segs_of, start_of_part}
use Rattle.mechanism.specs.Segments.{outlines_in, segs_counted}
use Rattle.mechanism.proofs.SegRows.{rows_long}
use Rattle.mechanism.proofs.Checks.{few-parts}
use Rattle.mechanism.specs.declared.Outlines.{Outlines}
use Rattle.mechanism.specs.declared.Parts.{Parts}
use Rattle.silhouette.specs.Silhouette.{silhouette_at, silhouette_count}
use Rattle.material.specs.Material.{Edge}
use Rattle.drawing.specs.Drawing.{is_read_cut, row_of}
use Rattle.drawing.specs.Samples.{ends_of, mouths_of, is_mouth, on_line, sample_points, samples_of, mouth_row, mouth_room}
use Rattle.drawing.proofs.Segments.{drawn-short, silhouette_short, part-within, part-counted}

-- ---- seventeen points along a line
pub line-turn : (g : Point → Point) (f : ℕ → Point) (k : ℕ) (p : Point) → k < 17 → p ≡ g (f k)
    → map row_of (map g (list_in f (17 - k) k)) ≡ row_of p ∷ map row_of (map g (list_in f (17 - (k + 1)) (k + 1)))
line-turn g f k p h e =
    ap (λ (l : List Point). map row_of (map g l)) (list_turn f 17 k h) ∙ ap (λ (x : Point). row_of x ∷ map row_of (map g (list_in f (17 - (k + 1)) (k + 1)))) (sym e)

pub line-done : (g : Point → Point) (f : ℕ → Point) (k : ℕ) → 17 ≤ k → map row_of (map g (list_in f (17 - k) k)) ≡ []
line-done g f k h = ap (λ (l : List Point). map row_of (map g l)) (list_done f 17 k h)

line-long : (f : ℕ → Point) → length (list_in f 17 0) ≡ 17
unfolding list_in
line-long f = refl

pub points_short : (s : Seg) → length (sample_points s) ≤ 17
points_short (Line a b) = let e = line-long (on_line a b) in omega (arith, e)
points_short (Arc c r from to) = let h = drawn-short (Arc c r from to) in omega (arith, h)

pub samples_short : (mouths : List Edge) (s : Seg) → length (samples_of mouths s) ≤ 17
unfolding samples_of
samples_short mouths s = go (is_mouth mouths (ends_of s))
  where
    go : (b : Bool) → length (cond b [] (sample_points s)) ≤ 17
    go true = omega arith
    go false = points_short s

-- ---- a segment's samples, as the code asks for them
pub line-points : {s : Seg} {a b : Point} → s ≡ Line a b → list_in (on_line a b) 17 0 ≡ sample_points s
line-points e = ap sample_points (sym e)

pub line-count : (at : ℕ) {s : Seg} {a b : Point} {r : ℕ} → s ≡ Line a b → r ≡ at + 17 → r ≡ at + length (sample_points s)
line-count at {a = a} {b} e n = n ∙ ap (λ (k : ℕ). at + k) (sym (line-long (on_line a b)) ∙ ap length (line-points e))

-- a mouth has none, any other segment has its points
module _ (mouths : List Edge) (s : Seg) {a b : Point} {t : Bool} (e : a ≡ start_of s) (f : b ≡ end_of s) (is : t ≡ is_mouth mouths (record { a = a; b = b })) where
  is-it : t ≡ is_mouth mouths (ends_of s)
  is-it = is ∙ ap₂ (λ (x y : Point). is_mouth mouths (record { a = x; b = y })) e f

  pub seg-none : t ≡ true → samples_of mouths s ≡ []
  unfolding samples_of
  seg-none h = cond_yes _ _ (sym is-it ∙ h)

  pub seg-some : t ≡ false → samples_of mouths s ≡ sample_points s
  unfolding samples_of
  seg-some h = cond_no _ _ (sym is-it ∙ h)

-- ---- mouths of the cuts that a loop writes: those of the parts from i on are to come
abbrev cut_at : Parts → ℕ → Bool
cut_at ps i = is_read_cut (part_at ps i)

abbrev ends_at : Parts → Outlines → ℕ → List Edge
ends_at ps o i = map ends_of (silhouette_at ps o i)

pub record Mouths (ps : Parts) (o : Outlines) (out₀ out : List (List Float)) (at i : ℕ) : Type 0 where
  pub far : i ≤ ps.count
  pub room : at ≤ 2 * start_of_part ps i
  pub rest : Writing out₀ 0 (map mouth_row (mouths_of ps o)) out at (map mouth_row (flat (ends_at ps o) (filter_in (cut_at ps) (ps.count - i) i)))

pub mouths-start : (ps : Parts) (o : Outlines) (out : List (List Float)) → Mouths ps o out out 0 0
unfolding mouths_of
mouths-start ps o out = record { far = omega arith; room = omega arith; rest = starts (ap (λ (n : ℕ). map mouth_row (flat (ends_at ps o) (filter_in (cut_at ps) n 0))) (sub-zero ps.count)) }

module _ {ps : Parts} {o : Outlines} {out₀ out : List (List Float)} {at i : ℕ} (m : Mouths ps o out₀ out at i) where
  pub mouths-room : {first : ℕ} → FewParts ps → i < ps.count → first ≡ start_of_part ps i → start_of_part ps ps.count ≤ length o.seg → 2 * start_of_part ps ps.count ≤ length out₀
      → at + silhouette_count (part_at ps i) ≤ length out
  mouths-room few h e long l =
      let b = part-counted ps o i few h e long in
      let k = sum-part (segs_of ps) i ps.count h in
      let w = m.rest.long in
      let g = m.room in
      omega (arith, b, k, w, g, l)

  pub mouths-more : {r : List Seg} {out' : List (List Float)} {at' : ℕ} → i < ps.count → cut_at ps i ≡ true → r ≡ silhouette_at ps o i
      → (at' ≡ at + length r) × (out' ≡ sets out at (map mouth_row (map ends_of r))) → Mouths ps o out₀ out' at' (i + 1)
  unfolding flat
  mouths-more h c s w =
      let n : length (ends_at ps o i) ≡ length (silhouette_at ps o i) = length-map (silhouette_at ps o i) ends_of in
      let b = silhouette_short ps o i in
      let k = sum_more (segs_of ps) i in
      let g = m.room in
      let f = w.0 ∙ ap (λ (l : List Seg). at + length l) s in
      record {
        far = omega arith;
        room = omega (arith, b, k, g, f);
        rest = appends-map mouth_row (ends_at ps o i) (flat (ends_at ps o) (filter_in (cut_at ps) (ps.count - (i + 1)) (i + 1))) (ap (flat (ends_at ps o)) (filter-yes (cut_at ps) ps.count i h c))
            (w.1 ∙ ap (λ (l : List Seg). sets out at (map mouth_row (map ends_of l))) s) (f ∙ ap (λ (j : ℕ). at + j) (sym n)) m.rest;
      }

  pub mouths-skip : i < ps.count → cut_at ps i ≡ false → Mouths ps o out₀ out at (i + 1)
  mouths-skip h c =
      let k = sum_more (segs_of ps) i in
      let g = m.room in
      record {
        far = omega arith;
        room = omega (arith, k, g);
        rest = goes_on (ap (λ (l : List ℕ). map mouth_row (flat (ends_at ps o) l)) (filter-no (cut_at ps) ps.count i h c)) m.rest;
      }

  pub mouths-end : ps.count ≤ i → (at ≡ length (mouths_of ps o)) × (out ≡ sets out₀ 0 (map mouth_row (mouths_of ps o)))
  mouths-end h =
      let e = ap (map mouth_row) (flat-none (ends_at ps o) (filter-done (cut_at ps) ps.count i h)) in
      (ends-count e m.rest ∙ zero-add _ ∙ length-map (mouths_of ps o) mouth_row, ends e m.rest)

-- what `put_ends` asks of part i
pub asks_ends : (rows : List (List Float)) {ps : Parts} {out₀ out : List (List Float)} {at i first : ℕ} → Mouths ps (outlines_in rows) out₀ out at i → FewParts ps
    → i < ps.count → first ≡ start_of_part ps i
    → start_of_part ps ps.count ≤ length rows → 2 * start_of_part ps ps.count ≤ length out₀
    → (segs_of ps i ≤ 48) × (first + segs_of ps i ≤ length rows) × (at + silhouette_count (part_at ps i) ≤ length out)
asks_ends rows {ps} {i = i} m few h e long l =
    let k = rows_long rows in
    let n : start_of_part ps ps.count ≤ length (outlines_in rows).seg = omega (arith, long, k) in
    let w = part-within ps (outlines_in rows) i few h e n in
    (few.each i h, omega (arith, w, k), mouths-room m few h e n l)

-- ---- the arrays have room
pub has_mouth_room : (ps : Parts) (n segs : ℕ) → mouth_room ps n segs ≡ true → FewParts ps × (start_of_part ps ps.count ≤ segs) × (2 * start_of_part ps ps.count ≤ n)
has_mouth_room ps n segs e =
    let a = both (not (parts_over ps)) (leb (2 * segs_counted ps) n && leb (segs_counted ps) segs) e in
    let b = both (leb (2 * segs_counted ps) n) (leb (segs_counted ps) segs) a.1 in
    let c = cond_no 0 (start_of_part ps ps.count) (not_yes (parts_over ps) a.0) in
    let f = leb-true (2 * segs_counted ps) n b.0 in
    let g = leb-true (segs_counted ps) segs b.1 in
    (few-parts ps (not_yes (parts_over ps) a.0), omega (arith, c, g), omega (arith, c, f))
