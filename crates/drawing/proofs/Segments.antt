-- Laws of drawn segments and of a loop over the segments of a silhouette. Assumes nothing.
use Prim.Native.Nat.{ℕ, ◌+◌, ◌*◌, ◌<◌, ◌≤◌}
use native.Mathlib.Omega.{arith}
use native.Mathlib.Nat.{add-zero, add_assoc, min-le_left}
use mathlib.Core.Path.{◌≡◌, refl, sym, ap, ap₂, subst, ◌∙◌}
use mathlib.Core.Bool.{Bool, true, false, cond}
use mathlib.Core.List.{List, [], ◌∷◌, ◌++◌, map, map-append}
use lib.Ieee.{Float}
use lib.ListN.{length, take, drop, get_or, set, length-map, length-append, length-take}
use lib.Seq.{sets, length-take-le, get_or-take}
use Rattle.laws.specs.Lists.{flat}
use Rattle.laws.specs.Loops.{Writing}
use Rattle.laws.proofs.Choice.{cond_yes}
use Rattle.laws.proofs.Fill.{map-drop}
use Rattle.laws.proofs.Lists.{flat-drop, flat-none, flat-short}
use Rattle.laws.proofs.Sums.{sum-part}
use Rattle.laws.proofs.Writing.{starts, puts, appends-map, ends}
use Rattle.geometry.specs.Geometry.{finer, popped, drawn_of, start_of, end_of}
use Rattle.geometry.specs.declared.Drawn.{Drawn}
use Rattle.geometry.specs.declared.Point.{Point}
use Rattle.geometry.specs.declared.Seg.{Seg}
use Rattle.geometry.specs.declared.Seg.TheVariants.{Line, Arc}
use Rattle.mechanism.specs.Check.{FewParts}
use Rattle.mechanism.specs.Description.{part_at, segs_of, start_of_part, silhouette_length}
use Rattle.bodies.specs.Pose.{world_of}
use Rattle.mechanism.specs.Segments.{outlines_in}
use Rattle.mechanism.proofs.SegRows.{rows_long}
use Rattle.mechanism.specs.declared.Outlines.{Outlines}
use Rattle.mechanism.specs.declared.Parts.{Parts}
use Rattle.mechanism.specs.declared.part.Part.{Part}
use Rattle.mechanism.specs.declared.part.Sweep.{Sweep}
use Rattle.mechanism.specs.declared.part.Sweep.TheVariants.{Extruded, Revolved, Milled, Oval}
use Rattle.bodies.specs.declared.pose.Placement.{Placement}
use Rattle.bodies.specs.declared.pose.Pose.{Pose}
use Rattle.silhouette.specs.Silhouette.{seg_of, no_line, is_part, outline_of, silhouette_of, silhouette_at, silhouette_from, silhouette_count}
use Rattle.silhouette.proofs.BySegment.{count-is}
use Rattle.silhouette.proofs.Walks.{up_done}
use Rattle.silhouette.proofs.Lengths.{silhouette_length_lem, silhouette_few, part_of, is-part}
use Rattle.drawing.specs.Drawing.{drawn_points, placed_of, polygon_of, row_of}
use Rattle.drawing.specs.Samples.{ends_of, mouth_row}

-- ---- a drawn segment is one point or eight
pub drawn-count : (s : Seg) → (drawn_of s).count ≤ 8
drawn-count (Line a b) = omega arith
drawn-count (Arc c r from to) = omega arith

pub drawn-long : (s : Seg) → length (drawn_of s).points ≡ 8
unfolding finer popped
drawn-long (Line a b) = refl
drawn-long (Arc c r from to) = refl

pub drawn-length : (s : Seg) → length (drawn_points s) ≡ (drawn_of s).count
drawn-length s =
    let h = drawn-count s in
    let l = drawn-long s in
    length-take-le (drawn_of s).count (drawn_of s).points (omega arith)

pub drawn_known : (d : Drawn) (s : Seg) → d ≡ drawn_of s → (d.count ≡ length (drawn_points s)) × (d.count ≤ 8) × (length d.points ≡ 8)
drawn_known d s e = subst (λ (d : Drawn). (d.count ≡ length (drawn_points s)) × (d.count ≤ 8) × (length d.points ≡ 8)) (sym e) (sym (drawn-length s), drawn-count s, drawn-long s)

pub drawn-short : (s : Seg) → length (drawn_points s) ≤ 8
drawn-short s = let h = drawn-count s in let l = drawn-length s in omega arith

-- ---- points that a loop places and writes, one row each
pub rows-turn : (g : Point → Point) (l : List Point) (n i : ℕ) (d p : Point) → n ≤ length l → i < n → p ≡ g (get_or l i d)
    → map row_of (map g (drop i (take n l))) ≡ row_of p ∷ map row_of (map g (drop (i + 1) (take n l)))
rows-turn g l n i d p h k e =
    let m = length-take-le n l h in
    ap (map row_of) (map-drop g (take n l) i d (omega arith))
    ∙ ap (λ (x : Point). row_of x ∷ map row_of (map g (drop (i + 1) (take n l)))) (ap g (get_or-take n l i d k) ∙ sym e)

pub rows-done : (g : Point → Point) (l : List Point) (n i : ℕ) → n ≤ length l → n ≤ i → map row_of (map g (drop i (take n l))) ≡ []
rows-done g l n i h k = ap (λ (m : List Point). map row_of (map g m)) (up_done n i (take n l) (length-take-le n l h) k)

-- ---- a loop over the segments of a silhouette
module _ (l : List Seg) (i : ℕ) where
  pub ends-turn : {s : Seg} {a b : Point} → i < length l → s ≡ get_or l i no_line → a ≡ start_of s → b ≡ end_of s
      → map mouth_row (map ends_of (drop i l)) ≡ mouth_row (record { a = a; b = b }) ∷ map mouth_row (map ends_of (drop (i + 1) l))
  ends-turn h e f g =
      ap (map mouth_row) (map-drop ends_of l i no_line h ∙ ap (λ (s : Seg). ends_of s ∷ map ends_of (drop (i + 1) l)) (sym e))
      ∙ ap₂ (λ (x y : Point). mouth_row (record { a = x; b = y }) ∷ map mouth_row (map ends_of (drop (i + 1) l))) (sym f) (sym g)

  pub ends-done : length l ≤ i → map mouth_row (map ends_of (drop i l)) ≡ []
  ends-done h = ap (λ (m : List Seg). map mouth_row (map ends_of m)) (up_done (length l) i l refl h)

  flat-turn : {s : Seg} (g : Point → Point) (f : Seg → List Point) → i < length l → s ≡ get_or l i no_line → map g (flat f (drop i l)) ≡ map g (f s) ++ map g (flat f (drop (i + 1) l))
  flat-turn {s} g f h e = ap (map g) (flat-drop f l i no_line h ∙ ap (λ (s : Seg). f s ++ flat f (drop (i + 1) l)) (sym e)) ∙ map-append g (f s) (flat f (drop (i + 1) l))

  flat-end : (g : Point → Point) (f : Seg → List Point) → length l ≤ i → map row_of (map g (flat f (drop i l))) ≡ []
  flat-end g f h = ap (λ (m : List Point). map row_of (map g m)) (flat-none f (up_done (length l) i l refl h))

-- Where a loop over a silhouette's segments writes their points: those of the segments from i on are to come, b points each at most.
pub record Places (b : ℕ) (f : Seg → List Point) (l : List Seg) (at₀ at i : ℕ) : Type 0 where
  pub far : i ≤ length l
  pub room : at ≤ at₀ + b * i
  pub counted : at + length (flat f (drop i l)) ≡ at₀ + length (flat f l)

pub places_start : (b : ℕ) (f : Seg → List Point) (l : List Seg) (at : ℕ) → Places b f l at at 0
places_start b f l at = record { far = omega arith; room = omega arith; counted = refl }

module _ {b : ℕ} {f : Seg → List Point} {l : List Seg} {at₀ at i : ℕ} (p : Places b f l at₀ at i) where
  points-turn : {s : Seg} → i < length l → s ≡ get_or l i no_line → length (flat f (drop i l)) ≡ length (f s) + length (flat f (drop (i + 1) l))
  points-turn {s} h is =
      ap length (flat-drop f l i no_line h ∙ ap (λ (s : Seg). f s ++ flat f (drop (i + 1) l)) (sym is))
      ∙ length-append (f s) (flat f (drop (i + 1) l))

  pub places_more : {s : Seg} {at' : ℕ} → i < length l → s ≡ get_or l i no_line → ((s : Seg) → length (f s) ≤ b) → at' ≡ at + length (f s) → Places b f l at₀ at' (i + 1)
  places_more {s} h is short e =
      let n = short s in
      let r = p.room in
      let c = p.counted in
      let t = points-turn h is in
      record { far = omega arith; room = omega arith; counted = omega (arith, c, t, e) }

  pub places_room : {s : Seg} {n m : ℕ} → i < length l → s ≡ get_or l i no_line → n ≡ m → at₀ + length (flat f l) ≤ m → at + length (f s) ≤ n
  places_room h is long r =
      let c = p.counted in
      let t = points-turn h is in
      omega (arith, c, t, long, r)

  pub places_end : length l ≤ i → at ≡ at₀ + length (flat f l)
  places_end h =
      let c = p.counted in
      let e = ap length (flat-none f (up_done (length l) i l refl h)) in
      omega (arith, c, e)

-- What it writes there, each point as g has it.
abbrev pub Placed : (f : Seg → List Point) (g : Point → Point) (l : List Seg) (out₀ : List (List Float)) (at₀ : ℕ) (out : List (List Float)) (at i : ℕ) → Type 0
Placed f g l out₀ at₀ out at i = Writing out₀ at₀ (map row_of (map g (flat f l))) out at (map row_of (map g (flat f (drop i l))))

module _ (f : Seg → List Point) (g : Point → Point) (l : List Seg) {out₀ : List (List Float)} {at₀ : ℕ} {out : List (List Float)} {at i : ℕ} (w : Placed f g l out₀ at₀ out at i) where
  pub placed_more : {s : Seg} {out' : List (List Float)} {at' : ℕ} → i < length l → s ≡ get_or l i no_line → at' ≡ at + length (f s) → out' ≡ sets out at (map row_of (map g (f s)))
      → Placed f g l out₀ at₀ out' at' (i + 1)
  placed_more {s} h is n e =
      appends-map row_of (map g (f s)) (map g (flat f (drop (i + 1) l))) (flat-turn l i g f h is) e (n ∙ ap (λ (k : ℕ). at + k) (sym (length-map (f s) g))) w

  pub placed_end : length l ≤ i → out ≡ sets out₀ at₀ (map row_of (map g (flat f l)))
  placed_end h = ends (flat-end l i g f h) w

-- ---- the silhouette of a part
outline-short : (ps : Parts) (o : Outlines) (i : ℕ) → length (outline_of ps o i) ≤ segs_of ps i
unfolding outline_of
outline-short ps o i =
    let l = take (segs_of ps i) (drop (start_of_part ps i) o.seg) in
    subst (λ (n : ℕ). n ≤ segs_of ps i) (sym (length-map l seg_of ∙ length-take (segs_of ps i) (drop (start_of_part ps i) o.seg))) (min-le_left _ _)

at-most_twice : (sweep : Sweep) (n : ℕ) → silhouette_length sweep n ≤ 2 * n
at-most_twice (Extruded w a) n = omega arith
at-most_twice (Revolved x) n = omega arith
at-most_twice (Milled w) n = omega arith
at-most_twice (Oval w) n = omega arith

module _ (ps : Parts) (o : Outlines) (i : ℕ) where
  pub silhouette_short : length (silhouette_at ps o i) ≤ 2 * segs_of ps i
  unfolding silhouette_at
  silhouette_short = go (is_part ps i)
    where
      go : (b : Bool) → length (cond b (silhouette_of (part_at ps i).sweep (outline_of ps o i)) []) ≤ 2 * segs_of ps i
      go true =
          let l = silhouette_length_lem (part_at ps i).sweep (outline_of ps o i) in
          let t = at-most_twice (part_at ps i).sweep (length (outline_of ps o i)) in
          let s = outline-short ps o i in
          omega (arith, l, t, s)
      go false = omega arith

  pub silhouette_94 : length (silhouette_at ps o i) ≤ 94
  unfolding silhouette_at
  silhouette_94 = go (is_part ps i) refl
    where
      go : (b : Bool) → is_part ps i ≡ b → length (cond b (silhouette_of (part_at ps i).sweep (outline_of ps o i)) []) ≤ 94
      go true e =
          let w = part_of ps i e in
          let f = w.0.each i w.1 in
          let s = outline-short ps o i in
          silhouette_few (part_at ps i).sweep (outline_of ps o i) (omega (arith, f, s))
      go false e = omega arith

-- how many segments the silhouette of a part has whose outline stands in rows
pub rows-count : (rows : List (List Float)) (first : ℕ) (p : Part) → p.segs ≤ 48 → first + p.segs ≤ length rows → length (silhouette_from (outlines_in rows) first p) ≡ silhouette_count p
rows-count rows first p h k = let l = rows_long rows in count-is (outlines_in rows) first p h (omega (arith, k, l))

-- part i as the code reads it: its segments start in row `first`
module _ (ps : Parts) (o : Outlines) (i : ℕ) {first : ℕ} (few : FewParts ps) (h : i < ps.count) (e : first ≡ start_of_part ps i) where
  pub from-part : silhouette_from o first (part_at ps i) ≡ silhouette_at ps o i
  unfolding silhouette_at outline_of
  from-part = ap (λ (k : ℕ). silhouette_from o k (part_at ps i)) e ∙ sym (cond_yes _ _ (is-part ps i few h))

  module _ (long : start_of_part ps ps.count ≤ length o.seg) where
    pub part-within : first + segs_of ps i ≤ length o.seg
    part-within = let s = sum-part (segs_of ps) i ps.count (omega (arith, h)) in omega (arith, s, e, long)

    pub part-counted : silhouette_count (part_at ps i) ≤ 2 * segs_of ps i
    part-counted =
        let c = count-is o first (part_at ps i) (few.each i h) (let w = part-within in omega (arith, w)) in
        let f = ap length from-part in
        let s = silhouette_short ps o i in
        omega (arith, c, f, s)

pub polygon_short : (ps : Parts) (o : Outlines) (q : Pose) (i : ℕ) → length (polygon_of ps o q i) ≤ 16 * segs_of ps i
unfolding polygon_of
polygon_short ps o q i =
    let m = length-map (flat drawn_points (silhouette_at ps o i)) (world_of (placed_of ps q i)) in
    let f = flat-short drawn_points 8 drawn-short (silhouette_at ps o i) in
    let s = silhouette_short ps o i in
    omega (arith, m, f, s)

-- ---- a slice that is written from `at` on, one row a turn
module _ {A : Type 0} {out₀ : List A} {at₀ : ℕ} {all : List A} where
  pub first-row : {rest : List A} → rest ≡ all → Writing out₀ at₀ all out₀ (at₀ + 0) rest
  first-row {rest} e = subst (λ (k : ℕ). Writing out₀ at₀ all out₀ k rest) (sym (add-zero at₀)) (starts e)

  pub next_row : {out : List A} (at k : ℕ) {a : A} {rest rest' : List A} → rest ≡ a ∷ rest' → Writing out₀ at₀ all out (at + k) rest
      → Writing out₀ at₀ all (set out (at + k) a) (at + (k + 1)) rest'
  next_row {out} at k {a} {rest' = rest'} e w = subst (λ (n : ℕ). Writing out₀ at₀ all (set out (at + k) a) n rest') (add_assoc at k 1) (puts e w)

-- the points of a segment are written
pub drawn-end : (g : Point → Point) {d : Drawn} (s : Seg) {out₀ out : List (List Float)} {at k : ℕ} → d ≡ drawn_of s → d.count ≤ k
    → Writing out₀ at (map row_of (map g (take d.count d.points))) out (at + k) (map row_of (map g (drop k (take d.count d.points))))
    → out ≡ sets out₀ at (map row_of (map g (drawn_points s)))
drawn-end g {d} s {out₀} {at = at} {k} e l w =
    let n = (drawn_known d s e).1 in
    let m = (drawn_known d s e).2 in
    let z = rows-done g d.points d.count k (omega (arith, n, m)) l in
    ends z w ∙ ap (λ (y : Drawn). sets out₀ at (map row_of (map g (take y.count y.points)))) e

-- ---- what is written of a silhouette, said of its part
pub of_part : (f : Seg → List Point) (ps : Parts) (o : Outlines) (q : Pose) (i : ℕ) (at : ℕ) (out₀ : List (List Float)) {l : List Seg} {place : Placement} {r : ℕ} {out : List (List Float)}
    → l ≡ silhouette_at ps o i → place ≡ placed_of ps q i
    → (r ≡ at + length (flat f l)) × (out ≡ sets out₀ at (map row_of (map (world_of place) (flat f l))))
    → (r ≡ at + length (map (world_of (placed_of ps q i)) (flat f (silhouette_at ps o i))))
    × (out ≡ sets out₀ at (map row_of (map (world_of (placed_of ps q i)) (flat f (silhouette_at ps o i)))))
of_part f ps o q i at out₀ s p w = (
  w.0 ∙ ap (λ (l : List Seg). at + length (flat f l)) s ∙ ap (λ (n : ℕ). at + n) (sym (length-map (flat f (silhouette_at ps o i)) (world_of (placed_of ps q i)))),
  w.1 ∙ ap₂ (λ (x : Placement) (l : List Seg). sets out₀ at (map row_of (map (world_of x) (flat f l)))) p s,
)
