-- What stands in the lent arrays: polygons laid one behind the other are the material that they were, and no array is too short. Assumes nothing.
use Prim.Native.Nat.{ℕ, zero, suc, ◌+◌, ◌*◌, ◌-◌, ◌<◌, ◌≤◌}
use native.Mathlib.Omega.{arith}
use native.Mathlib.Numerals.{add-one}
use native.Mathlib.Nat.{add-zero, add_assoc, zero-add}
use mathlib.Core.Path.{◌≡◌, refl, sym, ap, ap₂, ◌∙◌}
use mathlib.Core.Bool.{Bool, true, false, false≢true, not, ◌&&◌, cond}
use mathlib.Core.List.{List, [], ◌∷◌, ◌++◌, map, map-append}
use lib.Dec.{eqb}
use lib.Ieee.{Float}
use lib.ListN.{length, take, drop, get_or, length-map, length-append}
use lib.Seq.{sets, length-sets, length-take-le, take_at, drop_at, take-append_seam, drop-append_seam, take-length, take-suc, split_at}
use borrow.Author.Tests.{le-leb}
use Rattle.laws.specs.Lists.{list_in, flat}
use Rattle.laws.specs.Loops.{filter_in}
use Rattle.laws.proofs.Choice.{and_yes, cond_yes, cond_no}
use Rattle.laws.proofs.Fill.{map_back}
use Rattle.laws.proofs.Lists.{list_get, list_as, flat_append, filter_same, filter-within}
use Rattle.laws.proofs.Sums.{sum-scaled}
use Rattle.laws.proofs.Writing.{sets-taken}
use Rattle.geometry.specs.declared.Point.{Point}
use Rattle.mechanism.specs.Check.{FewParts}
use Rattle.mechanism.specs.Description.{part_at, segs_of, start_of_part}
use Rattle.mechanism.specs.Segments.{outlines_in, segs_counted}
use Rattle.mechanism.proofs.Checks.{parts-few}
use Rattle.mechanism.specs.declared.Outlines.{Outlines}
use Rattle.mechanism.specs.declared.Parts.{Parts}
use Rattle.mechanism.specs.declared.pair.Surface.{Surface}
use Rattle.bodies.specs.declared.pose.Pose.{Pose}
use Rattle.silhouette.specs.Silhouette.{in_the_section, silhouette_at}
use Rattle.material.specs.Material.{Edge, Material, point_of, points_of, between, poly_at, material_of}
use Rattle.drawing.specs.Drawing.{is_cut, is_read_cut, polygon_of, on_side, solid_in, cut_in, side_material, chosen_as, solids_of, cuts_of, chosen_material, what_is, side_chosen, row_of}
use Rattle.drawing.specs.Drawing.{same, rows_of, ends_from, starts_of}
use Rattle.drawing.specs.Samples.{ends_of, mouths_of, mouth_row, mouth_in, mouths_in, mouth_room}
use Rattle.drawing.specs.declared.Chosen.{Chosen}
use Rattle.drawing.proofs.Segments.{silhouette_short}
use Rattle.drawing.proofs.Draws.{cond_below, ends-length, flat-first, rows_append}
use Rattle.drawing.proofs.Rooms.{points_most}
use Rattle.drawing.proofs.Sides.{what_of}

-- ---- rows are read back
pub points_back : (l : List Point) → points_of (map row_of l) ≡ l
points_back l = map_back point_of row_of (λ p. refl) l

mouths-back : (l : List Edge) → map mouth_in (map mouth_row l) ≡ l
mouths-back l = map_back mouth_in mouth_row (λ e. refl) l

-- ---- where polygon k starts: behind the points of those before it
ends_at : (polys : List (List Point)) (a k : ℕ) → k ≤ length polys → get_or (a ∷ ends_from a polys) k 0 ≡ a + length (flat same (take k polys))
unfolding ends_from flat
ends_at polys a zero h = sym (add-zero a)
ends_at [] a (suc k) h = absurd (omega arith)
ends_at (p ∷ polys) a (suc k) h =
    ends_at polys (a + length p) k (omega arith)
    ∙ add_assoc a (length p) (length (flat same (take k polys))) ∙ ap (λ (n : ℕ). a + n) (sym (length-append p (flat same (take k polys))))

starts-at : (polys : List (List Point)) (k : ℕ) → k ≤ length polys → get_or (starts_of polys) k 0 ≡ length (flat same (take k polys))
starts-at polys k h = ends_at polys 0 k h ∙ zero-add (length (flat same (take k polys)))

rows-first : (p : List Point) (polys : List (List Point)) → rows_of (p ∷ polys) ≡ map row_of p ++ rows_of polys
rows-first p polys = ap (map row_of) (flat-first p polys refl) ∙ map-append row_of p (flat same polys)

rows_split : (polys : List (List Point)) (k : ℕ) → k < length polys → rows_of polys ≡ rows_of (take k polys) ++ (map row_of (get_or polys k []) ++ rows_of (drop (suc k) polys))
rows_split polys k h =
    ap rows_of (split_at polys k [] h) ∙ rows_append (take k polys) (get_or polys k [] ∷ drop (suc k) polys)
    ∙ ap (λ (l : List (List Float)). rows_of (take k polys) ++ l) (rows-first (get_or polys k []) (drop (suc k) polys))

flat-next : (polys : List (List Point)) (k : ℕ) → k < length polys → length (flat same (take (k + 1) polys)) ≡ length (flat same (take k polys)) + length (get_or polys k [])
unfolding flat
flat-next polys k h =
    ap (λ (n : ℕ). length (flat same (take n polys))) (add-one k) ∙ ap (λ (l : List (List Point)). length (flat same l)) (take-suc polys k [] h)
    ∙ ap length (flat_append same (take k polys) (get_or polys k [] ∷ [])) ∙ length-append (flat same (take k polys)) (get_or polys k [] ++ [])
    ∙ ap (λ (n : ℕ). length (flat same (take k polys)) + n) (length-append (get_or polys k []) [] ∙ add-zero (length (get_or polys k [])))

pub poly_at_lem : (polys : List (List Point)) (k : ℕ) → k < length polys → poly_at (rows_of polys) (starts_of polys) k ≡ get_or polys k []
poly_at_lem polys k h =
    let s = length (flat same (take k polys)) in
    let p = get_or polys k [] in
    let a : get_or (starts_of polys) k 0 ≡ s = starts-at polys k (omega arith) in
    let e : get_or (starts_of polys) (k + 1) 0 ≡ s + length p = starts-at polys (k + 1) (omega arith) ∙ flat-next polys k h in
    let n : s + length p - s ≡ length p = omega arith in
    ap₂ (λ (x y : ℕ). points_of (between (rows_of polys) x y)) a e
    ∙ ap (λ (m : ℕ). points_of (take m (drop s (rows_of polys)))) n
    ∙ ap (λ (l : List (List Float)). points_of (take (length p) l)) (ap (drop s) (rows_split polys k h)
    ∙ drop_at (rows_of (take k polys)) (map row_of p ++ rows_of (drop (suc k) polys)) s (length-map (flat same (take k polys)) row_of))
    ∙ ap points_of (take_at (map row_of p) (rows_of (drop (suc k) polys)) (length p) (length-map p row_of))
    ∙ points_back p

pub laid : (solids cuts : List (List Point)) → material_of (rows_of (solids ++ cuts)) (starts_of (solids ++ cuts)) (length solids)
    (length solids + length cuts) ≡ record { solids = solids; cuts = cuts }
laid solids cuts = ap₂ made first second
  where
    all : List (List Point)
    all = solids ++ cuts

    made : List (List Point) → List (List Point) → Material
    made a b = record { solids = a; cuts = b }

    long : length all ≡ length solids + length cuts
    long = length-append solids cuts

    part : (k j : ℕ) → j + k ≤ length all → list_in (poly_at (rows_of all) (starts_of all)) k j ≡ take k (drop j all)
    part = list_as (poly_at (rows_of all) (starts_of all)) all [] (poly_at_lem all)

    first : list_in (poly_at (rows_of all) (starts_of all)) (length solids) 0 ≡ solids
    first = let l = long in part (length solids) 0 (omega (arith, l)) ∙ take-append_seam solids cuts

    second : list_in (poly_at (rows_of all) (starts_of all)) (length solids + length cuts - length solids) (length solids) ≡ cuts
    second =
        let l = long in
        let n : length solids + length cuts - length solids ≡ length cuts = omega arith in
        ap (λ (k : ℕ). list_in (poly_at (rows_of all) (starts_of all)) k (length solids)) n
        ∙ part (length cuts) (length solids) (omega (arith, l)) ∙ ap (take (length cuts)) (drop-append_seam solids cuts) ∙ take-length cuts

-- ---- what a caller gets who lends the used part of an array
pub taken-points : (polys : List (List Point)) (l : List (List Float)) → length (rows_of polys) ≤ length l → take (length (flat same polys)) (sets l 0 (rows_of polys)) ≡ rows_of polys
taken-points polys l h = sets-taken (rows_of polys) l (length (flat same polys)) (length-map (flat same polys) row_of) h

pub taken-starts : (polys : List (List Point)) (s : List ℕ) → length polys + 1 ≤ length s → take (length polys + 1) (sets s 0 (starts_of polys)) ≡ starts_of polys
taken-starts polys s h =
    let e = ends-length polys 0 in
    sets-taken (starts_of polys) s (length polys + 1) (omega (arith, e)) (omega (arith, e, h))

-- ---- the parts of a side, chosen by number, are its material: none is a solid and a cut
is-solid : (s t : Bool) → eqb (what_is s t) 1 ≡ s
is-solid true t = refl
is-solid false true = refl
is-solid false false = refl

is-a-cut : (s t : Bool) → (s ≡ true → t ≡ false) → eqb (what_is s t) 2 ≡ t
is-a-cut true t e = sym (e refl)
is-a-cut false true e = refl
is-a-cut false false e = refl

not_both : (there cut inside own cuts : Bool) → (there && ((not cut && inside) && own)) ≡ true → (there && ((cut && inside) && cuts)) ≡ false
not_both true true inside own cuts e = absurd (false≢true e)
not_both true false inside own cuts e = refl
not_both false cut inside own cuts e = refl

module _ (ps : Parts) (u : Surface) (cuts : Bool) (i : ℕ) (h : i < 32) where
  what_is_lem : get_or (side_chosen ps u cuts).what i 0 ≡ what_is (solid_in ps u i) (cut_in ps u cuts i)
  unfolding side_chosen
  what_is_lem = list_get (what_of ps u cuts) 0 32 0 i h ∙ ap (what_of ps u cuts) (zero-add i)

  solid-is : chosen_as (side_chosen ps u cuts) 1 i ≡ solid_in ps u i
  solid-is = ap (λ (x : ℕ). eqb x 1) what_is_lem ∙ is-solid (solid_in ps u i) (cut_in ps u cuts i)

  cut_is : chosen_as (side_chosen ps u cuts) 2 i ≡ cut_in ps u cuts i
  cut_is =
      ap (λ (x : ℕ). eqb x 2) what_is_lem
      ∙ is-a-cut (solid_in ps u i) (cut_in ps u cuts i) (not_both (on_side ps u i) (is_cut (part_at ps i).role) (in_the_section (part_at ps i).sweep) _ cuts)

pub side-chosen : (ps : Parts) (o : Outlines) (q : Pose) (u : Surface) (cuts : Bool) → ps.count ≤ 32 → chosen_material ps o q (side_chosen ps u cuts) ≡ side_material ps o q u cuts
unfolding chosen_material side_material
side-chosen ps o q u cuts h =
    let d = side_chosen ps u cuts in
    let a : filter_in (chosen_as d 1) ps.count 0 ≡ filter_in (solid_in ps u) ps.count 0 = filter_same (chosen_as d 1) (solid_in ps u) ps.count 0 (λ i l. solid-is ps u cuts i (omega arith)) in
    let b : filter_in (chosen_as d 2) ps.count 0 ≡ filter_in (cut_in ps u cuts) ps.count 0 = filter_same (chosen_as d 2) (cut_in ps u cuts) ps.count 0 (λ i l. cut_is ps u cuts i (omega arith)) in
    ap₂ (λ (x y : List ℕ). record { solids = map (polygon_of ps o q) x; cuts = map (polygon_of ps o q) y }) a b

-- ---- how much room the parts need
pub points_few : (ps : Parts) (o : Outlines) (q : Pose) (c : Chosen) → FewParts ps → (length (flat same (solids_of ps o q c ++ cuts_of ps o q c)) ≤ 6144)
    × (length (solids_of ps o q c ++ cuts_of ps o q c) ≤ 32)
points_few ps o q c few =
    let m = points_most ps o q c few in
    let a = m.0 in
    let t = few.total in
    (omega (arith, a, t), m.1)

mouths-most : (ps : Parts) (o : Outlines) → length (mouths_of ps o) ≤ 2 * start_of_part ps ps.count
unfolding mouths_of
mouths-most ps o =
    let p : ℕ → Bool = λ i. is_read_cut (part_at ps i) in
    let s = filter-within p (λ i. map ends_of (silhouette_at ps o i)) (λ i. 2 * segs_of ps i) short ps.count 0 in
    let m = sum-scaled 2 (λ i. cond (p i) (2 * segs_of ps i) 0) (segs_of ps) (λ i. cond_below (2 * segs_of ps i) (p i)) ps.count 0 in
    omega (arith, s, m)
  where
    short : (i : ℕ) → length (map ends_of (silhouette_at ps o i)) ≤ 2 * segs_of ps i
    short i = let l = length-map (silhouette_at ps o i) ends_of in let h = silhouette_short ps o i in omega (arith, l, h)

-- parts that pass no limit have as many segments as are counted
pub counted-few : (ps : Parts) → FewParts ps → segs_counted ps ≡ start_of_part ps ps.count
counted-few ps few = cond_no _ _ (parts-few ps few)

-- what `draw_mouths` leaves in an array that has room
module _ (ps : Parts) (rows : List (List Float)) (few : FewParts ps) (there : start_of_part ps ps.count ≤ length rows) (l : List (List Float))
    (long : 2 * start_of_part ps ps.count ≤ length l) {n : ℕ} {l' : List (List Float)}
    (drawn : (n ≡ cond (mouth_room ps (length l) (length rows)) (length (mouths_of ps (outlines_in rows))) 0)
    × (l' ≡ cond (mouth_room ps (length l) (length rows)) (sets l 0 (map mouth_row (mouths_of ps (outlines_in rows)))) l)) where
  abbrev mouths : List Edge
  mouths = mouths_of ps (outlines_in rows)

  mouth-room : mouth_room ps (length l) (length rows) ≡ true
  mouth-room =
      let k = counted-few ps few in
      and_yes _ (ap not (parts-few ps few)) ∙ and_yes _ (le-leb (2 * segs_counted ps) (length l) (omega (arith, k, long))) ∙ le-leb (segs_counted ps) (length rows) (omega (arith, k, there))

  mouth-count : n ≡ length mouths
  mouth-count = drawn.0 ∙ cond_yes _ _ mouth-room

  mouths-are : l' ≡ sets l 0 (map mouth_row mouths)
  mouths-are = drawn.1 ∙ cond_yes _ _ mouth-room

  pub mouths-long : length l' ≡ length l
  mouths-long = ap length mouths-are ∙ length-sets l 0 (map mouth_row mouths)

  pub mouths-within : n ≤ length l'
  mouths-within =
      let e = mouth-count in
      let f = mouths-most ps (outlines_in rows) in
      let k = mouths-long in
      omega (arith, e, f, k, long)

  pub mouths-counted : n ≡ length (take n l')
  mouths-counted = sym (length-take-le n l' mouths-within)

  pub mouths-read : mouths_in (take n l') ≡ mouths
  mouths-read =
      let f = mouths-most ps (outlines_in rows) in
      let m = length-map mouths mouth_row in
      ap (λ (x : List (List Float)). mouths_in (take n x)) mouths-are
      ∙ ap mouths_in (sets-taken (map mouth_row mouths) l n (m ∙ sym mouth-count) (omega (arith, f, m, long)))
      ∙ mouths-back mouths
