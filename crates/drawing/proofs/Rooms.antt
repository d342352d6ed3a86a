-- The room that the polygons of parts need whose outlines stand in rows. Assumes nothing.
use Prim.Native.Nat.{ℕ, ◌+◌, ◌*◌, ◌<◌, ◌≤◌}
use native.Mathlib.Omega.{arith}
use mathlib.Core.Path.{◌≡◌, ap, ◌∙◌}
use mathlib.Core.Bool.{true, not, ◌&&◌}
use mathlib.Core.List.{List, ◌++◌, map}
use lib.Dec.{leb}
use lib.Ieee.{Float}
use lib.ListN.{length, length-map, length-append}
use lib.Seq.{sets}
use borrow.Author.Tests.{leb-true, le-leb}
use Rattle.laws.specs.Lists.{flat}
use Rattle.laws.proofs.Choice.{and_yes, cond_no, both, not_yes}
use Rattle.laws.proofs.Sums.{sum-scaled}
use Rattle.geometry.specs.declared.Seg.{Seg}
use Rattle.mechanism.specs.Check.{parts_over, FewParts}
use Rattle.mechanism.specs.Description.{part_at, segs_of, start_of_part}
use Rattle.mechanism.specs.Segments.{outlines_in, segs_counted}
use Rattle.mechanism.proofs.SegRows.{rows_long}
use Rattle.bodies.specs.Pose.{world_of}
use Rattle.bodies.specs.declared.pose.Placement.{Placement}
use Rattle.bodies.specs.declared.pose.Pose.{Pose}
use Rattle.silhouette.specs.Silhouette.{silhouette_from, silhouette_at}
use Rattle.mechanism.proofs.Checks.{few-parts, parts-few}
use Rattle.mechanism.specs.declared.Outlines.{Outlines}
use Rattle.mechanism.specs.declared.Parts.{Parts}
use Rattle.drawing.specs.Drawing.{drawn_points, placed_of, polygon_of, solids_of, cuts_of, row_of, same, rows_of, drawn_most, room_for, room_from}
use Rattle.drawing.specs.declared.Chosen.{Chosen}
use Rattle.drawing.proofs.Draws.{points-within, polygons-within}
use Rattle.drawing.proofs.Segments.{polygon_short, from-part, part-within, of_part}

-- ---- a part as a loop over rows reads it: its segments start in row `first`
module _ (rows : List (List Float)) (ps : Parts) (q : Pose) {first i : ℕ} (few : FewParts ps) (h : i < ps.count) (e : first ≡ start_of_part ps i) where
  pub asks_polygon : (at : ℕ) (points : List (List Float)) → start_of_part ps ps.count ≤ length rows → at + length (polygon_of ps (outlines_in rows) q i) ≤ length points
      → (segs_of ps i ≤ 48) × (first + segs_of ps i ≤ length rows) × (at + length (flat drawn_points (silhouette_from (outlines_in rows) first (part_at ps i))) ≤ length points)
  unfolding polygon_of
  asks_polygon at points long r =
      let l = rows_long rows in
      let n : start_of_part ps ps.count ≤ length (outlines_in rows).seg = omega (arith, long, l) in
      let w = part-within ps (outlines_in rows) i few h e n in
      let m = length-map (flat drawn_points (silhouette_at ps (outlines_in rows) i)) (world_of (placed_of ps q i)) in
      let k = ap (λ (x : List Seg). length (flat drawn_points x)) (from-part ps (outlines_in rows) i few h e) in
      (few.each i h, omega (arith, w, l), omega (arith, m, k, r))

  pub polygon_drawn : (at : ℕ) (points : List (List Float)) {at' : ℕ} {points' : List (List Float)} (place : Placement) → place ≡ placed_of ps q i
      → (at' ≡ at + length (flat drawn_points (silhouette_from (outlines_in rows) first (part_at ps i))))
      × (points' ≡ sets points at (map row_of (map (world_of place) (flat drawn_points (silhouette_from (outlines_in rows) first (part_at ps i))))))
      → (at' ≡ at + length (polygon_of ps (outlines_in rows) q i)) × (points' ≡ sets points at (map row_of (polygon_of ps (outlines_in rows) q i)))
  unfolding polygon_of
  polygon_drawn at points place p w = of_part drawn_points ps (outlines_in rows) q i at points (from-part ps (outlines_in rows) i few h e) p w

-- ---- the arrays have room
pub has_room-from : (ps : Parts) (n m segs : ℕ) → room_from ps n m segs ≡ true → FewParts ps × (16 * start_of_part ps ps.count ≤ n) × (33 ≤ m) × (start_of_part ps ps.count ≤ segs)
has_room-from ps n m segs e =
    let a = both (not (parts_over ps)) (leb (drawn_most ps) n && (leb 33 m && leb (segs_counted ps) segs)) e in
    let b = both (leb (drawn_most ps) n) (leb 33 m && leb (segs_counted ps) segs) a.1 in
    let d = both (leb 33 m) (leb (segs_counted ps) segs) b.1 in
    let k = cond_no 0 (start_of_part ps ps.count) (not_yes (parts_over ps) a.0) in
    let f = leb-true (drawn_most ps) n b.0 in
    let g = leb-true (segs_counted ps) segs d.1 in
    (few-parts ps (not_yes (parts_over ps) a.0), omega (arith, k, f), leb-true 33 m d.0, omega (arith, k, g))

pub room-from-here : (ps : Parts) (n m segs : ℕ) → FewParts ps → 16 * start_of_part ps ps.count ≤ n → 33 ≤ m → start_of_part ps ps.count ≤ segs → room_from ps n m segs ≡ true
room-from-here ps n m segs few a b d =
    let over = parts-few ps few in
    let k = cond_no 0 (start_of_part ps ps.count) over in
    and_yes _ (ap not over) ∙ and_yes _ (le-leb (drawn_most ps) n (omega (arith, k, a))) ∙ and_yes _ (le-leb 33 m b) ∙ le-leb (segs_counted ps) segs (omega (arith, k, d))

pub has_room : (ps : Parts) (n m : ℕ) → room_for ps n m ≡ true → FewParts ps × (6144 ≤ n) × (33 ≤ m)
has_room ps n m e =
    let a = both (not (parts_over ps)) (leb 6144 n && leb 33 m) e in
    let b = both (leb 6144 n) (leb 33 m) a.1 in
    (few-parts ps (not_yes (parts_over ps) a.0), leb-true 6144 n b.0, leb-true 33 m b.1)

-- ---- how much room the parts need
pub points_most : (ps : Parts) (o : Outlines) (q : Pose) (c : Chosen) → FewParts ps → (length (flat same (solids_of ps o q c ++ cuts_of ps o q c)) ≤ 16 * start_of_part ps ps.count)
    × (length (solids_of ps o q c ++ cuts_of ps o q c) ≤ 32)
points_most ps o q c few =
    let a = points-within ps.count (polygon_of ps o q) c (λ i. 16 * segs_of ps i) (polygon_short ps o q) in
    let s = sum-scaled 16 (λ i. 16 * segs_of ps i) (segs_of ps) (λ i. omega arith) ps.count 0 in
    let b = polygons-within ps.count (polygon_of ps o q) c in
    let l = length-append (solids_of ps o q c) (cuts_of ps o q c) in
    let n = few.count in
    (omega (arith, a, s), omega (arith, b, l, n))

pub rows_fit : (ps : Parts) (o : Outlines) (q : Pose) (c : Chosen) (points : List (List Float)) → FewParts ps → 16 * start_of_part ps ps.count ≤ length points
    → length (rows_of (solids_of ps o q c ++ cuts_of ps o q c)) ≤ length points
rows_fit ps o q c points few r =
    let a = (points_most ps o q c few).0 in
    let b = length-map (flat same (solids_of ps o q c ++ cuts_of ps o q c)) row_of in
    omega (arith, a, b, r)
