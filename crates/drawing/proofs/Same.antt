-- Polygons, mouths, samples, material and the tables of points ask of the outlines the silhouettes alone. Assumes nothing.
use Prim.Native.Nat.{ℕ, ◌≤◌}
use native.Mathlib.Omega.{arith}
use mathlib.Core.Path.{◌≡◌, sym, ap, ap₂, subst, ◌∙◌}
use mathlib.Core.Bool.{Bool, true, cond}
use mathlib.Core.List.{List, [], ◌∷◌, map}
use lib.Ieee.{Float}
use lib.ListN.{length}
use lib.Seq.{sets}
use Rattle.laws.specs.Lists.{flat}
use Rattle.laws.specs.Loops.{filter_in}
use Rattle.laws.proofs.Lists.{map_each, flat-each, list_same}
use Rattle.geometry.specs.declared.Point.{Point}
use Rattle.geometry.specs.declared.Seg.{Seg}
use Rattle.mechanism.specs.Check.{FewParts}
use Rattle.mechanism.specs.Description.{part_at, start_of_part}
use Rattle.mechanism.specs.Segments.{outlines_in, seg_rows, segs_fit, segs_counted}
use Rattle.mechanism.proofs.SegRows.{rows_long}
use Rattle.mechanism.specs.declared.Outlines.{Outlines}
use Rattle.mechanism.specs.declared.Parts.{Parts}
use Rattle.mechanism.specs.declared.pair.Surface.{Surface}
use Rattle.bodies.specs.Pose.{world_of}
use Rattle.bodies.specs.declared.pose.Pose.{Pose}
use Rattle.silhouette.specs.Silhouette.{silhouette_at}
use Rattle.silhouette.proofs.BySegment.{put-long, put_same}
use Rattle.material.specs.Material.{Edge}
use Rattle.drawing.specs.Drawing.{Laid, is_sampled, is_read_cut, drawn_points, row_of, placed_of, polygon_of, polygons_of, solid_in, cut_in, side_material, chosen_as, solids_of, cuts_of}
use Rattle.drawing.specs.Drawing.{room_for, room_from}
use Rattle.drawing.specs.Points.{up_to, drawn_of, sampled_of, drawn_up_to, sampled_up_to, part_row, drawn_table, sampled_table, part_table}
use Rattle.drawing.specs.Samples.{ends_of, mouths_of, samples_of, part_samples}
use Rattle.drawing.specs.declared.Chosen.{Chosen}
use Rattle.drawing.specs.declared.Polygons.{Polygons}
use Rattle.drawing.proofs.Rooms.{has_room, room-from-here}

module _ (ps : Parts) (o o' : Outlines) (same : (i : ℕ) → silhouette_at ps o i ≡ silhouette_at ps o' i) where
  polygon_same : (q : Pose) (i : ℕ) → polygon_of ps o q i ≡ polygon_of ps o' q i
  unfolding polygon_of
  polygon_same q i = ap (λ (l : List Seg). map (world_of (placed_of ps q i)) (flat drawn_points l)) (same i)

  pub polygons_same : (q : Pose) (p : ℕ → Bool) → polygons_of ps o q p ≡ polygons_of ps o' q p
  polygons_same q p = map_each (polygon_of ps o q) (polygon_of ps o' q) (polygon_same q) (filter_in p ps.count 0)

  pub listed_same : (q : Pose) (l : List ℕ) → map (polygon_of ps o q) l ≡ map (polygon_of ps o' q) l
  listed_same q l = map_each (polygon_of ps o q) (polygon_of ps o' q) (polygon_same q) l

  pub mouths-same : mouths_of ps o ≡ mouths_of ps o'
  unfolding mouths_of
  mouths-same =
      flat-each (λ i. map ends_of (silhouette_at ps o i)) (λ i. map ends_of (silhouette_at ps o' i)) (λ i. ap (map ends_of) (same i)) (filter_in (λ i. is_read_cut (part_at ps i)) ps.count 0)

  pub samples_same : (q : Pose) (mouths : List Edge) (i : ℕ) → part_samples ps o q mouths i ≡ part_samples ps o' q mouths i
  unfolding part_samples
  samples_same q mouths i = ap (λ (l : List Seg). map (world_of (placed_of ps q i)) (flat (samples_of mouths) l)) (same i)

  pub side_same : (q : Pose) (u : Surface) (cuts : Bool) → side_material ps o q u cuts ≡ side_material ps o' q u cuts
  unfolding side_material
  side_same q u cuts = ap₂ (λ (x y : List (List Point)). record { solids = x; cuts = y }) (polygons_same q (solid_in ps u)) (polygons_same q (cut_in ps u cuts))

-- ---- the rows into which the counted segments of outlines as a value were put
module _ (ps : Parts) (o : Outlines) (l : List (List Float)) {k : ℕ} {rows : List (List Float)} (long : length o.seg ≡ 384) (room : length l ≡ 384)
    (counted : (k ≡ segs_counted ps) × (k ≤ 384)) (put : rows ≡ cond (segs_fit k (length l)) (sets l 0 (seg_rows o k)) l) where
  rows-384 : length rows ≡ 384
  rows-384 = let b = counted.1 in sym (rows_long rows) ∙ put-long ps o l long counted (omega (arith, b, room)) put ∙ room

  pub silhouettes : (i : ℕ) → silhouette_at ps (outlines_in rows) i ≡ silhouette_at ps o i
  silhouettes = let b = counted.1 in put_same ps o l long counted (omega (arith, b, room)) put

  pub segs_within : FewParts ps → start_of_part ps ps.count ≤ length rows
  segs_within few = let e = rows-384 in let t = few.total in omega (arith, e, t)

-- `draw` of outlines as a value
module _ (ps : Parts) (o : Outlines) (q : Pose) (c : Chosen) (points₀ : List (List Float)) (starts₀ : List ℕ) (l : List (List Float)) {k : ℕ} {rows : List (List Float)}
    (long : length o.seg ≡ 384) (room : length l ≡ 384)
    (counted : (k ≡ segs_counted ps) × (k ≤ 384)) (put : rows ≡ cond (segs_fit k (length l)) (sets l 0 (seg_rows o k)) l)
    (fits : room_for ps (length points₀) (length starts₀) ≡ true) where
  both-rooms : room_from ps (length points₀) (length starts₀) (length rows) ≡ room_for ps (length points₀) (length starts₀)
  both-rooms =
      let h = has_room ps (length points₀) (length starts₀) fits in
      let t = h.0.total in
      let n = h.1 in
      let e = rows-384 ps o l long room counted put in
      room-from-here ps (length points₀) (length starts₀) (length rows) h.0 (omega (arith, t, n)) h.2 (omega (arith, t, e)) ∙ sym fits

  pub drawn-put : {r : Polygons} {points : List (List Float)} {st : List ℕ}
      → Laid (room_from ps (length points₀) (length starts₀) (length rows)) (solids_of ps (outlines_in rows) q c) (cuts_of ps (outlines_in rows) q c) points₀ starts₀ r points st
      → Laid (room_for ps (length points₀) (length starts₀)) (solids_of ps o q c) (cuts_of ps o q c) points₀ starts₀ r points st
  drawn-put {r} {points} {st} d =
      let there = room_from ps (length points₀) (length starts₀) (length rows) in
      let same = silhouettes ps o l long room counted put in
      let a = polygons_same ps (outlines_in rows) o same q (chosen_as c 1) in
      let b = polygons_same ps (outlines_in rows) o same q (chosen_as c 2) in
      subst (λ (x : Bool). Laid x (solids_of ps o q c) (cuts_of ps o q c) points₀ starts₀ r points st) both-rooms
      (subst (λ (x : List (List Point)). Laid there (solids_of ps o q c) x points₀ starts₀ r points st) b
      (subst (λ (x : List (List Point)). Laid there x (cuts_of ps (outlines_in rows) q c) points₀ starts₀ r points st) a d))

-- ---- the tables of points and parts
module _ (ps : Parts) (o o' : Outlines) (same : (i : ℕ) → silhouette_at ps o i ≡ silhouette_at ps o' i) where
  drawn-of : (i : ℕ) → drawn_of ps o i ≡ drawn_of ps o' i
  unfolding drawn_of
  drawn-of i = ap (flat drawn_points) (same i)

  sampled_of_lem : (i : ℕ) → sampled_of ps o i ≡ sampled_of ps o' i
  unfolding sampled_of
  sampled_of_lem i = ap₂ (λ (m : List Edge) (l : List Seg). cond (is_sampled (part_at ps i)) (flat (samples_of m) l) []) (mouths-same ps o o' same) (same i)

  drawn-up : (n : ℕ) → drawn_up_to ps o n ≡ drawn_up_to ps o' n
  drawn-up n = flat-each (drawn_of ps o) (drawn_of ps o') drawn-of (up_to n)

  sampled_up : (n : ℕ) → sampled_up_to ps o n ≡ sampled_up_to ps o' n
  sampled_up n = flat-each (sampled_of ps o) (sampled_of ps o') sampled_of_lem (up_to n)

  part-row : (i : ℕ) → part_row ps o i ≡ part_row ps o' i
  part-row i =
      ap₂ (λ (x y : List Point). (part_at ps i).body ∷ length x ∷ length y ∷ length (sampled_up_to ps o i) ∷ length (sampled_of ps o i) ∷ []) (drawn-up i) (drawn-of i)
      ∙ ap₂ (λ (x y : List Point). (part_at ps i).body ∷ length (drawn_up_to ps o' i) ∷ length (drawn_of ps o' i) ∷ length x ∷ length y ∷ []) (sampled_up i) (sampled_of_lem i)

  pub tables_same : (drawn_table ps o ≡ drawn_table ps o') × (sampled_table ps o ≡ sampled_table ps o') × (part_table ps o ≡ part_table ps o')
  tables_same = (ap (map row_of) (drawn-up ps.count), ap (map row_of) (sampled_up ps.count), list_same (part_row ps o) (part_row ps o') part-row ps.count 0)
