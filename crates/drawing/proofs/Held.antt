-- The material that is held at the front of lent arrays, where `draw_from` or `draw_in` has drawn it. Assumes nothing.
use Prim.Native.Nat.{ℕ, ◌+◌, ◌*◌, ◌≤◌}
use native.Mathlib.Omega.{arith}
use mathlib.Core.Path.{◌≡◌, sym, ap, ap₂, ◌∙◌}
use mathlib.Core.Bool.{Bool, true}
use mathlib.Core.List.{List, ◌++◌}
use lib.Ieee.{Float}
use lib.ListN.{length, take, length-map, length-append}
use lib.Seq.{sets}
use Rattle.laws.specs.Lists.{flat}
use Rattle.laws.proofs.Choice.{cond_yes}
use Rattle.geometry.specs.declared.Point.{Point}
use Rattle.mechanism.specs.Check.{FewParts}
use Rattle.mechanism.specs.Description.{start_of_part}
use Rattle.mechanism.specs.Segments.{outlines_in}
use Rattle.mechanism.specs.declared.Parts.{Parts}
use Rattle.bodies.specs.declared.pose.Pose.{Pose}
use Rattle.material.specs.Material.{material_of, drawn_material}
use Rattle.material.specs.declared.DrawnMaterial.{DrawnMaterial}
use Rattle.strips.specs.Strips.{TableRows}
use Rattle.drawing.specs.Drawing.{Laid, Held, row_of, same, rows_of, starts_of, solids_of, cuts_of, chosen_material, room_from, counts_of}
use Rattle.drawing.specs.Prepared.{all_drawn, solids_in, cuts_in, material_in, room_in}
use Rattle.drawing.specs.declared.Chosen.{Chosen}
use Rattle.drawing.specs.declared.Polygons.{Polygons}
use Rattle.drawing.proofs.Laid.{laid, taken-points, taken-starts}
use Rattle.drawing.proofs.Lays.{points_fit, polygons_32, room-here}
use Rattle.drawing.proofs.Rooms.{points_most, room-from-here}

-- ---- polygons in arrays with room
module _ (solids cuts : List (List Point)) (t : Bool) (room : t ≡ true) (l : List (List Float)) (s : List ℕ)
    (fits : length (rows_of (solids ++ cuts)) ≤ length l) (few : length solids + length cuts + 1 ≤ length s)
    {n : Polygons} {l' : List (List Float)} {s' : List ℕ} (drawn : Laid t solids cuts l s n l' s') where
  points_are : l' ≡ sets l 0 (rows_of (solids ++ cuts))
  points_are = drawn.1 ∙ cond_yes _ _ room

  starts-are : s' ≡ sets s 0 (starts_of (solids ++ cuts))
  starts-are = drawn.2 ∙ cond_yes _ _ room

  pub held-material : (m : DrawnMaterial) → Held n l' s' m → drawn_material m ≡ record { solids = solids; cuts = cuts }
  held-material m h =
      let e = length-append solids cuts in
      ap₂ (λ (x : List (List Float)) (y : List ℕ). material_of x y m.solids m.all) h.0 h.1
      ∙ ap₂ (λ (x y : ℕ). material_of (take n.points l') (take (n.all + 1) s') x y) h.2 h.3
      ∙ ap (λ (x : Polygons). material_of (take x.points l') (take (x.all + 1) s') x.solids x.all) (drawn.0 ∙ ap (λ (b : Bool). counts_of b solids cuts) room)
      ∙ ap₂ (λ (x : List (List Float)) (y : List ℕ). material_of x y (length solids) (length solids + length cuts))
      (ap (take (length (flat same (solids ++ cuts)))) points_are ∙ taken-points (solids ++ cuts) l fits)
      (ap₂ (λ (k : ℕ) (y : List ℕ). take (k + 1) y) (sym e) starts-are ∙ taken-starts (solids ++ cuts) s (omega (arith, few, e)))
      ∙ laid solids cuts

-- ---- the polygons of chosen parts whose outlines stand in rows
module _ (ps : Parts) (rows : List (List Float)) (q : Pose) (c : Chosen) (few : FewParts ps) (there : start_of_part ps ps.count ≤ length rows) (l : List (List Float)) (s : List ℕ)
    (long : 16 * start_of_part ps ps.count ≤ length l) (wide : 33 ≤ length s) {n : Polygons} {l' : List (List Float)} {s' : List ℕ}
    (drawn : Laid (room_from ps (length l) (length s) (length rows)) (solids_of ps (outlines_in rows) q c) (cuts_of ps (outlines_in rows) q c) l s n l' s') where
  room : room_from ps (length l) (length s) (length rows) ≡ true
  room = room-from-here ps (length l) (length s) (length rows) few long wide there

  abbrev solids : List (List Point)
  solids = solids_of ps (outlines_in rows) q c

  abbrev cuts : List (List Point)
  cuts = cuts_of ps (outlines_in rows) q c

  fits : length (rows_of (solids ++ cuts)) ≤ length l
  fits =
      let a = (points_most ps (outlines_in rows) q c few).0 in
      let b = length-map (flat same (solids ++ cuts)) row_of in
      omega (arith, a, b, long)

  places : length solids + length cuts + 1 ≤ length s
  places =
      let a = (points_most ps (outlines_in rows) q c few).1 in
      let b = length-append solids cuts in
      omega (arith, a, b, wide)

  pub held-chosen : (m : DrawnMaterial) → Held n l' s' m → drawn_material m ≡ chosen_material ps (outlines_in rows) q c
  unfolding chosen_material
  held-chosen m h = held-material solids cuts _ room l s fits places drawn m h

-- ---- those of a prepared description
module _ (t : TableRows) (q : Pose) (c : Chosen) (l : List (List Float)) (s : List ℕ) (long : all_drawn t ≤ length l)
    (wide : 33 ≤ length s) {n : Polygons} {l' : List (List Float)} {s' : List ℕ}
    (drawn : Laid (room_in t (length l) (length s)) (solids_in t q c) (cuts_in t q c) l s n l' s') where
  fits-in : length (rows_of (solids_in t q c ++ cuts_in t q c)) ≤ length l
  fits-in = let a = points_fit t q c in omega (arith, a, long)

  places-in : length (solids_in t q c) + length (cuts_in t q c) + 1 ≤ length s
  places-in = let a = polygons_32 t q c in omega (arith, a, wide)

  pub held-in : (m : DrawnMaterial) → Held n l' s' m → drawn_material m ≡ material_in t q c
  unfolding material_in
  held-in m h = held-material (solids_in t q c) (cuts_in t q c) _ (room-here t (length l) (length s) long wide) l s fits-in places-in drawn m h
