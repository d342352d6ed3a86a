-- The material that `draw` and `draw_in` leave in arrays that have room. Assumes nothing.
use Prim.Native.Nat.{ℕ, ◌+◌, ◌≤◌}
use native.Mathlib.Omega.{arith}
use mathlib.Core.Path.{◌≡◌, sym, ap, ◌∙◌}
use mathlib.Core.Bool.{true, not, ◌&&◌}
use mathlib.Core.List.{List, ◌++◌}
use lib.Dec.{leb}
use lib.Ieee.{Float}
use lib.ListN.{length, length-append, length-map}
use borrow.Author.Tests.{le-leb}
use Rattle.laws.specs.Lists.{flat}
use Rattle.laws.proofs.Choice.{and_yes, cond_yes}
use Rattle.mechanism.specs.Check.{FewParts}
use Rattle.mechanism.specs.declared.Outlines.{Outlines}
use Rattle.mechanism.specs.declared.Parts.{Parts}
use Rattle.bodies.specs.declared.pose.Pose.{Pose}
use Rattle.mechanism.proofs.Checks.{parts-few}
use Rattle.material.specs.Material.{drawn_material}
use Rattle.material.specs.declared.DrawnMaterial.{DrawnMaterial}
use Rattle.strips.specs.Strips.{TableRows}
use Rattle.drawing.specs.Drawing.{Laid, Held, solids_of, cuts_of, chosen_material, row_of, same, rows_of, room_for}
use Rattle.drawing.specs.Prepared.{all_drawn, solids_in, cuts_in, material_in, material_or, room_in}
use Rattle.drawing.specs.declared.Chosen.{Chosen}
use Rattle.drawing.specs.declared.Polygons.{Polygons}
use Rattle.drawing.proofs.Held.{held-material, held-in}
use Rattle.drawing.proofs.Rooms.{points_most}

-- ---- the parts of a description
module _ (ps : Parts) (o : Outlines) (q : Pose) (c : Chosen) (few : FewParts ps) (l : List (List Float)) (s : List ℕ) (long : 6144 ≤ length l) (wide : 33 ≤ length s)
    {n : Polygons} {l' : List (List Float)} {s' : List ℕ} (drawn : Laid (room_for ps (length l) (length s)) (solids_of ps o q c) (cuts_of ps o q c) l s n l' s') where
  has_room : room_for ps (length l) (length s) ≡ true
  has_room = and_yes (leb 6144 (length l) && leb 33 (length s)) (ap not (parts-few ps few)) ∙ and_yes (leb 33 (length s)) (le-leb 6144 (length l) long) ∙ le-leb 33 (length s) wide

  fits : length (rows_of (solids_of ps o q c ++ cuts_of ps o q c)) ≤ length l
  fits =
      let a = (points_most ps o q c few).0 in
      let b = length-map (flat same (solids_of ps o q c ++ cuts_of ps o q c)) row_of in
      let t = few.total in
      omega (arith, a, b, t, long)

  places : length (solids_of ps o q c) + length (cuts_of ps o q c) + 1 ≤ length s
  places =
      let a = (points_most ps o q c few).1 in
      let b = length-append (solids_of ps o q c) (cuts_of ps o q c) in
      omega (arith, a, b, wide)

  pub held-chosen : (m : DrawnMaterial) → Held n l' s' m → drawn_material m ≡ chosen_material ps o q c
  unfolding chosen_material
  held-chosen m h = held-material (solids_of ps o q c) (cuts_of ps o q c) _ has_room l s fits places drawn m h

-- ---- those of a prepared description
module _ (t : TableRows) (q : Pose) (c : Chosen) where
  -- where they have no more points than those of any description
  material-here : all_drawn t ≤ 6144 → material_in t q c ≡ material_or t q c
  material-here h = sym (cond_yes _ _ (le-leb (all_drawn t) 6144 h))

  pub held-or : (l : List (List Float)) (s : List ℕ) {n : Polygons} {l' : List (List Float)} {s' : List ℕ} → all_drawn t ≤ 6144 → all_drawn t ≤ length l → 33 ≤ length s
      → Laid (room_in t (length l) (length s)) (solids_in t q c) (cuts_in t q c) l s n l' s' → (m : DrawnMaterial) → Held n l' s' m → drawn_material m ≡ material_or t q c
  held-or l s few long wide drawn m h = held-in t q c l s long wide drawn m h ∙ material-here few
