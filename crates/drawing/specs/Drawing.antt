-- The drawn material of parts at a pose (contact/rows.rs: `material`, `material_of`, `is_read`, `is_sampled`), and its polygons in lent arrays. Definitions only.
use Rattle.std.specs.Prelude.{ℕ, ◌+◌, ◌*◌, ◌≡◌, Bool, true, false, not, ◌&&◌, ◌||◌, cond, List, [], ◌∷◌, ◌++◌, map, eqb, leb, min, length, take, get_or, Float}
use Rattle.std.proofs.lemmas.List.Edits.{sets}
use Rattle.laws.specs.Lists.{list_in, flat, any}
use Rattle.laws.specs.Loops.{filter_in}
use Rattle.geometry.specs.Geometry.{drawn_of}
use Rattle.geometry.specs.declared.Point.{Point}
use Rattle.geometry.specs.declared.Seg.{Seg}
use Rattle.mechanism.specs.Check.{parts_over}
use Rattle.mechanism.specs.Description.{part_at, range_at, segs_of, sum_in}
use Rattle.mechanism.specs.Segments.{segs_counted}
use Rattle.bodies.specs.Pose.{placement_at, world_of}
use Rattle.mechanism.specs.declared.Outlines.{Outlines}
use Rattle.mechanism.specs.declared.Parts.{Parts}
use Rattle.mechanism.specs.declared.pair.Surface.{Surface}
use Rattle.mechanism.specs.declared.part.Part.{Part}
use Rattle.mechanism.specs.declared.part.Role.{Role}
use Rattle.mechanism.specs.declared.part.Role.TheVariants.{Solid, Cut, Lining}
use Rattle.mechanism.specs.declared.part.SurfaceRef.{SurfaceRef}
use Rattle.bodies.specs.declared.pose.Placement.{Placement}
use Rattle.bodies.specs.declared.pose.Pose.{Pose}
use Rattle.silhouette.specs.Silhouette.{in_the_section, silhouette_at}
use Rattle.material.specs.Material.{Material}
use Rattle.material.specs.declared.DrawnMaterial.{DrawnMaterial}
use Rattle.drawing.specs.declared.Chosen.{Chosen}
use Rattle.drawing.specs.declared.outlined.Cursor.{Cursor}
use Rattle.drawing.specs.declared.Polygons.{Polygons}

-- where the outline of part i starts, behind those of the parts before it, of which none counts more than the limit, 48 segments
abbrev pub start_within : Parts → ℕ → ℕ
start_within ps i = sum_in (λ k. min (segs_of ps k) 48) i 0

-- the same of each part
abbrev pub part_starts : Parts → List ℕ
part_starts ps = list_in (start_within ps) 32 0

-- ---- which parts the overlap readings read
abbrev pub is_cut : Role → Bool
is_cut Solid = false
is_cut Cut = true
is_cut Lining = false

-- a solid or a lining in the section
abbrev pub is_sampled : Part → Bool
is_sampled p = not (is_cut p.role) && in_the_section p.sweep

-- a cut in the section
abbrev pub is_read_cut : Part → Bool
is_read_cut p = is_cut p.role && in_the_section p.sweep

-- ---- polygons
abbrev pub drawn_points : Seg → List Point
drawn_points s = take (drawn_of s).count (drawn_of s).points

abbrev pub placed_of : Parts → Pose → ℕ → Placement
placed_of ps q i = placement_at q (part_at ps i).body

-- a part's silhouette as it is drawn, placed with its body
unfoldable pub polygon_of : Parts → Outlines → Pose → ℕ → List Point
polygon_of ps o q i = map (world_of (placed_of ps q i)) (flat drawn_points (silhouette_at ps o i))

-- the polygons of the parts that pass, in order
abbrev pub polygons_of : Parts → Outlines → Pose → (ℕ → Bool) → List (List Point)
polygons_of ps o q p = map (polygon_of ps o q) (filter_in p ps.count 0)

-- ---- the material of a side: the parts of its ranges that are sampled, or, where there is none, all sampled parts of its body; less the cuts of its body,
-- where they are asked for
abbrev pub ranges_in : Surface → List SurfaceRef
ranges_in u = take u.count u.range

abbrev pub body_of_side : Parts → Surface → ℕ
body_of_side ps u = (part_at ps (range_at u 0).part).body

abbrev pub on_side : Parts → Surface → ℕ → Bool
on_side ps u i = eqb (part_at ps i).body (body_of_side ps u)

abbrev pub is_own : Surface → ℕ → Bool
is_own u i = any (λ r. eqb r.part i) (ranges_in u)

abbrev pub has_own : Parts → Surface → Bool
has_own ps u = any (λ r. is_sampled (part_at ps r.part)) (ranges_in u)

abbrev pub solid_in : Parts → Surface → ℕ → Bool
solid_in ps u i = on_side ps u i && (is_sampled (part_at ps i) && (not (has_own ps u) || is_own u i))

abbrev pub cut_in : Parts → Surface → Bool → ℕ → Bool
cut_in ps u cuts i = on_side ps u i && (is_read_cut (part_at ps i) && cuts)

unfoldable pub side_material : Parts → Outlines → Pose → Surface → Bool → Material
side_material ps o q u cuts = record { solids = polygons_of ps o q (solid_in ps u); cuts = polygons_of ps o q (cut_in ps u cuts) }

-- ---- parts chosen by number: 1 a solid, 2 a cut, anything else is left out
abbrev pub chosen_as : Chosen → ℕ → ℕ → Bool
chosen_as c w i = eqb (get_or c.what i 0) w

abbrev pub solids_of : Parts → Outlines → Pose → Chosen → List (List Point)
solids_of ps o q c = polygons_of ps o q (chosen_as c 1)

abbrev pub cuts_of : Parts → Outlines → Pose → Chosen → List (List Point)
cuts_of ps o q c = polygons_of ps o q (chosen_as c 2)

unfoldable pub chosen_material : Parts → Outlines → Pose → Chosen → Material
chosen_material ps o q c = record { solids = solids_of ps o q c; cuts = cuts_of ps o q c }

-- a solid, a cut or neither
abbrev pub what_is : Bool → Bool → ℕ
what_is solid cut = cond solid 1 (cond cut 2 0)

-- the parts of a side, as they are chosen
unfoldable pub side_chosen : Parts → Surface → Bool → Chosen
side_chosen ps u cuts = record { what = list_in (λ i. what_is (solid_in ps u i) (cut_in ps u cuts i)) 32 0 }

-- ---- polygons in lent arrays: all points, a row of two numbers each, one polygon behind the other; and where each polygon starts and the last one ends
abbrev pub row_of : Point → List Float
row_of p = p.x ∷ p.y ∷ []

abbrev pub same : List Point → List Point
same l = l

abbrev pub rows_of : List (List Point) → List (List Float)
rows_of polys = map row_of (flat same polys)

-- where each polygon ends, the first one starting at a
unfoldable pub ends_from : ℕ → List (List Point) → List ℕ
ends_from a [] = []
ends_from a (p ∷ polys) = (a + length p) ∷ ends_from (a + length p) polys

abbrev pub starts_of : List (List Point) → List ℕ
starts_of polys = 0 ∷ ends_from 0 polys

-- the polygons of those of n parts that are chosen as w, in order
abbrev pub chosen_polygons : (ℕ → List Point) → ℕ → Chosen → ℕ → List (List Point)
chosen_polygons polygon n c w = map polygon (filter_in (chosen_as c w) n 0)

-- what `Polygons::held` lends of arrays
abbrev pub Held : Polygons → List (List Float) → List ℕ → DrawnMaterial → Type 0
Held n points starts m = (m.points.now ≡ take n.points points) × (m.starts.now ≡ take (n.all + 1) starts) × (m.solids ≡ n.solids) × (m.all ≡ n.all)

abbrev pub cursor_after : Cursor → List (List Point) → Cursor
cursor_after c polys = record { at = c.at + length (flat same polys); count = c.count + length polys }

-- the arrays have room for any parts that pass no limit
abbrev pub room_for : Parts → ℕ → ℕ → Bool
room_for ps points starts = not (parts_over ps) && (leb 6144 points && leb 33 starts)

-- so many points at most all polygons have
abbrev pub drawn_most : Parts → ℕ
drawn_most ps = 16 * segs_counted ps

-- the arrays have room for these parts, and their segments stand in the rows
abbrev pub room_from : Parts → ℕ → ℕ → ℕ → Bool
room_from ps points starts segs = not (parts_over ps) && (leb (drawn_most ps) points && (leb 33 starts && leb (segs_counted ps) segs))

abbrev pub counts_of : Bool → List (List Point) → List (List Point) → Polygons
counts_of true solids cuts = record { solids = length solids; all = length solids + length cuts; points = length (flat same (solids ++ cuts)) }
counts_of false solids cuts = record { solids = 0; all = 0; points = 0 }

-- what is drawn of solids and cuts where there is room for them: how many there are, their points, and where each of them starts; nothing where there is none
abbrev pub Laid : Bool → List (List Point) → List (List Point) → List (List Float) → List ℕ → Polygons → List (List Float) → List ℕ → Type 0
Laid there solids cuts points₀ starts₀ n points starts =
    (n ≡ counts_of there solids cuts)
    × (points ≡ cond there (sets points₀ 0 (rows_of (solids ++ cuts))) points₀)
    × (starts ≡ cond there (sets starts₀ 0 (starts_of (solids ++ cuts))) starts₀)
