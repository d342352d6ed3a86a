-- The points sampled along a part's silhouette, and the mouths of cuts (contact/rows.rs: `sunk`). Definitions only.
use Rattle.std.specs.Prelude.{ℕ, ◌*◌, Bool, not, ◌&&◌, ◌||◌, cond, List, [], ◌∷◌, map, leb, pos, get_or, Float}
use Rattle.std.specs.Float.{nan, binary64}
use Rattle.std.specs.Float.Ieee.{of_int, of_bits}
use Rattle.laws.specs.Lists.{list_in, flat, any}
use Rattle.laws.specs.Loops.{filter_in}
use Rattle.ieee.specs.Operators.{◌⊕◌, ◌⊖◌, ◌⊗◌, ◌⊘◌}
use Rattle.geometry.specs.Geometry.{start_of, end_of}
use Rattle.geometry.specs.declared.Point.{Point}
use Rattle.geometry.specs.declared.Seg.{Seg}
use Rattle.geometry.specs.declared.Seg.TheVariants.{Line, Arc}
use Rattle.mechanism.specs.Check.{parts_over, same_point}
use Rattle.mechanism.specs.Description.{part_at}
use Rattle.mechanism.specs.Segments.{segs_counted}
use Rattle.bodies.specs.Pose.{world_of}
use Rattle.mechanism.specs.declared.Outlines.{Outlines}
use Rattle.mechanism.specs.declared.Parts.{Parts}
use Rattle.bodies.specs.declared.pose.Pose.{Pose}
use Rattle.silhouette.specs.Silhouette.{silhouette_at}
use Rattle.material.specs.Material.{Edge}
use Rattle.drawing.specs.Drawing.{is_read_cut, drawn_points, placed_of}

-- ---- mouths: the ends of every segment of every cut in the section, on whatever body
abbrev pub ends_of : Seg → Edge
ends_of s = record { a = start_of s; b = end_of s }

unfoldable pub mouths_of : Parts → Outlines → List Edge
mouths_of ps o = flat (λ i. map ends_of (silhouette_at ps o i)) (filter_in (λ i. is_read_cut (part_at ps i)) ps.count 0)

-- the same two ends, either way round, bit for bit
unfoldable pub same_ends : Edge → Edge → Bool
same_ends e m = (same_point e.a m.a && same_point e.b m.b) || (same_point e.a m.b && same_point e.b m.a)

abbrev pub is_mouth : List Edge → Edge → Bool
is_mouth mouths e = any (same_ends e) mouths

-- ---- samples: seventeen points a line, an arc as it is drawn, none along a mouth
abbrev pub sixteen_f : Float
sixteen_f = of_bits binary64 0x4030_0000_0000_0000

abbrev pub on_line : Point → Point → ℕ → Point
on_line a b k =
    let t = of_int binary64 (pos k) ⊘ sixteen_f in
    record { x = a.x ⊕ t ⊗ (b.x ⊖ a.x); y = a.y ⊕ t ⊗ (b.y ⊖ a.y) }

abbrev pub sample_points : Seg → List Point
sample_points (Line a b) = list_in (on_line a b) 17 0
sample_points (Arc c r from to) = drawn_points (Arc c r from to)

unfoldable pub samples_of : List Edge → Seg → List Point
samples_of mouths s = cond (is_mouth mouths (ends_of s)) [] (sample_points s)

-- the samples of part i, placed with its body
unfoldable pub part_samples : Parts → Outlines → Pose → List Edge → ℕ → List Point
part_samples ps o q mouths i = map (world_of (placed_of ps q i)) (flat (samples_of mouths) (silhouette_at ps o i))

-- ---- in lent arrays
abbrev pub mouth_row : Edge → List Float
mouth_row e = e.a.x ∷ e.a.y ∷ e.b.x ∷ e.b.y ∷ []

abbrev pub mouth_in : List Float → Edge
mouth_in l = record { a = record { x = get_or l 0 nan; y = get_or l 1 nan }; b = record { x = get_or l 2 nan; y = get_or l 3 nan } }

abbrev pub mouths_in : List (List Float) → List Edge
mouths_in l = map mouth_in l

-- the array has room for the mouths of these parts, and their segments stand in the rows
abbrev pub mouth_room : Parts → ℕ → ℕ → Bool
mouth_room ps room segs = not (parts_over ps) && (leb (2 * segs_counted ps) room && leb (segs_counted ps) segs)
