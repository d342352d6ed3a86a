-- Parts and their silhouettes (contact/mod.rs), operation by operation. Definitions only.
use Rattle.std.specs.Prelude.{ℕ, ◌+◌, ◌-◌, ◌*◌, ◌%◌, ◌≤◌, ◌≡◌, Bool, true, false, not, ◌&&◌, ◌||◌, cond, List, [], ◌++◌, map, reverse, leb, ltb, length, take, drop, get_or, set, Float, Option, Some, None, unwrap_or}
use Rattle.std.specs.Float.Ieee.{lt, eq, neg}
use Rattle.laws.specs.Fill.{filled}
use Rattle.laws.specs.Loops.{any_in}
use Rattle.ieee.specs.Operators.{◌⊕◌, ◌⊗◌}
use Rattle.ieee.specs.Consts.{zero_f, one_f, two_f}
use Rattle.ieee.specs.Num.{abs_of, plain_zero}
use Rattle.geometry.specs.Geometry.{dir_of, start_of, end_of}
use Rattle.geometry.specs.declared.Point.{Point}
use Rattle.geometry.specs.declared.Dir.{Dir}
use Rattle.geometry.specs.declared.Seg.{Seg}
use Rattle.geometry.specs.declared.Seg.TheVariants.{Line, Arc}
use Rattle.mechanism.specs.Check.{point_finite, same_point, parts_over, outline_open}
use Rattle.mechanism.specs.Description.{seg_at, part_at, segs_of, start_of_part, silhouette_length}
use Rattle.mechanism.specs.declared.Parts.{Parts}
use Rattle.mechanism.specs.declared.Outlines.{Outlines}
use Rattle.mechanism.specs.declared.part.OutlineSeg.{OutlineSeg}
use Rattle.mechanism.specs.declared.part.Part.{Part}
use Rattle.mechanism.specs.declared.part.Sweep.{Sweep}
use Rattle.mechanism.specs.declared.part.Sweep.TheVariants.{Extruded, Revolved, Milled, Oval}
use Rattle.silhouette.specs.declared.Outline.{Outline}
use Rattle.silhouette.specs.declared.SilhouetteSegs.{SilhouetteSegs}

-- ---- Sweep
-- the axis that a part is turned about, an abscissa of -0.0 read as +0.0 (document 02, item 6); the silhouette and the search for a centre read it here
abbrev pub axis_of : Sweep → Option Float
axis_of (Extruded w a) = None
axis_of (Revolved x) = Some (plain_zero x)
axis_of (Milled w) = None
axis_of (Oval w) = None

-- the plane of the section cuts the part
abbrev pub in_the_section : Sweep → Bool
in_the_section (Extruded width across) = eq across zero_f || lt (two_f ⊗ abs_of across) width
in_the_section (Revolved x) = true
in_the_section (Milled w) = true
in_the_section (Oval w) = true

-- ---- a segment about the axis, and its mirror
abbrev pub shifted_of : Point → Float → Point
shifted_of p dx = record { x = dx ⊕ p.x; y = p.y }

abbrev pub sided : Float → Point → Point
sided side p = record { x = side ⊗ p.x; y = p.y }

unfoldable pub flip_of : Dir → Dir
flip_of d = unwrap_or (dir_of (neg d.x) d.y) d

unfoldable pub about_axis : Seg → Float → Float → Seg
about_axis (Line a b) axis side = Line (shifted_of (sided side a) axis) (shifted_of (sided side b) axis)
about_axis (Arc c r from to) axis side =
    let center = shifted_of (sided side c) axis in
    cond (lt zero_f side) (Arc center r from to) (Arc center r (flip_of to) (flip_of from))

abbrev pub reversed_of : Seg → Seg
reversed_of (Line a b) = Line b a
reversed_of (Arc c r from to) = Arc c r from to

-- ---- the chain: the outline without its last segment, its two ends carried in to the axis where they are lines
abbrev pub start_in : Seg → Seg
start_in (Line a b) = Line (record { x = zero_f; y = a.y }) b
start_in (Arc c r from to) = Arc c r from to

abbrev pub end_in : Seg → Seg
end_in (Line a b) = Line a (record { x = zero_f; y = b.y })
end_in (Arc c r from to) = Arc c r from to

abbrev pub no_line : Seg
no_line = Line (record { x = zero_f; y = zero_f }) (record { x = zero_f; y = zero_f })

-- element i changed by f
abbrev pub changed : (Seg → Seg) → ℕ → List Seg → List Seg
changed f i l = set l i (f (get_or l i no_line))

unfoldable pub chain_of : List Seg → List Seg
chain_of outline = let n = length outline - 1 in changed end_in (n - 1) (changed start_in 0 (take n outline))

-- ---- Part::silhouette
abbrev pub turned_seg : Float → Seg → Seg
turned_seg axis s = about_axis s axis one_f

abbrev pub mirrored : Float → Seg → Seg
mirrored axis s = reversed_of (about_axis s axis (neg one_f))

-- the chain, then its mirror run backwards
abbrev pub revolved_of : Float → List Seg → List Seg
revolved_of axis chain = map (turned_seg axis) chain ++ map (mirrored axis) (reverse chain)

abbrev pub silhouette_about : Option Float → List Seg → List Seg
silhouette_about None outline = outline
silhouette_about (Some axis) outline = cond (ltb (length outline) 2) [] (revolved_of axis (chain_of outline))

unfoldable pub silhouette_of : Sweep → List Seg → List Seg
silhouette_of sweep outline = silhouette_about (axis_of sweep) outline

-- ---- Part::is_closed: each segment ends where the next begins, and the last where the first begins
abbrev pub joins_next : List Seg → ℕ → Bool
joins_next l i = same_point (end_of (get_or l i no_line)) (start_of (get_or l ((i + 1) % length l) no_line))

unfoldable pub closed_of : List Seg → Bool
closed_of l = leb 2 (length l) && not (any_in (λ i. not (joins_next l i)) (length l) 0)

-- ---- the two halves of a turned part meet on the axis, bit for bit (document 02, item 6)
abbrev pub is_line : Seg → Bool
is_line (Line a b) = true
is_line (Arc c r from to) = false

-- Whatever the axis: the chain's last segment joins its mirror, where that segment is a line,
-- and the silhouette's last segment, the mirror of the chain's first, joins the first, where that is a line.
-- Of an outline of n segments the chain has n - 1.
pub record HalvesMeet : Type 0 where
  pub far_end : (x : Float) (outline : List Seg) → 2 ≤ length outline → is_line (get_or outline (length outline - 2) no_line) ≡ true
      → joins_next (silhouette_of (Revolved x) outline) (length outline - 2) ≡ true
  pub near_end : (x : Float) (outline : List Seg) → 2 ≤ length outline → is_line (get_or outline 0 no_line) ≡ true
      → joins_next (silhouette_of (Revolved x) outline) (2 * (length outline - 1) - 1) ≡ true

-- ---- segments in an array
abbrev pub seg_of : OutlineSeg → Seg
seg_of b = b.seg

abbrev pub boxed : Seg → OutlineSeg
boxed s = record { seg = s }

-- the segments of an outline; an array of 48 holds no more
abbrev pub outline_in : Outline → List Seg
outline_in o = map seg_of (take o.count o.seg)

abbrev pub segs_in : SilhouetteSegs → List Seg
segs_in s = map seg_of (take s.count s.seg)

-- the list as the code answers it
abbrev pub as_outline : List Seg → Outline
as_outline l = record { count = length l; seg = filled 48 (boxed no_line) (map boxed l) }

abbrev pub as_silhouette : List Seg → SilhouetteSegs
as_silhouette l = record { count = length l; seg = filled 94 (boxed no_line) (map boxed l) }

-- ---- of a description
-- of parts that pass no limit, a number below their count names one
abbrev pub is_part : Parts → ℕ → Bool
is_part ps i = not (parts_over ps) && ltb i ps.count

-- n segments from the one numbered `first` on, and what the section sees of a part with these
abbrev pub outline_from : Outlines → ℕ → ℕ → List Seg
outline_from o first n = map seg_of (take n (drop first o.seg))

abbrev pub silhouette_from : Outlines → ℕ → Part → List Seg
silhouette_from o first p = silhouette_of p.sweep (outline_from o first p.segs)

-- how many segments that has; none where the part passes a limit
abbrev pub silhouette_count : Part → ℕ
silhouette_count p = cond (leb p.segs 48) (silhouette_length p.sweep p.segs) 0

-- a part's segments stand behind those of the parts before it
unfoldable pub outline_of : Parts → Outlines → ℕ → List Seg
outline_of ps o i = outline_from o (start_of_part ps i) (segs_of ps i)

-- none where there is no such part
unfoldable pub silhouette_at : Parts → Outlines → ℕ → List Seg
silhouette_at ps o i = cond (is_part ps i) (silhouette_of (part_at ps i).sweep (outline_of ps o i)) []

-- ---- refusal 7 and Part::is_closed (mechanism/mod.rs: `!finite || !part.is_closed()`)
abbrev pub seg_finite : Seg → Bool
seg_finite s = point_finite (start_of s) && point_finite (end_of s)

-- of n segments from the one numbered `first` on, all of them in the array, 7 refuses exactly where one is not finite or the outline is not closed
pub record ClosedAs7 : Type 0 where
  pub refused : (o : Outlines) (first n : ℕ) → first + n ≤ length o.seg
      → outline_open o first n ≡ (any_in (λ i. not (seg_finite (seg_at o (first + i)))) n 0 || not (closed_of (outline_from o first n)))
