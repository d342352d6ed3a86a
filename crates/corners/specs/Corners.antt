-- The face, the normals, the disc and the corner of segments (contact/features.rs). Definitions only; the names are the Rust's, with `Of` or `At` behind them.
use Rattle.std.specs.Prelude.{Bool, true, false, ◌&&◌, ◌||◌, cond, Option, Some, None}
use Rattle.std.specs.Float.Ieee.{lt, eq, neg}
use Rattle.ieee.specs.Operators.{◌⊕◌, ◌⊖◌, ◌⊗◌}
use Rattle.ieee.specs.Consts.{zero_f}
use Rattle.geometry.specs.Geometry.{dir_of, start_of}
use Rattle.geometry.specs.declared.Point.{Point}
use Rattle.geometry.specs.declared.Dir.{Dir}
use Rattle.geometry.specs.declared.Seg.{Seg}
use Rattle.geometry.specs.declared.Seg.TheVariants.{Line, Arc}
use Rattle.geometry.specs.declared.signed.Disc.{Disc}
use Rattle.geometry.specs.declared.signed.Face.{Face}

-- ---- normals, faces, vertices
-- the right-hand normal of a direction, normalized anew
abbrev pub right_of : Option Dir → Option Dir
right_of None = None
right_of (Some d) = dir_of d.y (neg d.x)

-- the right-hand normal of the line from a to b
unfoldable pub normal_of : Point → Point → Option Dir
normal_of a b = right_of (dir_of (b.x ⊖ a.x) (b.y ⊖ a.y))

abbrev pub twice : Option Dir → Option (Dir × Dir)
twice None = None
twice (Some n) = Some (n, n)

-- the outward normals at a segment's start and end
unfoldable pub ends_normals : Seg → Option (Dir × Dir)
ends_normals (Line a b) = twice (normal_of a b)
ends_normals (Arc c r from to) = Some (from, to)

abbrev pub facing : Point → Point → Option Dir → Option Face
facing a b None = None
facing a b (Some n) = Some (record { a = a; b = b; normal = n })

unfoldable pub face_of : Seg → Option Face
face_of (Line a b) = facing a b (normal_of a b)
face_of (Arc c r from to) = None

-- the outline turns left, or straight back
unfoldable pub convex_of : Dir → Dir → Bool
convex_of from to =
    let turn = from.x ⊗ to.y ⊖ from.y ⊗ to.x in
    let back = from.x ⊗ to.x ⊕ from.y ⊗ to.y in
    lt zero_f turn || (eq turn zero_f && lt back zero_f)

abbrev pub vertex_at : Point → Option (Dir × Dir) → Option (Dir × Dir) → Option Disc
vertex_at p None e = None
vertex_at p (Some (f, from)) None = None
vertex_at p (Some (f, from)) (Some (to, t)) = cond (convex_of from to) (Some (record { center = p; radius = zero_f; from = from; to = to })) None

unfoldable pub vertex_of : Seg → Seg → Option Disc
vertex_of previous next = vertex_at (start_of next) (ends_normals previous) (ends_normals next)

-- ---- the other way round, arcs and corners
-- a line run the other way; an arc has no such reading
abbrev pub run_back : Seg → Option Seg
run_back (Line a b) = Some (Line b a)
run_back (Arc c r from to) = None

-- the disc of an arc of material
abbrev pub arc_of : Bool → Seg → Option Disc
arc_of true g = None
arc_of false (Line a b) = None
arc_of false (Arc c r from to) = Some (record { center = c; radius = r; from = from; to = to })

-- the vertex between the segment before, where there is one, and g
abbrev pub corner_of : Option Seg → Seg → Option Disc
corner_of None g = None
corner_of (Some p) g = vertex_of p g
