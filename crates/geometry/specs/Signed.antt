-- geometry/signed.rs, operation by operation. Definitions only.
use Rattle.std.specs.Prelude.{Bool, false, not, cond, ◌&&◌, Float, Option, Some, None, unwrap_or}
use Rattle.std.specs.Float.Ieee.{lt, le, neg}
use Rattle.ieee.specs.Operators.{◌⊕◌, ◌⊖◌, ◌⊗◌, ◌⊘◌}
use Rattle.ieee.specs.Consts.{zero_f, one_f, half_f, sector_slack}
use Rattle.ieee.specs.Num.{finite}
use Rattle.ieee.specs.Root.{root_of}
use Rattle.geometry.specs.Geometry.{vector_of, dir_of}
use Rattle.geometry.specs.declared.Point.{Point}
use Rattle.geometry.specs.declared.Dir.{Dir}
use Rattle.geometry.specs.declared.signed.Disc.{Disc}
use Rattle.geometry.specs.declared.signed.Face.{Face}
use Rattle.geometry.specs.declared.signed.Proximity.{Proximity}

abbrev pub sub_of : Point → Point → Point
sub_of u v = record { x = u.x ⊖ v.x; y = u.y ⊖ v.y }

abbrev pub dot_of : Point → Point → Float
dot_of u v = u.x ⊗ v.x ⊕ u.y ⊗ v.y

abbrev pub cross_of : Point → Point → Float
cross_of u v = u.x ⊗ v.y ⊖ u.y ⊗ v.x

-- the direction's vector turned round
abbrev pub opposite : Dir → Point
opposite n = record { x = neg n.x; y = neg n.y }

-- Under a half turn two half-planes on the side of the bisector; over it all but the inside of the complement; at a half turn one half-plane; no sweep holds nothing.
unfoldable pub in_sector : Point → Dir → Dir → Bool
in_sector u from to =
    let f = vector_of from in
    let t = vector_of to in
    let sweep = cross_of f t in
    cond (lt zero_f sweep) (le (neg sector_slack) (cross_of f u) && le (neg sector_slack) (cross_of u t) && lt zero_f (dot_of u f ⊕ dot_of u t))
    (cond (lt sweep zero_f) (not (lt sector_slack (cross_of t u) && lt sector_slack (cross_of u f)))
    (cond (lt (dot_of f t) zero_f) (le (neg sector_slack) (cross_of f u)) false))

-- where c falls along a face: 0 at its start, 1 at its end
unfoldable pub along_of : Point → Face → Option Float
along_of c face =
    let edge = sub_of face.b face.a in
    let len2 = dot_of edge edge in
    cond (lt zero_f len2 && finite len2) (Some (dot_of (sub_of c face.a) edge ⊘ len2)) None

-- (0.0..=1.0).contains
abbrev pub on_span : Option Float → Bool
on_span (Some t) = le zero_f t && le t one_f
on_span None = false

unfoldable pub disc_on_face : Disc → Face → Option Proximity
disc_on_face disc face =
    let c = disc.center in
    let n = vector_of face.normal in
    let gap = dot_of (sub_of c face.a) n ⊖ disc.radius in
    let back = disc.radius ⊕ half_f ⊗ gap in
    cond (on_span (along_of c face))
    (cond (in_sector (opposite face.normal) disc.from disc.to)
    (Some (record { gap = gap; normal = face.normal; point = record { x = c.x ⊖ back ⊗ n.x; y = c.y ⊖ back ⊗ n.y } }))
    None)
    None

-- two discs whose centres lie apart in the direction normal
abbrev pub discs_along : Disc → Disc → Option Dir → Option Proximity
discs_along a b None = None
discs_along a b (Some normal) =
    let d = sub_of a.center b.center in
    let gap = root_of (dot_of d d) ⊖ a.radius ⊖ b.radius in
    let out = b.radius ⊕ half_f ⊗ gap in
    cond (in_sector (opposite normal) a.from a.to)
    (cond (in_sector (vector_of normal) b.from b.to)
    (Some (record { gap = gap; normal = normal; point = record { x = b.center.x ⊕ out ⊗ normal.x; y = b.center.y ⊕ out ⊗ normal.y } }))
    None)
    None

unfoldable pub disc_on_disc : Disc → Disc → Option Proximity
disc_on_disc a b = let d = sub_of a.center b.center in discs_along a b (dir_of d.x d.y)

-- a centre on a face, whose normal turned round is normalized anew
abbrev pub center_along : Point → Face → Option Dir → Option Proximity
center_along center face None = None
center_along center face (Some normal) =
    let n = vector_of face.normal in
    let gap = dot_of (sub_of center face.a) n in
    let h = half_f ⊗ gap in
    Some (record { gap = gap; normal = normal; point = record { x = center.x ⊖ h ⊗ n.x; y = center.y ⊖ h ⊗ n.y } })

unfoldable pub center_on_face : Point → Face → Option Proximity
center_on_face center face =
    let n = opposite face.normal in
    cond (on_span (along_of center face)) (center_along center face (dir_of n.x n.y)) None

-- ---- Proximity
unfoldable pub reversed_of : Proximity → Proximity
reversed_of p = let n = opposite p.normal in record { gap = p.gap; normal = unwrap_or (dir_of n.x n.y) p.normal; point = p.point }

-- the points of A's and of B's surface: midway plus and less half the gap along the normal
abbrev pub on_a : Proximity → Point
on_a p = let h = half_f ⊗ p.gap in record { x = p.point.x ⊕ h ⊗ p.normal.x; y = p.point.y ⊕ h ⊗ p.normal.y }

abbrev pub on_b : Proximity → Point
on_b p = let h = half_f ⊗ p.gap in record { x = p.point.x ⊖ h ⊗ p.normal.x; y = p.point.y ⊖ h ⊗ p.normal.y }
