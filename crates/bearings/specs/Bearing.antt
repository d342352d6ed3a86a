-- How side A of a pair bears on side B (contact/bearing.rs: `bearing`, `facing`, `slope_of`), in the Rust's order of operations. Definitions only.
use Rattle.std.specs.Prelude.{ℕ, Bool, true, false, ◌&&◌, ◌||◌, cond, List, [], ◌∷◌, eqb, ltb, get_or, Float, Option, Some, None, Ok, Err, Result}
use Rattle.std.specs.Float.{nan}
use Rattle.std.specs.Float.Ieee.{lt, le, eq, neg}
use Rattle.laws.specs.Lists.{foldl, flat, any}
use Rattle.ieee.specs.Consts.{zero_f, one_f, half_f, flat_within}
use Rattle.ieee.specs.Num.{abs_of}
use Rattle.ieee.specs.Operators.{◌⊕◌, ◌⊗◌, ◌⊘◌}
use Rattle.ieee.specs.Root.{root_of}
use Rattle.ieee.specs.TotalOrder.{total_order}
use Rattle.geometry.specs.Geometry.{vector_of, dir_of, on_circle}
use Rattle.geometry.specs.Signed.{sub_of, dot_of, cross_of}
use Rattle.geometry.specs.declared.Point.{Point}
use Rattle.geometry.specs.declared.signed.Disc.{Disc}
use Rattle.geometry.specs.declared.signed.Face.{Face}
use Rattle.mechanism.specs.Check.{call_checked, same_point}
use Rattle.mechanism.specs.Description.{pair_at}
use Rattle.mechanism.specs.Piece.{is_disc, letter_of, same_piece}
use Rattle.bodies.specs.Pose.{placement_at, rotate_of, world_of, pose_fits}
use Rattle.mechanism.specs.Rows.{row_in}
use Rattle.mechanism.specs.declared.Mechanism.{Mechanism}
use Rattle.mechanism.specs.declared.bearing.HowItBears.{HowItBears}
use Rattle.mechanism.specs.declared.bearing.HowItBears.TheVariants.{Flat, StopEdge, KeyCorner}
use Rattle.mechanism.specs.declared.features.Piece.{Piece}
use Rattle.bodies.specs.declared.pose.Placement.{Placement}
use Rattle.bodies.specs.declared.pose.Pose.{Pose}
use Rattle.mechanism.specs.declared.rows.Row.{Row}
use Rattle.sides.specs.Contacts.{pair_features}
use Rattle.sides.specs.declared.PlacedDisc.{PlacedDisc}
use Rattle.sides.specs.declared.PlacedFace.{PlacedFace}
use Rattle.sides.specs.declared.SideFeatures.{SideFeatures}
use Rattle.sides.specs.declared.contacts.PairFeatures.{PairFeatures}
use Rattle.faces.specs.Faces.{along_of}
use Rattle.sides.specs.Features.{faces_in, discs_in}
use Rattle.governing.specs.Governing.{governing_of}
use Rattle.bodies.specs.declared.Problem.{Problem}
use Rattle.bodies.specs.Check.{Checked}
use Rattle.geometry.specs.declared.Dir.{Dir}
use Rattle.mechanism.specs.declared.bearing.Bearing.{Bearing}
use Rattle.bearings.specs.declared.Aim.{Aim}

-- ---- the ends of a piece, and the faces that meet it
-- a disc's two ends; a corner's are both computed from its centre
abbrev pub start_of_disc : Disc → Point
start_of_disc d = on_circle d.center d.radius d.from

abbrev pub end_of_disc : Disc → Point
end_of_disc d = on_circle d.center d.radius d.to

-- the ends of one disc, where it has the piece
abbrev pub ends_if : Piece → PlacedDisc → List Point
ends_if piece d = cond (same_piece d.piece piece) (start_of_disc d.disc ∷ end_of_disc d.disc ∷ []) []

unfoldable pub ends_of : Piece → List PlacedDisc → List Point
ends_of piece ds = flat (ends_if piece) ds

-- one of a face's ends is a point, bit for bit
abbrev pub at_end : Face → Point → Bool
at_end f e = same_point e f.a || same_point e f.b

-- a face meets a piece where one of the piece's ends is one of its own
abbrev pub meets : List Point → Face → Bool
meets ends f = any (at_end f) ends

-- the first end
abbrev pub first_of : List Point → Option Point
first_of [] = None
first_of (p ∷ ps) = Some p

-- the first face with the piece
unfoldable pub face_named : Piece → List PlacedFace → Option Face
face_named piece [] = None
face_named piece (f ∷ fs) = cond (same_piece f.piece piece) (Some f.face) (face_named piece fs)

-- ---- scores, and max_by, which keeps the last of equals
-- how a face faces the other side: its turned normal along the row's
abbrev pub facing_of : Placement → Point → Face → Float
facing_of place normal f = dot_of (rotate_of place (vector_of f.normal)) normal

-- how far a face runs from the corner toward a point
abbrev pub reach_of : Placement → Point → Point → Face → Float
reach_of place corner toward f =
    let s = world_of place f.a in
    let e = world_of place f.b in
    let run = sub_of (cond (same_point s corner) e s) corner in
    dot_of (sub_of toward corner) run ⊘ root_of (dot_of run run)

abbrev pub score_of : Aim → Face → Float
score_of k f = cond k.reaching (reach_of k.place k.corner k.toward f) (facing_of k.place k.toward f)

abbrev pub later_of : (Face → Float) → Option Face → Face → Option Face
later_of score None g = Some g
later_of score (Some f) g = cond (total_order (score f) (score g)) (Some g) (Some f)

abbrev pub best_step : (Face → Bool) → (Face → Float) → Option Face → PlacedFace → Option Face
best_step p score best f = cond (p f.face) (later_of score best f.face) best

-- of the faces that pass the last with the highest score
unfoldable pub best_face : (Face → Bool) → (Face → Float) → List PlacedFace → Option Face
best_face p score fs = foldl (best_step p score) None fs

-- ---- slopes
-- the way that a face runs, turned into the world
abbrev pub run_of : Placement → Face → Point
run_of place f = rotate_of place (sub_of f.b f.a)

-- a run turned round where it runs the other way
abbrev pub alongside : Point → Point → Point
alongside s k = cond (lt (dot_of k s) zero_f) (record { x = neg k.x; y = neg k.y }) k

abbrev pub slope_along : Point → Point → Option Float
slope_along s k = cond (eq (dot_of s k) zero_f) None (Some (cross_of s k ⊘ dot_of s k))

abbrev pub slope_over : Option Dir → Point → Option Float
slope_over None k = None
slope_over (Some d) k = slope_along (vector_of d) (alongside (vector_of d) k)

-- of the key's face over the stop's
unfoldable pub slope_of : Placement → Face → Placement → Face → Option Float
slope_of placeB stop placeA key = slope_over (dir_of (run_of placeB stop).x (run_of placeB stop).y) (run_of placeA key)

abbrev pub slope_between : Placement → Option Face → Placement → Option Face → Option Float
slope_between placeB None placeA key = None
slope_between placeB (Some s) placeA None = None
slope_between placeB (Some s) placeA (Some k) = slope_of placeB s placeA k

-- ---- flat
-- the point falls within the key's placed face, ends included
abbrev pub spans : Placement → Face → Point → Bool
spans place f p = let t = along_of p (world_of place f.a) (world_of place f.b) in le zero_f t && le t one_f

abbrev pub is_level : Option Float → Float → Bool
is_level None length = false
is_level (Some x) length = le (abs_of x ⊗ length) flat_within

unfoldable pub is_flat : Placement → Face → Placement → Face → Option Float → Bool
is_flat placeB stop placeA key slope =
    let run = run_of placeB stop in
    (spans placeA key (world_of placeB stop.a) && spans placeA key (world_of placeB stop.b)) && is_level slope (root_of (dot_of run run))

-- ---- the bearing that a row shows
abbrev pub bears_as : HowItBears → Row → Option Float → Option Bearing
bears_as how r slope = Some (record { how = how; gap = r.gap; point = r.point; slope = slope })

-- the stop's face at a disc of its own
unfoldable pub stop_at : SideFeatures → Placement → Row → Option Face
stop_at b place r = best_face (meets (ends_of r.feature.b (discs_in b))) (facing_of place (vector_of r.normal)) (faces_in b)

-- the stop's face under a corner of the key
abbrev pub stop_under : SideFeatures → Placement → Row → Option Face
stop_under b place r = cond (eqb (letter_of r.feature.b) 0) (face_named r.feature.b (faces_in b)) (stop_at b place r)

abbrev pub toward_of : Placement → Option Face → Point → Point
toward_of place None p = p
toward_of place (Some f) p =
    let s = world_of place f.a in
    let e = world_of place f.b in
    record { x = half_f ⊗ (s.x ⊕ e.x); y = half_f ⊗ (s.y ⊕ e.y) }

unfoldable pub key_at : SideFeatures → Placement → Piece → Point → Point → Option Face
key_at a place piece corner toward = best_face (meets (ends_of piece (discs_in a))) (reach_of place corner toward) (faces_in a)

-- on a corner of the key, which is the first end of its piece
abbrev pub corner_on : SideFeatures → Placement → Option Face → Placement → Row → Option Point → Option Bearing
corner_on a placeA stop placeB r None = None
corner_on a placeA stop placeB r (Some p) =
    bears_as KeyCorner r (slope_between placeB stop placeA (key_at a placeA r.feature.a (world_of placeA p) (toward_of placeB stop r.point)))

unfoldable pub corner_bearing : SideFeatures → Placement → SideFeatures → Placement → Row → Option Bearing
corner_bearing a placeA b placeB r = corner_on a placeA (stop_under b placeB r) placeB r (first_of (ends_of r.feature.a (discs_in a)))

-- on an edge of the stop, or flat
abbrev pub edge_on : Placement → Option Face → Placement → Option Face → Row → Option Bearing
edge_on placeA None placeB stop r = None
edge_on placeA (Some k) placeB None r = bears_as StopEdge r None
edge_on placeA (Some k) placeB (Some s) r =
    let slope = slope_of placeB s placeA k in
    bears_as (cond (is_flat placeB s placeA k slope) Flat StopEdge) r slope

unfoldable pub edge_bearing : SideFeatures → Placement → SideFeatures → Placement → Row → Option Bearing
edge_bearing a placeA b placeB r = edge_on placeA (face_named r.feature.a (faces_in a)) placeB (stop_at b placeB r) r

-- a centre piece gives none
unfoldable pub bearing_of : PairFeatures → Pose → Row → Option Bearing
bearing_of f q r =
    let placeA = placement_at q f.a.body in
    let placeB = placement_at q f.b.body in
    cond (eqb (letter_of r.feature.b) 3) None
    (cond (is_disc r.feature.a) (corner_bearing f.a placeA f.b placeB r) (edge_bearing f.a placeA f.b placeB r))

-- ---- read off the governing row of whatever rows are lent: none for a pair that the description lacks
abbrev pub governed_bearing : PairFeatures → Pose → (ℕ → Row) → Option ℕ → Option Bearing
governed_bearing f q row None = None
governed_bearing f q row (Some i) = bearing_of f q (row i)

abbrev pub row_at : List (List ℕ) → List (List Float) → ℕ → Row
row_at places values i = row_in (get_or places i []) (get_or values i [])

abbrev pub bearing_if : Checked → Option Bearing → Result (Option Bearing) Problem
bearing_if (Ok tt) b = Ok b
bearing_if (Err p) b = Err p

-- the answer for n rows given by their numbers
abbrev pub bearing_from : Mechanism → Pose → (ℕ → Row) → ℕ → ℕ → Result (Option Bearing) Problem
bearing_from m q row n pair =
    bearing_if (call_checked m (pose_fits m.bodies q) true true)
    (cond (ltb pair m.pairs.count)
    (governed_bearing (pair_features m.parts m.outlines (pair_at m.pairs pair)) q row (governing_of (λ i. (row i).pair) (λ i. (row i).gap) n pair))
    None)

-- ---- the ends in a lent array, two numbers each
abbrev pub spot_of : Point → List Float
spot_of p = p.x ∷ p.y ∷ []

abbrev pub point_in : List Float → Point
point_in s = record { x = get_or s 0 nan; y = get_or s 1 nan }

abbrev pub meets_row : Face → List Float → Bool
meets_row f s = at_end f (point_in s)
