-- How far side B's drawn faces stand past side A's (contact/bearing.rs: `face_overlap`), in the Rust's order of operations. Definitions only.
use Rattle.std.specs.Prelude.{ℕ, Bool, true, not, ◌&&◌, ◌||◌, cond, List, map, ltb, Float, Result}
use Rattle.std.specs.Float.Ieee.{lt, le, neg, is_nan}
use Rattle.laws.specs.Lists.{foldl}
use Rattle.ieee.specs.Consts.{zero_f, one_f}
use Rattle.ieee.specs.Num.{abs_of, plain_zero, max_of, min_of, same_of}
use Rattle.ieee.specs.Operators.{◌⊕◌, ◌⊖◌, ◌⊗◌, ◌⊘◌}
use Rattle.geometry.specs.Geometry.{vector_of}
use Rattle.geometry.specs.Signed.{sub_of, dot_of}
use Rattle.geometry.specs.declared.Point.{Point}
use Rattle.geometry.specs.declared.signed.Face.{Face}
use Rattle.mechanism.specs.Check.{call_checked, answer_of}
use Rattle.mechanism.specs.Description.{pair_at}
use Rattle.bodies.specs.Pose.{placement_at, rotate_of, world_of, pose_fits}
use Rattle.mechanism.specs.declared.Mechanism.{Mechanism}
use Rattle.bodies.specs.declared.pose.Placement.{Placement}
use Rattle.bodies.specs.declared.pose.Pose.{Pose}
use Rattle.sides.specs.Contacts.{pair_features}
use Rattle.sides.specs.Features.{faces_in as placed_faces}
use Rattle.sides.specs.declared.PlacedFace.{PlacedFace}
use Rattle.sides.specs.declared.SideFeatures.{SideFeatures}
use Rattle.sides.specs.declared.contacts.PairFeatures.{PairFeatures}
use Rattle.bodies.specs.declared.Problem.{Problem}

-- where p falls along the segment from a to b
abbrev pub along_of : Point → Point → Point → Float
along_of p a b = dot_of (sub_of p a) (sub_of b a) ⊘ dot_of (sub_of b a) (sub_of b a)

-- the point at s from b0 to b1
abbrev pub on_b : Point → Point → Float → Point
on_b b0 b1 s = record { x = b0.x ⊕ s ⊗ (b1.x ⊖ b0.x); y = b0.y ⊕ s ⊗ (b1.y ⊖ b0.y) }

-- how far it stands past the line through a0 with the normal n
abbrev pub reach_of : Point → Point → Point → Point → Float → Float
reach_of a0 n b0 b1 s = neg (dot_of (sub_of (on_b b0 b1 s) a0) n)

unfoldable pub within_of : Point → Point → Point → Point → Float → Float → Float → Float
within_of a0 n b0 b1 d lo hi = cond (lt hi lo) d (max_of (max_of d (reach_of a0 n b0 b1 lo)) (reach_of a0 n b0 b1 hi))

-- t0 and t1 are A's parameter at B's two ends; where they differ, B's parameter is cut to where A's lies from 0 to 1
abbrev pub cut_of : Point → Point → Point → Point → Float → Float → Float → Float
cut_of a0 n b0 b1 d t0 t1 =
    let s0 = (zero_f ⊖ t0) ⊘ (t1 ⊖ t0) in
    let s1 = (one_f ⊖ t0) ⊘ (t1 ⊖ t0) in
    cond (lt zero_f (abs_of (t1 ⊖ t0)))
    (within_of a0 n b0 b1 d (max_of zero_f (min_of s0 s1)) (min_of one_f (max_of s0 s1)))
    (cond (le zero_f t0 && le t0 one_f) (within_of a0 n b0 b1 d zero_f one_f) d)

unfoldable pub over_of : Point → Point → Point → Point → Point → Float → Float
over_of a0 a1 n b0 b1 d = cut_of a0 n b0 b1 d (along_of b0 a0 a1) (along_of b1 a0 a1)

abbrev pub past_of : Point → Point → Point → Placement → Float → Face → Float
past_of a0 a1 n place d f = over_of a0 a1 n (world_of place f.a) (world_of place f.b) d

-- a face of no placed length is passed over
abbrev pub is_long : Float → Bool
is_long e2 = not (is_nan e2 || le e2 zero_f)

abbrev pub step_of : Placement → Placement → List Face → Float → Face → Float
step_of placeA placeB fs d f =
    let a0 = world_of placeA f.a in
    let a1 = world_of placeA f.b in
    cond (is_long (dot_of (sub_of a1 a0) (sub_of a1 a0))) (foldl (past_of a0 a1 (rotate_of placeA (vector_of f.normal)) placeB) d fs) d

unfoldable pub faces_overlap : List Face → Placement → List Face → Placement → Float
faces_overlap fa placeA fb placeB = foldl (step_of placeA placeB fb) zero_f fa

-- ---- of the two sides of a pair
abbrev pub face_of : PlacedFace → Face
face_of p = p.face

-- the faces of a side
abbrev pub faces_in : SideFeatures → List Face
faces_in s = map face_of (placed_faces s)

unfoldable pub sides_overlap : PairFeatures → Pose → Float
sides_overlap p q = faces_overlap (faces_in p.a) (placement_at q p.a.body) (faces_in p.b) (placement_at q p.b.body)

unfoldable pub face_overlap_answer : Mechanism → Pose → ℕ → Result Float Problem
face_overlap_answer m q i =
    answer_of (call_checked m (pose_fits m.bodies q) (ltb i m.pairs.count) true) (sides_overlap (pair_features m.parts m.outlines (pair_at m.pairs i)) q)

-- ---- what counts as equal in a comparison of readings: bit for bit, all NaNs alike (`same_of`), of `face_overlap` both zeros alike as well
abbrev pub same_overlap : Float → Float → Bool
same_overlap x y = same_of (plain_zero x) (plain_zero y)
