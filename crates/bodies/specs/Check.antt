-- Document 01's refusals, their numbers and places, the first that applies, and those of the bodies by themselves (3 to 5). Definitions only.
use Rattle.std.specs.Prelude.{ℕ, ◌+◌, Bool, true, false, not, cond, ◌&&◌, ◌||◌, ltb, leb, Result, Ok, Err, is_ok, is_none, take}
use Rattle.std.specs.List.{list_any}
use Rattle.laws.specs.Loops.{first_in}
use Rattle.geometry.specs.Geometry.{dir_of}
use Rattle.geometry.specs.declared.Dir.{Dir}
use Rattle.bodies.specs.Description.{body_at}
use Rattle.bodies.specs.declared.Body.{Body}
use Rattle.bodies.specs.declared.Joint.{Joint}
use Rattle.bodies.specs.declared.Joint.TheVariants.{Ground, Revolute, Prismatic}
use Rattle.bodies.specs.declared.Bodies.{Bodies}
use Rattle.bodies.specs.declared.Problem.{Problem}
use Rattle.bodies.specs.declared.Problem.TheVariants.{TextTooLong, LineNotRead, LimitPassed, BodyNotPlaced, NoDirection, PartOnNoSuchBody, OutlineNotClosed, RangeNotDrawn, SideOnTwoBodies, PairOnOneBody, PoseNotMatching, NoSuchThing, TooFewRows}

-- ---- document 01's number and place of each refusal
abbrev pub number_of : Problem → ℕ
number_of TextTooLong = 1
number_of (LineNotRead l) = 2
number_of LimitPassed = 3
number_of (BodyNotPlaced b) = 4
number_of NoDirection = 5
number_of (PartOnNoSuchBody p) = 6
number_of (OutlineNotClosed p) = 7
number_of (RangeNotDrawn p) = 8
number_of (SideOnTwoBodies p) = 9
number_of (PairOnOneBody p) = 10
number_of PoseNotMatching = 11
number_of NoSuchThing = 12
number_of TooFewRows = 13

-- 0 where none is named
abbrev pub place_of : Problem → ℕ
place_of TextTooLong = 0
place_of (LineNotRead l) = l
place_of LimitPassed = 0
place_of (BodyNotPlaced b) = b
place_of NoDirection = 0
place_of (PartOnNoSuchBody p) = p
place_of (OutlineNotClosed p) = p
place_of (RangeNotDrawn p) = p
place_of (SideOnTwoBodies p) = p
place_of (PairOnOneBody p) = p
place_of PoseNotMatching = 0
place_of NoSuchThing = 0
place_of TooFewRows = 0

-- ---- the first refusal that applies
-- accepted, or refused
abbrev pub Checked : Type 0
Checked = Result (Unit {0}) Problem

-- where the first check accepts, the next one is asked
abbrev pub and_then : Checked → Checked → Checked
and_then (Ok tt) next = next
and_then (Err p) next = Err p

-- a test that refuses
abbrev pub refused_if : Bool → Problem → Checked
refused_if b p = cond b (Err p) (Ok tt)

-- the first of the k checks from j on that refuses
abbrev pub first_refused : (ℕ → Checked) → ℕ → ℕ → Checked
first_refused f k j = first_in is_ok (Ok tt) f k j

-- ---- 4: a body's parent is not below it, or its coordinate is not below the count
abbrev pub coord_below : ℕ → Joint → Bool
coord_below n Ground = true
coord_below n (Revolute p c) = ltb c n
coord_below n (Prismatic o a c) = ltb c n

-- body i + 1
abbrev pub misplaced : ℕ → Body → ℕ → Bool
misplaced coords b i = not (leb b.parent i && coord_below coords b.joint)

unfoldable pub bodies_checked : Bodies → Checked
bodies_checked b = first_refused (λ i. refused_if (misplaced b.coords (body_at b i) i) (BodyNotPlaced (i + 1))) b.count 0

-- ---- 5: a slide's axis has no `Dir::new`
abbrev pub dir_lacks : Dir → Bool
dir_lacks d = is_none (dir_of d.x d.y)

abbrev pub joint_lacks : Joint → Bool
joint_lacks Ground = false
joint_lacks (Revolute p c) = false
joint_lacks (Prismatic o a c) = dir_lacks a

unfoldable pub bodies_lack : Bodies → Bool
bodies_lack b = list_any (λ c. joint_lacks c.joint) (take b.count b.body)

-- 3, 4 and 5 of the bodies by themselves
unfoldable pub bodies_stand : Bodies → Checked
bodies_stand b =
    and_then (refused_if (ltb 15 b.count || ltb 16 b.coords) LimitPassed)
    (and_then (bodies_checked b)
    (refused_if (bodies_lack b) NoDirection))
