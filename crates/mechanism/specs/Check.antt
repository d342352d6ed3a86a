-- Document 01, "Refused, first that applies": the refusals 3 to 10 of a description as a value. Definitions only.
use Rattle.std.specs.Prelude.{ℕ, ◌+◌, ◌%◌, ◌<◌, ◌≤◌, Bool, false, not, cond, ◌&&◌, ◌||◌, ltb, leb, eqb, Float, Result, Ok, Err, Option, Some, None, ok_or, is_ok, take}
use Rattle.std.specs.List.{list_any}
use Rattle.std.specs.Float.Ieee.{is_nan}
use Rattle.laws.specs.Loops.{any_in, fold_in}
use Rattle.ieee.specs.Num.{finite, same_of}
use Rattle.geometry.specs.Geometry.{start_of, end_of}
use Rattle.geometry.specs.declared.Point.{Point}
use Rattle.geometry.specs.declared.Seg.{Seg}
use Rattle.geometry.specs.declared.Seg.TheVariants.{Line, Arc}
use Rattle.bodies.specs.Check.{Checked, and_then, refused_if, first_refused, bodies_checked, dir_lacks, bodies_lack}
use Rattle.mechanism.specs.Description.{part_at, pair_at, range_at, seg_at, segs_of, start_of_part, silhouette_length, side_length}
use Rattle.bodies.specs.declared.Bodies.{Bodies}
use Rattle.mechanism.specs.declared.Parts.{Parts}
use Rattle.mechanism.specs.declared.Outlines.{Outlines}
use Rattle.mechanism.specs.declared.Pairs.{Pairs}
use Rattle.mechanism.specs.declared.Mechanism.{Mechanism}
use Rattle.mechanism.specs.declared.part.Part.{Part}
use Rattle.mechanism.specs.declared.part.Sweep.{Sweep}
use Rattle.mechanism.specs.declared.part.Sweep.TheVariants.{Extruded, Revolved, Milled, Oval}
use Rattle.mechanism.specs.declared.part.SurfaceRef.{SurfaceRef}
use Rattle.mechanism.specs.declared.pair.Surface.{Surface}
use Rattle.mechanism.specs.declared.pair.ContactPair.{ContactPair}
use Rattle.bodies.specs.declared.Problem.TheVariants.{LimitPassed, NoDirection, PartOnNoSuchBody, OutlineNotClosed, RangeNotDrawn}
use Rattle.bodies.specs.declared.Problem.TheVariants.{SideOnTwoBodies, PairOnOneBody, PoseNotMatching, NoSuchThing, TooFewRows}
use Rattle.bodies.specs.declared.Problem.{Problem}

-- ---- 3: a count passes its limit
abbrev pub side_over : Surface → Bool
side_over u = ltb 4 u.count || ltb 12 (side_length u)

abbrev pub pair_over : ContactPair → Bool
pair_over p = side_over p.a || side_over p.b

unfoldable pub parts_over : Parts → Bool
parts_over p = ltb 32 p.count || (any_in (λ i. ltb 48 (segs_of p i)) p.count 0 || ltb 384 (start_of_part p p.count))

unfoldable pub pairs_over : Pairs → Bool
pairs_over p = ltb 16 p.count || any_in (λ i. pair_over (pair_at p i)) p.count 0

abbrev pub limits_passed : Bodies → Parts → Pairs → Bool
limits_passed b p q = (ltb 15 b.count || ltb 16 b.coords) || (parts_over p || pairs_over q)

unfoldable pub limit_passed : Mechanism → Bool
limit_passed m = limits_passed m.bodies m.parts m.pairs

-- ---- 5: an axis or an arc's direction has no `Dir::new`, or a revolved axis is NaN
abbrev pub sweep_lacks : Sweep → Bool
sweep_lacks (Extruded w a) = false
sweep_lacks (Revolved x) = is_nan x
sweep_lacks (Milled w) = false
sweep_lacks (Oval w) = false

abbrev pub seg_lacks : Seg → Bool
seg_lacks (Line a b) = false
seg_lacks (Arc c r from to) = dir_lacks from || dir_lacks to

unfoldable pub parts_lack : Parts → Bool
parts_lack p = list_any (λ q. sweep_lacks q.sweep) (take p.count p.part)

unfoldable pub outlines_lack : Outlines → ℕ → Bool
outlines_lack o n = any_in (λ i. seg_lacks (seg_at o i)) n 0

abbrev pub direction_missing : Mechanism → Bool
direction_missing m = bodies_lack m.bodies || (parts_lack m.parts || outlines_lack m.outlines (start_of_part m.parts m.parts.count))

-- ---- 6 and 7, part by part: a part names no body; its outline is not finite or not closed
abbrev pub point_finite : Point → Bool
point_finite p = finite p.x && finite p.y

abbrev pub same_point : Point → Point → Bool
same_point p q = same_of p.x q.x && same_of p.y q.y

-- a segment is not finite, or does not end where the next begins, bit for bit
abbrev pub seg_open : Seg → Seg → Bool
seg_open s next = not ((point_finite (start_of s) && point_finite (end_of s)) && same_point (end_of s) (start_of next))

-- of the n segments from `at` on there are fewer than two, or one is not finite or not joined to the next
unfoldable pub outline_open : Outlines → ℕ → ℕ → Bool
outline_open o at n = ltb n 2 || any_in (λ i. seg_open (seg_at o (at + i)) (seg_at o (at + (i + 1) % n))) n 0

abbrev pub part_checked : ℕ → Outlines → Part → ℕ → ℕ → Checked
part_checked bodies o p at i =
    and_then (refused_if (ltb bodies p.body) (PartOnNoSuchBody i))
    (refused_if (outline_open o at p.segs) (OutlineNotClosed i))

unfoldable pub parts_checked : ℕ → Parts → Outlines → Checked
parts_checked bodies p o = first_refused (λ i. part_checked bodies o (part_at p i) (start_of_part p i) i) p.count 0

-- ---- 8 to 10, pair by pair: side A's ranges one by one, 8 then 9 for each, side B's, then 10
-- a part draws a range: it holds a segment and stays within the silhouette
abbrev pub part_draws : Part → SurfaceRef → Bool
part_draws p r = ltb r.start r.end && leb r.end (silhouette_length p.sweep p.segs)

-- a range is drawn: there is such a part, and it draws the range
abbrev pub range_drawn : Parts → SurfaceRef → Bool
range_drawn ps r = ltb r.part ps.count && part_draws (part_at ps r.part) r

-- the body that a side's ranges lie on, as far as they were read; none before the first range
abbrev pub Side : Type 0
Side = Result (Option ℕ) Problem

-- the side's body so far, and the body of one range more
abbrev pub with_body : ℕ → Option ℕ → ℕ → Side
with_body pair None b = Ok (Some b)
with_body pair (Some a) b = cond (eqb a b) (Ok (Some a)) (Err (SideOnTwoBodies pair))

-- one range more: whether it is drawn, and its part's body
abbrev pub with_drawn : ℕ → Side → Bool → ℕ → Side
with_drawn pair (Ok s) drawn b = cond drawn (with_body pair s b) (Err (RangeNotDrawn pair))
with_drawn pair (Err p) drawn b = Err p

abbrev pub with_range : Parts → ℕ → Side → SurfaceRef → Side
with_range ps pair s r = with_drawn pair s (range_drawn ps r) (part_at ps r.part).body

-- a side without ranges is not drawn
abbrev pub side_end : ℕ → Side → Result ℕ Problem
side_end pair (Ok s) = ok_or s (RangeNotDrawn pair)
side_end pair (Err p) = Err p

unfoldable pub side_body : Parts → ℕ → Surface → Result ℕ Problem
side_body ps pair u = side_end pair (fold_in (λ s i. with_range ps pair s (range_at u i)) (Ok None) u.count 0)

abbrev pub sides_checked : ℕ → Result ℕ Problem → Result ℕ Problem → Checked
sides_checked pair (Err p) b = Err p
sides_checked pair (Ok a) (Err p) = Err p
sides_checked pair (Ok a) (Ok b) = refused_if (eqb a b) (PairOnOneBody pair)

unfoldable pub pairs_checked : Parts → Pairs → Checked
pairs_checked ps pairs = first_refused (λ i. sides_checked i (side_body ps i (pair_at pairs i).a) (side_body ps i (pair_at pairs i).b)) pairs.count 0

-- ---- the whole: accepted means not refused
unfoldable pub check_of : Mechanism → Checked
check_of m =
    and_then (refused_if (limit_passed m) LimitPassed)
    (and_then (bodies_checked m.bodies)
    (and_then (refused_if (direction_missing m) NoDirection)
    (and_then (parts_checked m.bodies.count m.parts m.outlines)
    (pairs_checked m.parts m.pairs))))

-- ---- document 01's list for a call on a description: 3 to 10, then 11, 12 and 13 where the call asks for them
-- fits: the pose has one entry a coordinate, or one placement a body; known: everything that is named is there; room: the lent rows have room. Where a call does not ask for one of them, it is true.
-- behind the check c of the description
abbrev pub then_called : Checked → (fits known room : Bool) → Checked
then_called c fits known room =
    and_then c
    (and_then (refused_if (not fits) PoseNotMatching)
    (and_then (refused_if (not known) NoSuchThing)
    (refused_if (not room) TooFewRows)))

abbrev pub call_checked : Mechanism → (fits known room : Bool) → Checked
call_checked m fits known room = then_called (check_of m) fits known room

-- the answer of a call: a number, or the first refusal that applies
abbrev pub answer_of : Checked → Float → Result Float Problem
answer_of (Ok tt) x = Ok x
answer_of (Err p) x = Err p

-- ---- a side that 3, 8 and 9 let pass, and a pair of two such sides
unfoldable pub side_drawn : Parts → Surface → Bool
side_drawn ps u = (not (parts_over ps) && not (side_over u)) && is_ok (side_body ps 0 u)

abbrev pub pair_drawn : Parts → ContactPair → Bool
pair_drawn ps p = side_drawn ps p.a && side_drawn ps p.b

-- ---- what is left where no limit is passed
pub record FewParts (p : Parts) : Type 0 where
  pub count : p.count ≤ 32
  pub each : (i : ℕ) → i < p.count → segs_of p i ≤ 48
  pub all : (i : ℕ) → i < p.count → start_of_part p i + segs_of p i ≤ 384
  pub total : start_of_part p p.count ≤ 384

pub record FewPairs (p : Pairs) : Type 0 where
  pub count : p.count ≤ 16
  pub a : (i : ℕ) → i < p.count → (pair_at p i).a.count ≤ 4
  pub b : (i : ℕ) → i < p.count → (pair_at p i).b.count ≤ 4

pub record Few (m : Mechanism) : Type 0 where
  pub bodies : m.bodies.count ≤ 15
  pub coords : m.bodies.coords ≤ 16
  pub parts : FewParts m.parts
  pub pairs : FewPairs m.pairs
