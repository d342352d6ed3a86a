-- How deep parts stand in one another (contact/rows.rs: `sunk`, `overlap`, `pair_overlap`, `parts_overlap`). Definitions only.
use Rattle.std.specs.Prelude.{ℕ, Bool, true, false, not, ◌&&◌, cond, List, map, eqb, ltb, Float, Result}
use Rattle.laws.specs.Lists.{list_in, foldl, any}
use Rattle.laws.specs.Loops.{filter_in, fold_in, keep}
use Rattle.ieee.specs.Consts.{zero_f}
use Rattle.ieee.specs.Num.{max_of}
use Rattle.geometry.specs.declared.Point.{Point}
use Rattle.mechanism.specs.Check.{call_checked, answer_of, pair_drawn}
use Rattle.mechanism.specs.Description.{part_at, pair_at}
use Rattle.bodies.specs.Pose.{placement_at, world_of, pose_fits}
use Rattle.mechanism.specs.declared.Mechanism.{Mechanism}
use Rattle.mechanism.specs.declared.Outlines.{Outlines}
use Rattle.mechanism.specs.declared.Parts.{Parts}
use Rattle.mechanism.specs.declared.pair.ContactPair.{ContactPair}
use Rattle.mechanism.specs.declared.pair.PairGeometry.{PairGeometry}
use Rattle.mechanism.specs.declared.pair.PairGeometry.TheVariants.{Features, CenterBearing}
use Rattle.mechanism.specs.declared.pair.Surface.{Surface}
use Rattle.bodies.specs.declared.pose.Pose.{Pose}
use Rattle.material.specs.Material.{Edge, Material, depth_of, deepest_of}
use Rattle.drawing.specs.Drawing.{is_sampled, is_read_cut, polygon_of, polygons_of, is_own, body_of_side, side_material, chosen_as, what_is}
use Rattle.drawing.specs.Samples.{mouths_of, part_samples}
use Rattle.sides.specs.Features.{center_at}
use Rattle.drawing.specs.declared.Chosen.{Chosen}
use Rattle.bodies.specs.declared.Problem.{Problem}

-- ---- sunk: the deepest that a sample of one of the owners, in order and each once, stands inside a material; zero where none does
-- the owners in order, each once
abbrev pub owners_once : (ℕ → Bool) → ℕ → List ℕ
owners_once owner n = filter_in owner n 0

-- of those of n parts that own samples
abbrev pub sunk_among : (ℕ → List Point) → ℕ → (ℕ → Bool) → Material → Float
sunk_among samples n owner m = foldl (λ d i. deepest_of m d (samples i)) zero_f (owners_once owner n)

abbrev pub sunk_by : Parts → Outlines → Pose → (ℕ → Bool) → List Edge → Material → Float
sunk_by ps o q owner mouths m = sunk_among (part_samples ps o q mouths) ps.count owner m

abbrev pub sunk_of : Parts → Outlines → Pose → (ℕ → Bool) → Material → Float
sunk_of ps o q owner m = sunk_by ps o q owner (mouths_of ps o) m

-- ---- pair_overlap
-- the parts of a side's ranges that are sampled
abbrev pub owner_in : Parts → Surface → ℕ → Bool
owner_in ps u i = is_own u i && is_sampled (part_at ps i)

-- both sides, each in the other's material
abbrev pub features_overlap : Parts → Outlines → Pose → Surface → Surface → Float
features_overlap ps o q a b =
    max_of (max_of zero_f (sunk_of ps o q (owner_in ps a) (side_material ps o q b true)))
    (sunk_of ps o q (owner_in ps b) (side_material ps o q a true))

-- side B's centre in side A's parts, no cut taken away
abbrev pub center_overlap : Parts → Outlines → Pose → Surface → Surface → Float
center_overlap ps o q a b = depth_of (side_material ps o q a false) (world_of (placement_at q (body_of_side ps b)) (center_at ps o b true))

abbrev pub overlap_by : PairGeometry → Parts → Outlines → Pose → Surface → Surface → Float
overlap_by Features = features_overlap
overlap_by CenterBearing = center_overlap

unfoldable pub pair_overlap : Parts → Outlines → Pose → ContactPair → Float
pair_overlap ps o q p = overlap_by p.geometry ps o q p.a p.b

-- the largest over all pairs
unfoldable pub overlap_of : Mechanism → Pose → Float
overlap_of m q = fold_in (λ d i. max_of d (pair_overlap m.parts m.outlines q (pair_at m.pairs i))) zero_f m.pairs.count 0

-- ---- parts_overlap
abbrev pub owners_of : Parts → List ℕ → List ℕ
owners_of ps l = keep (λ i. is_sampled (part_at ps i)) l

abbrev pub is_in : List ℕ → ℕ → Bool
is_in l i = any (λ j. eqb j i) l

-- a cut in the section on a body that carries one of the parts
abbrev pub cut_of_any : Parts → List ℕ → ℕ → Bool
cut_of_any ps l i = is_read_cut (part_at ps i) && any (λ j. eqb (part_at ps j).body (part_at ps i).body) l

-- material_of: the parts listed, less the cuts of their bodies
abbrev pub list_material : Parts → Outlines → Pose → List ℕ → Material
list_material ps o q l = record { solids = map (polygon_of ps o q) l; cuts = polygons_of ps o q (cut_of_any ps l) }

abbrev pub owners_overlap : Parts → Outlines → Pose → List ℕ → List ℕ → Float
owners_overlap ps o q a b = max_of (sunk_of ps o q (is_in a) (list_material ps o q b)) (sunk_of ps o q (is_in b) (list_material ps o q a))

unfoldable pub parts_overlap : Parts → Outlines → Pose → List ℕ → List ℕ → Float
parts_overlap ps o q a b = owners_overlap ps o q (owners_of ps a) (owners_of ps b)

-- every number names a part
abbrev pub all_parts : Parts → List ℕ → Bool
all_parts ps l = not (any (λ i. not (ltb i ps.count)) l)

-- ---- the answers: a number, or the first refusal that applies
unfoldable pub pair_overlap_answer : Mechanism → Pose → ℕ → Result Float Problem
pair_overlap_answer m q i = answer_of (call_checked m (pose_fits m.bodies q) (ltb i m.pairs.count) true) (pair_overlap m.parts m.outlines q (pair_at m.pairs i))

unfoldable pub overlap_answer : Mechanism → Pose → Result Float Problem
overlap_answer m q = answer_of (call_checked m (pose_fits m.bodies q) true true) (overlap_of m q)

unfoldable pub parts_overlap_answer : Mechanism → Pose → List ℕ → List ℕ → Result Float Problem
parts_overlap_answer m q a b = answer_of (call_checked m (pose_fits m.bodies q) (all_parts m.parts a && all_parts m.parts b) true) (parts_overlap m.parts m.outlines q a b)

-- of any values: zero where a side is not drawn
unfoldable pub pair_overlap_at : Parts → Outlines → Pose → ContactPair → Float
pair_overlap_at ps o q p = cond (pair_drawn ps p) (pair_overlap ps o q p) zero_f

-- ---- what the code holds: the parts that own the samples, chosen as 1
abbrev pub owner_at : Chosen → ℕ → Bool
owner_at w = chosen_as w 1

abbrev pub as_owners : (ℕ → Bool) → Chosen
as_owners p = record { what = list_in (λ i. what_is (p i) false) 32 0 }
