-- How deep parts stand in one another, over a prepared description. Definitions only.
use Rattle.std.specs.Prelude.{ℕ, cond, true, List, map, eqb, ltb, Float, Result}
use Rattle.laws.specs.Lists.{list_in}
use Rattle.ieee.specs.Consts.{zero_f}
use Rattle.ieee.specs.Num.{max_of}
use Rattle.geometry.specs.declared.Point.{Point}
use Rattle.bodies.specs.Check.{Checked, and_then, refused_if, bodies_stand}
use Rattle.bodies.specs.Pose.{placement_at, world_of, pose_fits}
use Rattle.bodies.specs.declared.Bodies.{Bodies}
use Rattle.bodies.specs.declared.Problem.TheVariants.{LimitPassed}
use Rattle.bodies.specs.declared.pose.Pose.{Pose}
use Rattle.mechanism.specs.Check.{then_called, answer_of}
use Rattle.material.specs.Material.{Material, depth_of}
use Rattle.strips.specs.Strips.{TableRows, part_at, side_at, sampled_at, center_at, row_a, row_b, row_of_material, row_of_sampled}
use Rattle.drawing.specs.Prepared.{parts_in, choice_at, material_or}
use Rattle.drawing.specs.declared.Chosen.{Chosen}
use Rattle.overlap.specs.Overlap.{owner_at, sunk_among}
use Rattle.bodies.specs.declared.Problem.{Problem}

-- the points sampled along a part, placed with its body
unfoldable pub samples_in : TableRows → Pose → ℕ → List Point
samples_in t q i = map (world_of (placement_at q (part_at t i).body)) (list_in (sampled_at t) (part_at t i).samples (part_at t i).sampled)

-- the deepest of the samples of the parts chosen as 1
unfoldable pub sunk_in : TableRows → Pose → Chosen → Material → Float
sunk_in t q w m = sunk_among (samples_in t q) (parts_in t) (owner_at w) m

-- ---- of the two sides of a pair
abbrev pub side_material_in : TableRows → Pose → ℕ → Material
side_material_in t q side = material_or t q (choice_at t (row_of_material side))

abbrev pub side_sunk_in : TableRows → Pose → ℕ → ℕ → Float
side_sunk_in t q from into = sunk_in t q (choice_at t (row_of_sampled from)) (side_material_in t q into)

abbrev pub features_overlap_in : TableRows → Pose → ℕ → Float
features_overlap_in t q i = max_of (max_of zero_f (side_sunk_in t q (row_a i) (row_b i))) (side_sunk_in t q (row_b i) (row_a i))

abbrev pub center_overlap_in : TableRows → Pose → ℕ → Float
center_overlap_in t q i = depth_of (side_material_in t q (row_a i)) (world_of (placement_at q (side_at t (row_b i)).body) (center_at t (row_b i)))

unfoldable pub pair_overlap_in : TableRows → Pose → ℕ → Float
pair_overlap_in t q i = cond (eqb (side_at t (row_a i)).geometry 0) (features_overlap_in t q i) (center_overlap_in t q i)

-- ---- the answer: a number, or the first refusal that applies
-- 3, 4 and 5 of the bodies, 11 and 12 of a question about pair i of n; the rest of 3 to 10 was answered when the description was prepared
abbrev pub ask_checked : Bodies → ℕ → Pose → ℕ → Checked
ask_checked b n q i = and_then (refused_if (ltb 16 n) LimitPassed) (then_called (bodies_stand b) (pose_fits b q) (ltb i n) true)

unfoldable pub pair_overlap_answer_in : TableRows → Bodies → ℕ → Pose → ℕ → Result Float Problem
pair_overlap_answer_in t b n q i = answer_of (ask_checked b n q i) (pair_overlap_in t q i)
