-- mechanism/pose.rs, operation by operation; a pose takes for each coordinate its value, sine and cosine. Definitions only.
use Rattle.std.specs.Prelude.{ℕ, zero, suc, ◌+◌, ◌<◌, ◌≤◌, ◌≡◌, Bool, true, cond, ◌&&◌, ◌||◌, not, List, [], ◌∷◌, ◌++◌, ltb, leb, eqb, length, get_or, set, replicate, Float, Result, Ok, Err}
use Rattle.std.proofs.lemmas.List.Edits.{sets}
use Rattle.std.specs.Float.{nan}
use Rattle.std.specs.Float.Ieee.{neg, eq}
use Rattle.laws.specs.Loops.{fold_in}
use Rattle.ieee.specs.Consts.{zero_f, one_f}
use Rattle.ieee.specs.Operators.{◌⊕◌, ◌⊖◌, ◌⊗◌}
use Rattle.geometry.specs.Geometry.{vector_of}
use Rattle.geometry.specs.declared.Point.{Point}
use Rattle.bodies.specs.Description.{no_point, no_body, body_at}
use Rattle.bodies.specs.Check.{Checked, coord_below, bodies_stand, and_then, refused_if}
use Rattle.bodies.specs.declared.Body.{Body}
use Rattle.bodies.specs.declared.Joint.{Joint}
use Rattle.bodies.specs.declared.Joint.TheVariants.{Ground, Revolute, Prismatic}
use Rattle.bodies.specs.declared.Bodies.{Bodies}
use Rattle.bodies.specs.declared.Problem.{Problem}
use Rattle.bodies.specs.declared.Problem.TheVariants.{NoSuchThing, PoseNotMatching}
use Rattle.bodies.specs.declared.pose.Placement.{Placement}
use Rattle.bodies.specs.declared.pose.Pose.{Pose}
use Rattle.bodies.specs.declared.pose.MaterialPoint.{MaterialPoint}
use Rattle.bodies.specs.declared.pose.Column.{Column}
use Rattle.bodies.specs.declared.pose.Columns.{Columns}

-- ---- Placement
abbrev pub world : Placement
world = record { origin = record { x = zero_f; y = zero_f }; cos = one_f; sin = zero_f }

abbrev pub rotate_of : Placement → Point → Point
rotate_of p v = record { x = p.cos ⊗ v.x ⊖ p.sin ⊗ v.y; y = p.sin ⊗ v.x ⊕ p.cos ⊗ v.y }

abbrev pub world_of : Placement → Point → Point
world_of p v = record { x = p.origin.x ⊕ (rotate_of p v).x; y = p.origin.y ⊕ (rotate_of p v).y }

-- field by field, so that -0.0 equals 0.0 and a NaN equals nothing
abbrev pub is_world : Placement → Bool
is_world p = (eq p.origin.x zero_f && eq p.origin.y zero_f) && (eq p.cos one_f && eq p.sin zero_f)

-- ---- Mechanism::pose
-- the lent entries: for each coordinate its value, sine and cosine
abbrev pub value_at : List (List Float) → ℕ → Float
value_at q c = get_or (get_or q c []) 0 nan

abbrev pub sine_at : List (List Float) → ℕ → Float
sine_at q c = get_or (get_or q c []) 1 nan

abbrev pub cosine_at : List (List Float) → ℕ → Float
cosine_at q c = get_or (get_or q c []) 2 nan

abbrev pub hinged : Placement → Point → Float → Float → Placement
hinged parent pivot sin cos = record {
  origin = world_of parent pivot;
  cos = parent.cos ⊗ cos ⊖ parent.sin ⊗ sin;
  sin = parent.sin ⊗ cos ⊕ parent.cos ⊗ sin;
}

abbrev pub slid : Placement → Point → Point → Float → Placement
slid parent origin a travel = record {
  origin = world_of parent (record { x = origin.x ⊕ travel ⊗ a.x; y = origin.y ⊕ travel ⊗ a.y });
  cos = parent.cos;
  sin = parent.sin;
}

abbrev pub placed_of : List (List Float) → Placement → Joint → Placement
placed_of q parent Ground = parent
placed_of q parent (Revolute pivot c) = hinged parent pivot (sine_at q c) (cosine_at q c)
placed_of q parent (Prismatic origin axis c) = slid parent origin (vector_of axis) (value_at q c)

abbrev pub no_placement : Placement
no_placement = record { origin = no_point; cos = nan; sin = nan }

-- body i + 1, placed from its parent
abbrev pub place_next : Bodies → List (List Float) → List Placement → ℕ → List Placement
place_next b q placed i = set placed (i + 1) (placed_of q (get_or placed (body_at b i).parent no_placement) (body_at b i).joint)

-- the ground stands in the world, and so do the places that no body has
unfoldable pub placements_of : Bodies → List (List Float) → List Placement
placements_of b q = fold_in (place_next b q) (replicate 16 world) b.count 0

-- what check 4 leaves: each parent is below its body, and each joint's coordinate below the count
pub record Rooted (b : Bodies) (coords : ℕ) : Type 0 where
  pub few : b.count ≤ 15
  pub below : (i : ℕ) → i < b.count → (body_at b i).parent ≤ i
  pub driven : (i : ℕ) → i < b.count → coord_below coords (body_at b i).joint ≡ true

-- the bodies by themselves: 3 to 5, then 11
abbrev pub bodies_posed : Bodies → List (List Float) → Checked
bodies_posed b q = and_then (bodies_stand b) (refused_if (not (eqb (length q) b.coords)) PoseNotMatching)

-- every body placed
abbrev pub bodies_placed : Bodies → List (List Float) → Pose
bodies_placed b q = record { count = b.count + 1; placement = placements_of b q }

abbrev pub posed_of : Checked → Bodies → List (List Float) → Result Pose Problem
posed_of (Ok tt) b q = Ok (bodies_placed b q)
posed_of (Err p) b q = Err p

-- ---- the walk up the parents (for_each_column_at): the columns of a point p, from its body to the ground
-- how fast p moves with the coordinate of a joint, whose body stands at `placed`
abbrev pub column_of : Point → Placement → Joint → List Column
column_of p placed Ground = []
column_of p placed (Revolute pivot c) = record { coord = c; column = record { x = neg (p.y ⊖ placed.origin.y); y = p.x ⊖ placed.origin.x } } ∷ []
column_of p placed (Prismatic origin axis c) = record { coord = c; column = rotate_of placed (vector_of axis) } ∷ []

-- The columns from a body up to the ground, in at most `steps` steps; a number above fifteen names no body. Where each parent is below its body, fifteen steps reach the ground from any body.
unfoldable pub columns_up : Bodies → Pose → Point → ℕ → ℕ → List Column
columns_up b q p zero body = []
columns_up b q p (suc steps) zero = []
columns_up b q p (suc steps) (suc i) = cond (ltb i 15) (column_of p (get_or q.placement (suc i) no_placement) (body_at b i).joint ++ columns_up b q p steps (body_at b i).parent) []

abbrev pub columns_of : Bodies → Pose → Point → ℕ → List Column
columns_of b q p body = columns_up b q p 15 body

abbrev pub no_column : Column
no_column = record { coord = 0; column = record { x = zero_f; y = zero_f } }

-- the columns in an array of fifteen, with their number; the places past it hold no_column
abbrev pub columns_in : List Column → Columns
columns_in l = record { count = length l; column = sets (replicate 15 no_column) 0 l }

abbrev pub no_move : Point
no_move = record { x = zero_f; y = zero_f }

-- the last column of a coordinate, which is the one nearest the ground; zero where there is none
unfoldable pub last_column : ℕ → Point → List Column → Point
last_column c found [] = found
last_column c found (k ∷ ks) = last_column c (cond (eqb k.coord c) k.column found) ks

-- ---- looking up
-- 12: the pose has no such body
abbrev pub no_such_body : Pose → ℕ → Bool
no_such_body q body = ltb 16 q.count || leb q.count body

abbrev pub placement_at : Pose → ℕ → Placement
placement_at q body = get_or q.placement body no_placement

unfoldable pub placement_of : Pose → ℕ → Result Placement Problem
placement_of q body = cond (no_such_body q body) (Err NoSuchThing) (Ok (placement_at q body))

unfoldable pub point_of : Pose → MaterialPoint → Result Point Problem
point_of q p = cond (no_such_body q p.body) (Err NoSuchThing) (Ok (world_of (placement_at q p.body) p.at))

-- one placement a body, the ground's among them
abbrev pub pose_fits : Bodies → Pose → Bool
pose_fits b q = eqb q.count (b.count + 1)

-- how fast a material point moves in the world with a coordinate
abbrev pub column_for : Bodies → Pose → MaterialPoint → ℕ → Point
column_for b q p c = last_column c no_move (columns_of b q (world_of (placement_at q p.body) p.at) p.body)

abbrev pub jacobian_of : Checked → Bodies → Pose → MaterialPoint → ℕ → Result Point Problem
jacobian_of (Err x) b q p c = Err x
jacobian_of (Ok tt) b q p c = Ok (column_for b q p c)

-- Mechanism::body; the ground is body 0
abbrev pub body_numbered : Bodies → ℕ → Body
body_numbered b zero = no_body
body_numbered b (suc i) = body_at b i

abbrev pub body_answer : Checked → Bodies → ℕ → Result Body Problem
body_answer (Err x) b n = Err x
body_answer (Ok tt) b n = Ok (body_numbered b n)
