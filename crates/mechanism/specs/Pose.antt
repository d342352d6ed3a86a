-- What is refused of a call on a mechanism's pose, columns and bodies. Definitions only.
use Rattle.std.specs.Prelude.{ℕ, true, ◌&&◌, List, ltb, leb, eqb, length, Float}
use Rattle.bodies.specs.Pose.{pose_fits}
use Rattle.bodies.specs.declared.pose.MaterialPoint.{MaterialPoint}
use Rattle.bodies.specs.declared.pose.Pose.{Pose}
use Rattle.mechanism.specs.Check.{call_checked}
use Rattle.mechanism.specs.declared.Mechanism.{Mechanism}
use Rattle.bodies.specs.Check.{Checked}

-- 3 to 11: one entry a coordinate
abbrev pub pose_checked : Mechanism → List (List Float) → Checked
pose_checked m q = call_checked m (eqb (length q) m.bodies.coords) true true

-- jacobian_column, 3 to 12: one placement a body; the body and the coordinate are there
abbrev pub jacobian_checked : Mechanism → Pose → MaterialPoint → ℕ → Checked
jacobian_checked m q p c = call_checked m (pose_fits m.bodies q) (leb p.body m.bodies.count && ltb c m.bodies.coords) true

-- 3 to 10, then 12: the body is there
abbrev pub body_checked_at : Mechanism → ℕ → Checked
body_checked_at m n = call_checked m true (leb n m.bodies.count) true
