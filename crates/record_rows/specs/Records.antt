-- The rows of a mechanism at a pose as records in a lent slice (contact/rows.rs: `rows`). Definitions only.
use Rattle.std.specs.Prelude.{ℕ}
use Rattle.bodies.specs.declared.pose.Pose.{Pose}
use Rattle.mechanism.specs.declared.Mechanism.{Mechanism}
use Rattle.shown_rows.specs.Rows.{rows_checked}
use Rattle.bodies.specs.Check.{Checked}

-- 13 by the records lent: a record is a row's place and value in one
abbrev pub records_checked : Mechanism → Pose → (rows grad slip : ℕ) → Checked
records_checked m q rows grad slip = rows_checked m q rows rows grad slip
