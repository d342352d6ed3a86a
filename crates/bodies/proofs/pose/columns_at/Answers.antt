use native.Mathlib.Omega.{arith}
use Rattle.laws.proofs.Writing.{puts, goes_on}
use Rattle.bodies.proofs.Walk.{up_none, up-over, turns, columns_done}
use Rattle.bodies.proofs.pose.columns_at.Goals as goal
use Rattle.bodies.proofs.pose.columns_at.Goals.{in-Some, in_default}

pub loop-preserved : goal.loop-preserved
loop-preserved c = elim c.match-joint_column.branch [
  | in-Some w ↦ simp (w.out-is, w.n-is) (omega arith, puts (turns _ _ _ 15 c.loop.counter _ c.loop-test.true c.if-at-eq0.false c.if-at-gt15.false w.in-Some.ensures) c.loop.invariant.1)
  | in_default w ↦ simp (w.out-is, w.n-is) (omega arith, goes_on (turns _ _ _ 15 c.loop.counter _ c.loop-test.true c.if-at-eq0.false c.if-at-gt15.false w.in_default.ensures) c.loop.invariant.1)
]

pub returns-after-loop : goal.returns-after-loop
returns-after-loop c = columns_done (up-over _ _ _ 15 c.loop.counter _ c.loop-test.false) c.loop.invariant.1

pub returns-then-at-eq0 : goal.returns-then-at-eq0
returns-then-at-eq0 c = columns_done (up_none _ _ _ _ c.loop.at (λ h. omega (arith, c.then-at-eq0.either))) c.loop.invariant.1
