use native.Mathlib.Omega.{arith}
use Prim.Native.Nat.{◌<◌, ◌≤◌}
use mathlib.Core.Path.{ap₂}
use borrow.Author.Tests.{eq-eqb, ne_eqb}
use Rattle.drawing.proofs.Draws.{draws_start, draws_room, draws_place, draws_more, draws_skip, draws_at, draws_count, draws_points, draws_starts}
use Rattle.drawing.proofs.outlined.draw_all.Goals as goal
use Rattle.drawing.proofs.outlined.draw_all.Goals.{then-c-i, else-c-i}

pub loop-i-init : goal.loop-i-init
loop-i-init g c = draws_start _ _ _ _ _ _ _ _

pub bounds-c-i : goal.bounds-c-i
bounds-c-i g c =
    let h = g.met.O.Outlined.few c.args.o.now in
    let e = c.count-i-end.ensures in
    omega (arith, h, e)

pub draw_part-at-requires : goal.draw_part-at-requires
draw_part-at-requires g c =
    let s = c in
    let e = c.count-i-end.ensures in
    let h : c.loop-i.i < g.O.Outlined.count s.args.o.now = omega (arith, e) in
    (h, draws_room _ _ _ _ c.loop-i.invariant h (eq-eqb _ _ c.if-c-i.true) s.requires.0)

pub overflow_add-k : goal.overflow_add-k
overflow_add-k g c =
    let s = c in
    let e = c.count-i-end.ensures in
    let p = draws_place _ _ _ _ c.loop-i.invariant (omega (arith, e)) (eq-eqb _ _ c.if-c-i.true) s.requires.1 in
    omega (arith, p)

pub offset_bounds-starts-k : goal.offset_bounds-starts-k
offset_bounds-starts-k g c =
    let s = c in
    let e = c.count-i-end.ensures in
    let p = draws_place _ _ _ _ c.loop-i.invariant (omega (arith, e)) (eq-eqb _ _ c.if-c-i.true) s.requires.1 in
    omega (arith, p)

pub bounds-starts-k : goal.bounds-starts-k
bounds-starts-k g c =
    let s = c in
    let e = c.count-i-end.ensures in
    let p = draws_place _ _ _ _ c.loop-i.invariant (omega (arith, e)) (eq-eqb _ _ c.if-c-i.true) s.requires.1 in
    omega (arith, p)

pub returns : goal.returns
returns g c =
    let e = c.count-i-end.ensures in
    let h : g.O.Outlined.count c.args.o.now ≤ c.loop-i.i = omega (arith, e, c.loop-i-test.false) in (
      ap₂ (λ n m. record { at = n; count = m }) (draws_at _ _ _ _ c.loop-i.invariant h) (draws_count _ _ _ _ c.loop-i.invariant h),
      draws_points _ _ _ _ c.loop-i.invariant h,
      draws_starts _ _ _ _ c.loop-i.invariant h,
    )

pub loop-i-preserved : goal.loop-i-preserved
loop-i-preserved g c =
    let e = c.count-i-end.ensures in
    let h : c.loop-i.i < g.O.Outlined.count c.args.o.now = omega (arith, e) in
    elim c.if-c-i.branch [
      | then-c-i w ↦ rw (w.points-is, w.starts-is, w.at-is, w.k-is) (draws_more _ _ _ _ c.loop-i.invariant h (eq-eqb _ _ w.if-c-i.true) w.draw_part-at.ensures)
      | else-c-i w ↦ rw (w.points-is, w.starts-is, w.at-is, w.k-is) (draws_skip _ _ _ _ c.loop-i.invariant h (ne_eqb _ _ w.if-c-i.false))
    ]
