use native.Mathlib.Omega.{arith}
use Prim.Native.Nat.{ℕ, ◌+◌}
use mathlib.Core.Path.{refl, sym, ap, ◌∙◌}
use Rattle.laws.specs.Loops.{fold_in}
use Rattle.laws.proofs.Sums.{sum_more}
use Rattle.mechanism.specs.Description.{segs_of}
use Rattle.drawing.proofs.Puts.{puts-start, puts-more, puts-end}
use Rattle.drawing.proofs.points.put_parts.Goals as goal

pub loop-i-init : goal.loop-i-init
unfolding fold_in
loop-i-init c = record { row = refl; put = puts-start _ _ _ _ _ }

pub put_part_points-to-requires : goal.put_part_points-to-requires
put_part_points-to-requires c =
    let r = c.requires in
    let p = c.loop-i.invariant.put in
    record {
      room = (r.0, omega arith, c.loop-i.invariant.row, r.1);
      mouths = r.2;
      places = (p.at_drawn, p.at_sampled);
    }

pub overflow_add-first : goal.overflow_add-first
overflow_add-first c =
    let h = c.requires.0.all c.loop-i.i c.loop-i-test.true in
    let e = c.loop-i.invariant.row in
    omega arith

pub loop-i-preserved : goal.loop-i-preserved
loop-i-preserved c =
    let ps = c.args.ps in
    let e = c.put_part_points-to.ensures in
    record {
      row = ap (λ (n : ℕ). n + segs_of ps c.loop-i.i) c.loop-i.invariant.row ∙ sym (sum_more (segs_of ps) c.loop-i.i);
      put = puts-more _ _ _ _ _ c.loop-i.invariant.put c.loop-i-test.true e.drawn e.sampled;
    }

pub returns : goal.returns
returns c = let e = puts-end _ _ _ _ _ c.loop-i.invariant.put c.loop-i-test.false in record { drawn = e.0; sampled = e.1; parts = e.2 }
