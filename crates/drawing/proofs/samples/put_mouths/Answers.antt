use native.Mathlib.Omega.{arith}
use Prim.Native.Nat.{ℕ, ◌+◌}
use mathlib.Core.Path.{refl, sym, ap, ◌∙◌}
use Rattle.laws.specs.Loops.{fold_in}
use Rattle.laws.proofs.Sums.{sum_more}
use Rattle.mechanism.specs.Description.{segs_of}
use Rattle.mechanism.specs.Segments.{outlines_in}
use Rattle.drawing.proofs.Mouths.{mouths-start, asks_ends, mouths-more, mouths-skip, mouths-end}
use Rattle.drawing.proofs.Segments.{from-part}
use Rattle.drawing.proofs.samples.put_mouths.Goals as goal
use Rattle.drawing.proofs.samples.put_mouths.Goals.{then-is_read_cut, else-is_read_cut}

pub loop-i-init : goal.loop-i-init
unfolding fold_in
loop-i-init c = (refl, mouths-start _ _ _)

pub offset_bounds-ps-i : goal.offset_bounds-ps-i
offset_bounds-ps-i c = let h = c.requires.0.count in omega arith

pub bounds-ps-i : goal.bounds-ps-i
bounds-ps-i c = let h = c.requires.0.count in omega arith

pub overflow_add-first : goal.overflow_add-first
overflow_add-first c =
    let h = c.requires.0.all c.loop-i.i c.loop-i-test.true in
    let e = c.loop-i.invariant.0 in
    omega arith

pub put_ends-at-requires : goal.put_ends-at-requires
put_ends-at-requires c =
    let s = c in
    asks_ends s.args.segs.now c.loop-i.invariant.1 s.requires.0 c.loop-i-test.true c.loop-i.invariant.0 s.requires.1 s.requires.2

pub shape_of-mouths : goal.shape_of-mouths
shape_of-mouths c = c.loop-i.invariant.1.rest.long

pub returns : goal.returns
returns c = mouths-end c.loop-i.invariant.1 c.loop-i-test.false

pub loop-i-preserved : goal.loop-i-preserved
loop-i-preserved c =
    let s = c.args in
    let h = c.loop-i-test.true in
    let v = c.loop-i.invariant in (
      ap (λ (n : ℕ). n + segs_of s.ps c.loop-i.i) v.0 ∙ sym (sum_more (segs_of s.ps) c.loop-i.i),
      elim c.if-is_read_cut.branch [
        | then-is_read_cut w ↦ rw (w.mouths-is, w.at-is)
            (mouths-more v.1 h (sym c.is_read_cut.ensures ∙ w.if-is_read_cut.true) (from-part s.ps (outlines_in s.segs.now) c.loop-i.i c.requires.0 h v.0) w.put_ends-at.ensures)
        | else-is_read_cut w ↦ rw (w.mouths-is, w.at-is) (mouths-skip v.1 h (sym c.is_read_cut.ensures ∙ w.if-is_read_cut.false))
      ],
    )
