use native.Mathlib.Omega.{arith}
use mathlib.Core.Path.{refl, sym, ap, ◌∙◌}
use lib.ListN.{replicate}
use lib.Seq.{sets}
use Rattle.ieee.specs.Consts.{zero_f}
use Rattle.laws.proofs.Choice.{cond_yes, cond_no}
use Rattle.mechanism.proofs.Checks.{few-parts}
use Rattle.mechanism.proofs.Known.{outlines-long}
use Rattle.drawing.proofs.Laid.{mouths-within, mouths-counted, mouths-read}
use Rattle.drawing.proofs.Same.{tables_same, silhouettes, segs_within}
use Rattle.drawing.proofs.points.put_all_points.Goals as goal

pub returns-then-parts_over : goal.returns-then-parts_over
returns-then-parts_over c =
    let over = sym c.parts_over.ensures ∙ c.if-parts_over.true in
    record { drawn = sym (cond_yes _ _ over); sampled = sym (cond_yes _ _ over); parts = sym (cond_yes _ _ over) }

pub slice_bounds-mouths-end : goal.slice_bounds-mouths-end
slice_bounds-mouths-end c =
    let s = c in
    let few = few-parts s.args.ps (sym c.parts_over.ensures ∙ c.if-parts_over.false) in
    let within =
    segs_within s.args.ps s.args.o (replicate 384 (replicate 8 zero_f)) (outlines-long s.args.o _ s.well_formed.1.1.1.1.0) refl c.segs_counted.ensures c.put_segs.ensures few in
    let total = few.total in
    mouths-within s.args.ps c.put_segs.new.out few within (replicate 768 (replicate 4 zero_f)) (omega (arith, total)) c.draw_mouths-n.ensures

pub slice_bounds-put_parts-end-2 : goal.slice_bounds-put_parts-end-2
slice_bounds-put_parts-end-2 c =
    let s = c in
    let few = few-parts s.args.ps (sym c.parts_over.ensures ∙ c.if-parts_over.false) in
    let within =
    segs_within s.args.ps s.args.o (replicate 384 (replicate 8 zero_f)) (outlines-long s.args.o _ s.well_formed.1.1.1.1.0) refl c.segs_counted.ensures c.put_segs.ensures few in
    let total = few.total in
    mouths-counted s.args.ps c.put_segs.new.out few within (replicate 768 (replicate 4 zero_f)) (omega (arith, total)) c.draw_mouths-n.ensures

pub put_parts-requires : goal.put_parts-requires
put_parts-requires c =
    let s = c in
    let few = few-parts s.args.ps (sym c.parts_over.ensures ∙ c.if-parts_over.false) in
    let within =
    segs_within s.args.ps s.args.o (replicate 384 (replicate 8 zero_f)) (outlines-long s.args.o _ s.well_formed.1.1.1.1.0) refl c.segs_counted.ensures c.put_segs.ensures few in
    let total = few.total in
    (few, within, mouths-read s.args.ps c.put_segs.new.out few within (replicate 768 (replicate 4 zero_f)) (omega (arith, total)) c.draw_mouths-n.ensures)

pub returns : goal.returns
returns c =
    let s = c in
    let over = sym c.parts_over.ensures ∙ c.if-parts_over.false in
    let same =
    tables_same s.args.ps _ s.args.o
    (silhouettes s.args.ps s.args.o (replicate 384 (replicate 8 zero_f)) (outlines-long s.args.o _ s.well_formed.1.1.1.1.0) refl c.segs_counted.ensures c.put_segs.ensures) in
    let e = c.put_parts.ensures in
    record {
      drawn = e.drawn ∙ ap (sets s.args.drawn.now 0) same.0 ∙ sym (cond_no _ _ over);
      sampled = e.sampled ∙ ap (sets s.args.sampled.now 0) same.1 ∙ sym (cond_no _ _ over);
      parts = e.parts ∙ ap (sets s.args.parts.now 0) same.2 ∙ sym (cond_no _ _ over);
    }
