use Rattle.mechanism.specs.Segments.{outlines_in}
use Rattle.drawing.specs.Drawing.{chosen_material}
use Rattle.overlap.specs.Overlap.{owner_at}
use Rattle.drawing.proofs.Laid.{mouths-within, mouths-counted}
use Rattle.overlap.proofs.Lent.{sunk_with}
use Rattle.overlap.proofs.sunk_between.Goals as goal

pub slice_bounds-placed-end : goal.slice_bounds-placed-end
slice_bounds-placed-end c = let s = c.args.s in mouths-within s.now.parts.now s.now.segs.now s.now.few s.now.there c.args.mouths.now c.requires.1 c.draw_mouths-n.ensures

pub slice_bounds-placed-end-2 : goal.slice_bounds-placed-end-2
slice_bounds-placed-end-2 c = let s = c.args.s in mouths-counted s.now.parts.now s.now.segs.now s.now.few s.now.there c.args.mouths.now c.requires.1 c.draw_mouths-n.ensures

pub returns : goal.returns
returns c =
    let s = c.args.s in
    let drawn = c.draw_mouths-n.ensures in
    let o = outlines_in s.now.segs.now in (
      sunk_with s.now.parts.now s.now.segs.now s.now.few s.now.there c.args.mouths.now c.requires.1 drawn s.now.q (owner_at c.args.wa)
          (chosen_material s.now.parts.now o s.now.q c.args.cb) c.sunk_both.ensures.0,
      sunk_with s.now.parts.now s.now.segs.now s.now.few s.now.there c.args.mouths.now c.requires.1 drawn s.now.q (owner_at c.args.wb)
          (chosen_material s.now.parts.now o s.now.q c.args.ca) c.sunk_both.ensures.1,
    )
