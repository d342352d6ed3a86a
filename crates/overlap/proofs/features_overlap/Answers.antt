use mathlib.Core.Path.{ap, ap₂, ◌∙◌}
use Rattle.std.proofs.Common.{rules, tests}
use Rattle.drawing.specs.Drawing.{is_own}
use Rattle.ieee.specs.Consts.{zero_f}
use Rattle.ieee.specs.Num.{max_of}
use Rattle.mechanism.specs.Segments.{outlines_in}
use Rattle.overlap.specs.Overlap.{owner_in}
use Rattle.overlap.proofs.Pairwise.{sunk_side}
use Rattle.overlap.proofs.features_overlap.Goals as goal

pub returns : goal.returns
returns c =
    let s = c.args.s.now in
    let both = c.sunk_between-d.ensures in
    c.max-2.ensures
    ∙ ap₂ max_of
    (c.max.ensures ∙ ap (max_of zero_f) (sunk_side s.parts.now (outlines_in s.segs.now) s.q s.few (owner_in s.parts.now c.args.a) c.args.b both.0
    (c.owners_of.ensures (is_own c.args.a) (λ i r h k. search (rules, tests))) c.side_chosen-2.ensures))
    (sunk_side s.parts.now (outlines_in s.segs.now) s.q s.few (owner_in s.parts.now c.args.b) c.args.a both.1
    (c.owners_of-2.ensures (is_own c.args.b) (λ i r h k. search (rules, tests))) c.side_chosen.ensures)
