use mathlib.Core.Path.{ap, ◌∙◌}
use Rattle.overlap.specs.Overlap.{owner_at, sunk_among}
use Rattle.overlap.proofs.sunk.sunk.Goals as goal

pub returns : goal.returns
returns g c =
    let s = c.args in
    c.sunk_in.ensures ∙ ap (sunk_among (g.S.Sampled.samples s.s.now) (g.S.Sampled.count s.s.now) (owner_at s.w)) (c.draw-n.ensures c.held.result c.held.ensures)
