use mathlib.Core.Path.{ap, ◌∙◌}
use Rattle.ieee.specs.Num.{max_of}
use Rattle.material.proofs.Outside.{within-square}
use Rattle.material.proofs.ranged.Ranged.deeper_square.Goals as goal

pub returns : goal.returns
returns c =
    let s = c.args.self.now in
    let m = s.material in
    c.deeper_square.ensures ∙ ap (max_of c.args.d) (within-square m.points.now m.starts.now m.solids m.all c.args.p s.range s.of_points)
