use Rattle.std.proofs.Common.{rules}
use Rattle.material.specs.Material.{drawn_material}
use Rattle.proximities.specs.Proximities.{read_center}
use Rattle.candidates.proofs.center_on_faces.Goals as goal

pub returns : goal.returns
unfolding read_center
returns c = c.put_each.ensures.written (read_center (drawn_material c.args.m.now) c.args.c.piece c.args.c.point) (λ f r p. search rules)
