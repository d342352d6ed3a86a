use Rattle.std.proofs.Common.{rules}
use Rattle.material.specs.Material.{drawn_material}
use Rattle.proximities.specs.Proximities.{read_ab}
use Rattle.candidates.proofs.discs_on_b.Goals as goal

pub returns-clause-written : goal.returns-clause-written
unfolding read_ab
returns-clause-written c = c.put_all.ensures.written (read_ab (drawn_material c.args.m.now)) (λ d f r p. search rules)
