use Rattle.std.proofs.Common.{rules}
use Rattle.material.specs.Material.{drawn_material}
use Rattle.proximities.specs.Proximities.{read_ba}
use Rattle.candidates.proofs.discs_on_a.Goals as goal

pub returns-clause-written : goal.returns-clause-written
unfolding read_ba
returns-clause-written c = c.put_all.ensures.written (read_ba (drawn_material c.args.m.now)) (λ d f r p. search rules)
