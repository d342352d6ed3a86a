use Rattle.std.proofs.Common.{rules}
use Rattle.proximities.specs.Proximities.{read_discs}
use Rattle.candidates.proofs.discs_on_discs.Goals as goal

pub returns : goal.returns
unfolding read_discs
returns c = c.put_all.ensures.written read_discs (λ d e r p. search rules)
