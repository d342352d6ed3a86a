use mathlib.Core.Path.{refl}
use lib.ListN.{replicate}
use Rattle.ieee.specs.Consts.{zero_f}
use Rattle.mechanism.proofs.Known.{description_long}
use Rattle.mechanism.proofs.SameCheck.{check_put}
use Rattle.mechanism.proofs.check.check.Goals as goal

pub returns : goal.returns
returns c =
    check_put c.args.m (replicate 384 (replicate 8 zero_f)) (description_long c.args.m _ c.well_formed.0) refl c.segs_counted.ensures c.put_segs.ensures c.check_in.ensures
