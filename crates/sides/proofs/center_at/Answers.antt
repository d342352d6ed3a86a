use mathlib.Core.Path.{refl}
use lib.ListN.{replicate}
use Rattle.ieee.specs.Consts.{zero_f}
use Rattle.mechanism.proofs.Known.{outlines-long}
use Rattle.sides.proofs.SameCenter.{center_put}
use Rattle.sides.proofs.center_at.Goals as goal

pub returns : goal.returns
returns c =
    let s = c in
    center_put s.args.ps s.args.o s.args.u s.args.wanted s.requires.0 (replicate 384 (replicate 8 zero_f)) (outlines-long s.args.o _ s.well_formed.1.0)
    refl c.segs_counted.ensures c.put_segs.ensures c.center_in.ensures
