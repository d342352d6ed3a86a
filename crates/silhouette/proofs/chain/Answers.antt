use native.Mathlib.Omega.{arith}
use mathlib.Core.Path.{refl}
use Rattle.silhouette.proofs.Known.{outline-long}
use Rattle.silhouette.proofs.Walks.{chain_law}
use Rattle.silhouette.proofs.chain.Goals as goal

pub returns : goal.returns
returns c =
    let s = c in
    let k = outline-long s.args.o _ s.well_formed.0 in
    (refl, chain_law s.args.o.seg s.args.o.count _ _ s.requires.0 (omega arith) c.start_in.ensures c.end_in.ensures)
