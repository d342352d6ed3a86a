use native.Mathlib.Omega.{arith}
use mathlib.Core.Path.{sym, ap, ◌∙◌}
use mathlib.Core.List.{map}
use lib.Seq.{take_all}
use Rattle.silhouette.specs.Silhouette.{seg_of}
use Rattle.silhouette.proofs.Known.{outline-long}
use Rattle.silhouette.proofs.counted.Goals as goal

pub returns : goal.returns
returns c =
    let s = c in
    let k = outline-long s.args.o _ s.well_formed.0 in
    (omega arith, ap (map seg_of) (take_all 48 s.args.o.seg (omega arith) ∙ sym (take_all s.args.o.count s.args.o.seg (omega arith))))
