use native.Mathlib.Omega.{arith}
use Prim.Native.Nat.{◌≤◌}
use mathlib.Core.Path.{ap}
use mathlib.Core.List.{map}
use lib.ListN.{length}
use Rattle.laws.proofs.Writing.{puts}
use Rattle.silhouette.specs.Silhouette.{boxed, outline_in}
use Rattle.silhouette.proofs.Known.{outline-long}
use Rattle.silhouette.proofs.Walks.{held-long, walk-on, up_done, starts-blank, silhouette_done}
use Rattle.silhouette.proofs.plain.Goals as goal

pub loop-i-init : goal.loop-i-init
loop-i-init c = starts-blank 94 c.no_line-seg.ensures

pub offset_bounds-seg-i : goal.offset_bounds-seg-i
offset_bounds-seg-i c = let w = c.loop-i.invariant.long in omega arith

pub bounds-seg-i : goal.bounds-seg-i
bounds-seg-i c = let w = c.loop-i.invariant.long in omega arith

pub loop-i-preserved : goal.loop-i-preserved
loop-i-preserved c =
    let s = c in
    let l = c.loop-i in
    let k = outline-long s.args.o _ s.well_formed.0 in
    puts (walk-on s.args.o.seg s.args.o.count l.i (omega arith) (omega arith)) l.invariant

pub returns : goal.returns
returns c =
    let o = c.args.o in
    let k = outline-long o _ c.well_formed.0 in
    let n : o.count ≤ length o.seg = omega arith in
    silhouette_done (outline_in o) (held-long _ _ n) (ap (map boxed) (up_done o.count c.loop-i.i _ (held-long _ _ n) (omega arith))) c.loop-i.invariant
