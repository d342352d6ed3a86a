use native.Mathlib.Omega.{arith}
use Prim.Native.Nat.{◌≤◌}
use mathlib.Core.Path.{ap, ◌∙◌}
use mathlib.Core.List.{map}
use lib.ListN.{length, length-map}
use Rattle.laws.proofs.Writing.{puts}
use Rattle.silhouette.specs.Silhouette.{boxed, turned_seg, outline_in}
use Rattle.silhouette.proofs.Known.{outline-long}
use Rattle.silhouette.proofs.Walks.{held-long, walk_up, up_done, starts-blank, silhouette_done}
use Rattle.silhouette.proofs.turned.Goals as goal

pub loop-i-init : goal.loop-i-init
loop-i-init c = starts-blank 94 c.no_line-seg.ensures

pub offset_bounds-seg-i : goal.offset_bounds-seg-i
offset_bounds-seg-i c = let w = c.loop-i.invariant.long in omega arith

pub bounds-seg-i : goal.bounds-seg-i
bounds-seg-i c = let w = c.loop-i.invariant.long in omega arith

pub loop-i-preserved : goal.loop-i-preserved
loop-i-preserved c =
    let o = c.args.o in
    let k = outline-long o _ c.well_formed.0 in
    puts (walk_up (turned_seg c.args.axis) o.seg o.count c.loop-i.i _ (omega arith) (omega arith) c.about_axis.ensures) c.loop-i.invariant

pub returns : goal.returns
returns c =
    let o = c.args.o in
    let k = outline-long o _ c.well_formed.0 in
    let n : o.count ≤ length o.seg = omega arith in
    silhouette_done (map (turned_seg c.args.axis) (outline_in o)) (length-map (outline_in o) (turned_seg c.args.axis) ∙ held-long _ _ n)
    (ap (λ m. map boxed (map (turned_seg c.args.axis) m)) (up_done o.count c.loop-i.i _ (held-long _ _ n) (omega arith))) c.loop-i.invariant
