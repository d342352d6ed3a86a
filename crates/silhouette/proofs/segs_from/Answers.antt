use native.Mathlib.Omega.{arith}
use Prim.Native.Nat.{◌+◌, ◌≤◌}
use mathlib.Core.Path.{refl, ap, ◌∙◌}
use mathlib.Core.List.{◌∷◌}
use lib.ListN.{length, take, drop, length-drop}
use lib.Seq.{length-take-le, get_or-drop}
use Rattle.laws.proofs.Writing.{puts}
use Rattle.mechanism.specs.Description.{no_seg}
use Rattle.mechanism.proofs.Known.{outlines-long}
use Rattle.silhouette.proofs.Walks.{drop-on, up_done, starts-blank, outline-done}
use Rattle.silhouette.proofs.segs_from.Goals as goal

pub loop-i-init : goal.loop-i-init
loop-i-init c = starts-blank 48 c.no_line-seg.ensures

pub offset_bounds-seg-i : goal.offset_bounds-seg-i
offset_bounds-seg-i c = let w = c.loop-i.invariant.long in omega arith

pub bounds-seg-i : goal.bounds-seg-i
bounds-seg-i c = let w = c.loop-i.invariant.long in omega arith

pub loop-i-preserved : goal.loop-i-preserved
loop-i-preserved c =
    let s = c in
    let l = c.loop-i in
    let k = outlines-long s.args.o _ s.well_formed.0 in
    let d = length-drop s.args.at s.args.o.seg in
    puts (drop-on (drop s.args.at s.args.o.seg) s.args.n l.i (omega arith) (omega arith) ∙ ap (λ x. x ∷ drop (l.i + 1) (take s.args.n (drop s.args.at s.args.o.seg))) (get_or-drop s.args.at s.args.o.seg l.i no_seg)) l.invariant

pub returns : goal.returns
returns c =
    let s = c in
    let l = c.loop-i in
    let k = outlines-long s.args.o _ s.well_formed.0 in
    let d = length-drop s.args.at s.args.o.seg in
    let n : s.args.n ≤ length (drop s.args.at s.args.o.seg) = omega arith in
    let m = length-take-le s.args.n (drop s.args.at s.args.o.seg) n in
    (refl, outline-done m s.requires.1 (up_done s.args.n l.i _ m (omega arith)) l.invariant)
