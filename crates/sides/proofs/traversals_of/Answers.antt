use native.Mathlib.Omega.{arith}
use mathlib.Core.Path.{◌≡◌, refl, sym, ap, ◌∙◌}
use mathlib.Core.List.{map}
use lib.ListN.{take, length-set}
use Rattle.sides.specs.Features as F
use Rattle.sides.proofs.Known.{ranges_long}
use Rattle.sides.proofs.Walked.{runs_more}
use Rattle.sides.proofs.traversals_of.Goals as goal

pub loop-k-init : goal.loop-k-init
loop-k-init c = (refl, refl)

pub offset_bounds-u-k : goal.offset_bounds-u-k
offset_bounds-u-k c = let b = c.requires.1.ranges in omega arith

pub bounds-u-k : goal.bounds-u-k
bounds-u-k c = let b = c.requires.1.ranges in omega arith

pub traversal_of-requires : goal.traversal_of-requires
traversal_of-requires c =
    let p = c.requires in
    (p.0, p.1.drawn c.loop-k.k c.loop-k-test.true)

pub offset_bounds-all-k : goal.offset_bounds-all-k
offset_bounds-all-k c =
    let b = c.requires.1.ranges in
    let m = c.loop-k.invariant.0 in
    omega arith

pub bounds-all-k : goal.bounds-all-k
bounds-all-k c =
    let b = c.requires.1.ranges in
    let m = c.loop-k.invariant.0 in
    omega arith

pub loop-k-preserved : goal.loop-k-preserved
loop-k-preserved c =
    let s = c in
    let z = ranges_long s.args.u _ s.well_formed.1.1.0 in
    let b = s.requires.1.ranges in
    let m = c.loop-k.invariant.0 in
    let f = F.traversal_of s.args.ps s.args.o in
    (length-set c.loop-k.all c.loop-k.k _ ∙ m, runs_more f c.loop-k.all s.args.u.range c.loop-k.k _ (omega arith) (omega arith) c.traversal_of.ensures c.loop-k.invariant.1)

pub returns : goal.returns
returns c =
    let s = c in
    let e : s.args.u.count ≡ c.loop-k.k = omega arith in
    (refl, ap (λ n. map F.run_of (take n c.loop-k.all)) e ∙ c.loop-k.invariant.1 ∙ ap (λ n. map (F.traversal_of s.args.ps s.args.o) (take n s.args.u.range)) (sym e))
