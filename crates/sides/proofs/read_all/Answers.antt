use native.Mathlib.Omega.{arith}
use mathlib.Core.Path.{◌≡◌, sym, ap, ◌∙◌}
use lib.ListN.{length, get_or}
use Rattle.laws.specs.Loops.{join_in}
use Rattle.laws.proofs.Fill.{join_more, join_nothing}
use Rattle.laws.proofs.Sums.{sum-part}
use Rattle.sides.specs.Features as F
use Rattle.sides.specs.Features.{faces_of, discs_of}
use Rattle.sides.proofs.Known.{runs_long}
use Rattle.sides.proofs.Growth.{grown-as, grown-same, grown-then, grown-all}
use Rattle.sides.proofs.Walked.{run_at_lem, runs_count, no_traversal}
use Rattle.sides.proofs.Few.{faces_upto, features_upto}
use Rattle.sides.proofs.Sizes.{sized}
use Rattle.sides.proofs.read_all.Goals as goal

pub loop-k-init : goal.loop-k-init
loop-k-init c = grown-as (sym (join_nothing _ 0)) (sym (join_nothing _ 0)) (grown-same _)

pub read_range-f-requires : goal.read_range-f-requires
read_range-f-requires c =
    let s = c in
    let z = c.no_features-f.ensures in
    let ts = s.args.ts in
    let h = c.loop-k-test.true in
    let m = runs_long ts _ s.well_formed.0 in
    let v = sized ts c.loop-k.k h m s.requires.0 s.requires.1 in
    let w = c.loop-k.invariant in
    let x = w.more_faces in
    let y = w.more_discs in
    let a = faces_upto (F.runs_in ts) c.loop-k.k in
    let b = features_upto (F.runs_in ts) c.loop-k.k in
    let n = runs_count ts (omega arith) in
    let e : (F.run_at (F.runs_in ts) c.loop-k.k).count ≡ (get_or ts.traversal c.loop-k.k no_traversal).count = ap (λ t. t.count) (run_at_lem ts c.loop-k.k h) in
    let p = sum-part (λ j. (F.run_at (F.runs_in ts) j).count) c.loop-k.k (length (F.runs_in ts)) (omega arith) in
    let q = s.requires.1.few in
    (v.0, v.1, omega arith, omega arith)

pub loop-k-preserved : goal.loop-k-preserved
loop-k-preserved c =
    let s = c in
    let ts = s.args.ts in
    let e = sym (run_at_lem ts c.loop-k.k c.loop-k-test.true) in
    let a = c.last_before.ensures in
    let b = c.first_after.ensures in
    grown-as (sym (join_more (F.faces_of_range (F.runs_in ts)) c.loop-k.k)) (sym (join_more (F.discs_of_range (F.runs_in ts)) c.loop-k.k))
    (grown-then c.loop-k.invariant
    (grown-as (ap F.range_faces e)
    (ap (λ t. F.range_discs t c.last_before.result c.first_after.result) e ∙ ap (λ x. F.range_discs (F.run_at (F.runs_in ts) c.loop-k.k) x c.first_after.result) a
    ∙ ap (F.range_discs (F.run_at (F.runs_in ts) c.loop-k.k) (F.last_before (F.runs_in ts) c.loop-k.k)) b)
    c.read_range-f.ensures))

pub returns : goal.returns
unfolding faces_of discs_of
returns c =
    let s = c in
    let ts = s.args.ts in
    let m = runs_long ts _ s.well_formed.0 in
    let n = runs_count ts (omega arith) in
    let e : c.loop-k.k ≡ length (F.runs_in ts) = omega arith in
    let g = grown-all c.no_features-f.ensures (ap (λ k. join_in (F.faces_of_range (F.runs_in ts)) k 0) e) (ap (λ k. join_in (F.discs_of_range (F.runs_in ts)) k 0) e) c.loop-k.invariant in
    record { faces = (g.0, g.1); discs = (g.2, g.3) }
