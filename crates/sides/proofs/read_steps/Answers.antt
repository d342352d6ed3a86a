use native.Mathlib.Omega.{arith}
use mathlib.Core.Path.{◌≡◌, sym, ap, ◌∙◌}
use lib.ListN.{get_or}
use Rattle.laws.specs.Loops.{join_in}
use Rattle.laws.proofs.Fill.{join_more, join_nothing}
use Rattle.sides.specs.Features.{step_discs, range_faces}
use Rattle.sides.specs.Features as F
use Rattle.sides.proofs.Growth.{grown-as, grown-same, grown-then}
use Rattle.sides.proofs.Walked.{step-at}
use Rattle.sides.proofs.Few.{faces_few, steps_few, step_faces}
use Rattle.sides.proofs.read_steps.Goals as goal

pub loop-i-init : goal.loop-i-init
loop-i-init c = grown-as (sym (join_nothing _ 0)) (sym (join_nothing _ 0)) (grown-same _)

pub read_step-g-requires : goal.read_step-g-requires
read_step-g-requires c =
    let s = c in
    let w = c.loop-i.invariant in
    let x = w.more_faces in
    let y = w.more_discs in
    let p = faces_few (F.run_of s.args.t) c.loop-i.i in
    let q = steps_few (F.run_of s.args.t) s.args.first c.loop-i.i in
    omega arith

pub loop-i-preserved : goal.loop-i-preserved
unfolding step_discs
loop-i-preserved c =
    let s = c in
    let t = s.args.t in
    let e = sym (step-at t c.loop-i.i c.loop-i-test.true) in
    grown-as (sym (join_more (step_faces (F.run_of t)) c.loop-i.i)) (sym (join_more (F.step_discs (F.run_of t) s.args.first) c.loop-i.i))
    (grown-then c.loop-i.invariant
    (grown-as (ap (F.faces_at t.part) e)
    (ap (λ p. F.discs_at t.part t.cut p (get_or t.steps c.loop-i.i F.no_step)) c.previous_at.ensures ∙ ap (F.discs_at t.part t.cut (F.previous_at (F.run_of t) s.args.first c.loop-i.i)) e)
    c.read_step-g.ensures))

pub returns : goal.returns
unfolding range_faces
returns c =
    let s = c in
    let e : c.loop-i.i ≡ s.args.t.count = omega arith in
    grown-as (ap (λ k. join_in (step_faces (F.run_of s.args.t)) k 0) e) (ap (λ k. join_in (F.step_discs (F.run_of s.args.t) s.args.first) k 0) e) c.loop-i.invariant
