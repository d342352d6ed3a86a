use Prim.Native.Nat.{◌+◌, ◌≤◌, ◌-◌}
use native.Mathlib.Omega.{arith}
use mathlib.Core.Path.{◌≡◌, refl, ap, ◌∙◌}
use mathlib.Core.List.{◌∷◌, map}
use lib.ListN.{length, take}
use Rattle.laws.specs.Fill.{range}
use Rattle.laws.proofs.Fill.{fill_from, fill_put, fill_end, range-turn, range-done}
use Rattle.silhouette.specs.Silhouette.{segs_in}
use Rattle.silhouette.proofs.Known.{silhouette_long}
use Rattle.sides.specs.Features as F
use Rattle.sides.proofs.Walked.{forward_at}
use Rattle.sides.proofs.forward_steps.Goals as goal

pub loop-i-init : goal.loop-i-init
loop-i-init c =
    let e : c.args.first - c.args.first ≡ 0 = omega arith in
    fill_from refl (rw e)

pub loop-i-preserved : goal.loop-i-preserved
loop-i-preserved c =
    let s = c.args in
    let i = c.loop-i.i in
    let k = silhouette_long s.sil _ c.well_formed.1.1.0 in
    let n : s.sil.count ≤ length s.sil.seg = omega arith in
    let e : i - s.first + 1 ≡ i + 1 - s.first = omega arith in
    rw (← e)
    (fill_put (omega arith)
    (ap (map (F.forward_step (segs_in s.sil))) (range-turn i s.past c.loop-i-test.true)
    ∙ ap (λ x. x ∷ map (F.forward_step (segs_in s.sil)) (range (i + 1) s.past)) (forward_at s.sil i n (omega arith)))
    c.loop-i.invariant)

pub returns : goal.returns
returns c =
    let s = c.args in
    let e : s.past - s.first ≡ c.loop-i.i - s.first = omega arith in
    (refl, ap (λ j. take j c.loop-i.all) e ∙ fill_end (ap (map (F.forward_step (segs_in s.sil))) (range-done c.loop-i.i s.past c.loop-i-test.false)) c.loop-i.invariant)
