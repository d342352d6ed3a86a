use Prim.Native.Nat.{ℕ, ◌+◌, ◌≤◌, ◌-◌}
use native.Mathlib.Omega.{arith}
use native.Mathlib.Nat.{sub-zero}
use mathlib.Core.Path.{◌≡◌, refl, ap, ◌∙◌}
use mathlib.Core.List.{◌∷◌, map, reverse}
use lib.ListN.{length, take}
use Rattle.laws.specs.Fill.{range}
use Rattle.laws.proofs.Fill.{fill_from, fill_put, fill_end, range-done, reverse_range}
use Rattle.silhouette.specs.Silhouette.{segs_in}
use Rattle.silhouette.proofs.Known.{silhouette_long}
use Rattle.sides.specs.Features as F
use Rattle.sides.proofs.Walked.{backward_at}
use Rattle.sides.proofs.backward_steps.Goals as goal

pub loop-k-init : goal.loop-k-init
loop-k-init c = fill_from refl (rw sub-zero)

pub loop-k-preserved : goal.loop-k-preserved
loop-k-preserved c =
    let s = c.args in
    let i = s.past - 1 - c.loop-k.k in
    let k = silhouette_long s.sil _ c.well_formed.1.1.0 in
    let n : s.sil.count ≤ length s.sil.seg = omega arith in
    let e : s.past - c.loop-k.k ≡ i + 1 = omega arith in
    let d : i ≡ s.past - (c.loop-k.k + 1) = omega arith in
    let left = λ (j : ℕ). map (F.backward_step (segs_in s.sil)) (reverse (range s.first j)) in
    rw (← d) (fill_put (omega arith)
    (ap left e ∙ ap (map (F.backward_step (segs_in s.sil))) (reverse_range s.first i (omega arith))
    ∙ ap (λ x. x ∷ left i) (backward_at s.sil i n (omega arith) _ c.run_back.ensures)) c.loop-k.invariant)

pub returns : goal.returns
returns c =
    let s = c.args in
    let e : s.past - s.first ≡ c.loop-k.k = omega arith in
    (refl, ap (λ j. take j c.loop-k.all) e ∙ fill_end (ap (λ m. map (F.backward_step (segs_in s.sil)) (reverse m)) (range-done s.first (s.past - c.loop-k.k) (omega arith))) c.loop-k.invariant)
