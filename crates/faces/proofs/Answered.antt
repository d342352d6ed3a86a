-- The answer of a call for a pair: its features where the call is not refused, otherwise the first refusal that applies. Assumes nothing.
use Prim.Native.Nat.{ℕ, ◌<◌}
use native.Mathlib.Omega.{arith}
use mathlib.Core.Path.{◌≡◌, sym, ap, ◌∙◌}
use mathlib.Core.Bool.{Bool, true}
use lib.Dec.{ltb}
use lib.Ieee.{Float}
use borrow.Author.Tests.{ltb-true}
use Rattle.laws.proofs.Choice.{cond_yes}
use Rattle.mechanism.specs.Check.{check_of, call_checked, answer_of}
use Rattle.mechanism.specs.Description.{pair_at}
use Rattle.bodies.specs.Pose.{pose_fits}
use Rattle.mechanism.specs.declared.Mechanism.{Mechanism}
use Rattle.bodies.specs.declared.Problem.{Problem}
use Rattle.mechanism.specs.declared.pair.ContactPair.{ContactPair}
use Rattle.bodies.specs.declared.pose.Pose.{Pose}
use Rattle.mechanism.proofs.Checks.{call_accepted, accepted-few}
use Rattle.mechanism.proofs.Drawn.{accepted-pair-drawn}
use Rattle.sides.specs.Contacts.{pair_features, pair_features_at}
use Rattle.sides.specs.declared.contacts.PairFeatures.{PairFeatures}
use Rattle.faces.specs.Faces.{sides_overlap, face_overlap_answer}
use Rattle.std.proofs.Common.{Ok, Err}
use Rattle.bodies.specs.Check.{Checked}

-- of a pair of an accepted description
pub features_drawn : (m : Mechanism) (i : ℕ) → check_of m ≡ Ok tt → i < m.pairs.count
    → pair_features_at m.parts m.outlines (pair_at m.pairs i) ≡ pair_features m.parts m.outlines (pair_at m.pairs i)
unfolding pair_features_at
features_drawn m i e h = cond_yes _ _ (accepted-pair-drawn m e i h)

-- c is what the check of the call says, `fits` whether the pose fits
module _ (m : Mechanism) (q : Pose) (i : ℕ) {fits : Bool} {c : Checked} (f : fits ≡ pose_fits m.bodies q) (e : c ≡ call_checked m fits (ltb i m.pairs.count) true) where
  abbrev named : Bool
  named = ltb i m.pairs.count

  abbrev answer : Float
  answer = sides_overlap (pair_features m.parts m.outlines (pair_at m.pairs i)) q

  is_call : c ≡ call_checked m (pose_fits m.bodies q) named true
  is_call = e ∙ ap (λ (b : Bool). call_checked m b named true) f

  -- where it accepts, there is such a pair
  known : c ≡ Ok tt → (check_of m ≡ Ok tt) × (i < m.pairs.count)
  known h =
      let k = call_accepted m fits named true (sym e ∙ h) in
      (k.0, ltb-true i m.pairs.count k.2)

  pub pair-few : c ≡ Ok tt → i < 16
  pair-few h =
      let k = known h in
      let l = (accepted-few m k.0).pairs.count in
      let n = k.1 in
      omega arith

  pub is-answered : {p : ContactPair} {x : PairFeatures} {r : Float} → c ≡ Ok tt → p ≡ pair_at m.pairs i → x ≡ pair_features_at m.parts m.outlines p → r ≡ sides_overlap x q
      → Ok r ≡ face_overlap_answer m q i
  unfolding face_overlap_answer
  is-answered h u v w =
      let k = known h in
      ap Ok (w ∙ ap (λ (x : PairFeatures). sides_overlap x q) (v ∙ ap (pair_features_at m.parts m.outlines) u ∙ features_drawn m i k.0 k.1))
      ∙ ap (λ (x : Checked). answer_of x answer) (sym h ∙ is_call)

  pub is-refused : {p : Problem} → c ≡ Err p → Err p ≡ face_overlap_answer m q i
  unfolding face_overlap_answer
  is-refused h = ap (λ (x : Checked). answer_of x answer) (sym h ∙ is_call)
