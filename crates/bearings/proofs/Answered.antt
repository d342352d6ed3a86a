-- The bearing by the governing row, and the answer of a call: the bearing of a pair, none of a pair that the description lacks, or the first refusal that applies. Assumes nothing.
use Prim.Native.Nat.{ℕ, ◌<◌}
use native.Mathlib.Omega.{arith}
use mathlib.Core.Path.{◌≡◌, refl, sym, ap, ◌∙◌}
use mathlib.Core.Bool.{Bool, true, cond}
use lib.Dec.{ltb}
use borrow.Author.Tests.{lt-ltb}
use Rattle.laws.proofs.Choice.{cond_yes}
use Rattle.mechanism.specs.Check.{check_of, call_checked}
use Rattle.mechanism.specs.Description.{pair_at}
use Rattle.bodies.specs.Pose.{pose_fits}
use Rattle.mechanism.specs.declared.Mechanism.{Mechanism}
use Rattle.mechanism.specs.declared.pair.ContactPair.{ContactPair}
use Rattle.bodies.specs.declared.pose.Pose.{Pose}
use Rattle.mechanism.specs.declared.rows.Row.{Row}
use Rattle.mechanism.proofs.Checks.{call_accepted, accepted-few}
use Rattle.sides.specs.Contacts.{pair_features, pair_features_at}
use Rattle.sides.specs.declared.contacts.PairFeatures.{PairFeatures}
use Rattle.faces.proofs.Answered.{features_drawn}
use Rattle.governing.specs.Governing.{governing_of}
use Rattle.bearings.specs.Bearing.{bearing_of, governed_bearing, bearing_if, bearing_from}
use Rattle.std.proofs.Common.{Option, Some, None, Ok, option_map, option_and_then}
use Rattle.bodies.specs.Check.{Checked}
use Rattle.mechanism.specs.declared.bearing.Bearing.{Bearing}

-- ---- o is the governing row, if any
pub by_row : (f : PairFeatures) (q : Pose) (row : ℕ → Row) (g : Option ℕ) {o : Option Row} → o ≡ option_map row g → option_and_then (bearing_of f q) o ≡ governed_bearing f q row g
by_row f q row g e = ap (option_and_then (bearing_of f q)) e ∙ of g
  where
    of : (g : Option ℕ) → option_and_then (bearing_of f q) (option_map row g) ≡ governed_bearing f q row g
    of None = refl
    of (Some i) = refl

-- ---- c is what the check of the call says, `fits` whether the pose fits
module _ (m : Mechanism) (q : Pose) (row : ℕ → Row) (n i : ℕ) {fits : Bool} {c : Checked} (f : fits ≡ pose_fits m.bodies q) (e : c ≡ call_checked m fits true true) where
  is_call : c ≡ call_checked m (pose_fits m.bodies q) true true
  is_call = e ∙ ap (λ (b : Bool). call_checked m b true true) f

  abbrev governs : Option ℕ
  governs = governing_of (λ k. (row k).pair) (λ k. (row k).gap) n i

  abbrev answer : Option Bearing
  answer = cond (ltb i m.pairs.count) (governed_bearing (pair_features m.parts m.outlines (pair_at m.pairs i)) q row governs) None

  known : c ≡ Ok tt → check_of m ≡ Ok tt
  known h = (call_accepted m fits true true (sym e ∙ h)).0

  pub pair-few : c ≡ Ok tt → i < m.pairs.count → i < 16
  pair-few h k = let l = (accepted-few m (known h)).pairs.count in omega arith

  pub is-answered : {p : ContactPair} {x : PairFeatures} {r : Option Bearing} → c ≡ Ok tt → i < m.pairs.count → p ≡ pair_at m.pairs i
      → x ≡ pair_features_at m.parts m.outlines p
      → r ≡ governed_bearing x q row governs → Ok r ≡ bearing_from m q row n i
  is-answered {r = r} h k u v w =
      ap (bearing_if (Ok tt))
      (w ∙ ap (λ (x : PairFeatures). governed_bearing x q row governs) (v ∙ ap (pair_features_at m.parts m.outlines) u ∙ features_drawn m i (known h) k)
      ∙ sym (cond_yes _ _ (lt-ltb i m.pairs.count k)))
      ∙ ap (λ (x : Checked). bearing_if x answer) (sym h ∙ is_call)
