-- The answer of a call: the bearing of a pair by the record found, none of a pair that the description lacks, or the first refusal that applies; and the same by all records. Assumes nothing.
use Prim.Native.Nat.{ℕ, ◌<◌}
use native.Mathlib.Omega.{arith}
use mathlib.Core.Path.{◌≡◌, refl, sym, ap, ◌∙◌}
use mathlib.Core.Bool.{Bool, true, cond}
use mathlib.Core.List.{List}
use lib.Dec.{ltb}
use lib.ListN.{length}
use borrow.Author.Tests.{lt-ltb}
use Rattle.laws.proofs.Choice.{cond_yes}
use Rattle.mechanism.specs.Check.{check_of, call_checked}
use Rattle.mechanism.specs.Description.{pair_at}
use Rattle.bodies.specs.Pose.{pose_fits}
use Rattle.mechanism.specs.declared.Mechanism.{Mechanism}
use Rattle.mechanism.specs.declared.pair.ContactPair.{ContactPair}
use Rattle.bodies.specs.declared.pose.Pose.{Pose}
use Rattle.mechanism.specs.declared.rows.Row.{Row}
use Rattle.mechanism.proofs.Checks.{call_accepted, accepted-few}
use Rattle.sides.specs.Contacts.{pair_features, pair_features_at}
use Rattle.sides.specs.declared.contacts.PairFeatures.{PairFeatures}
use Rattle.faces.proofs.Answered.{features_drawn}
use Rattle.bearings.specs.Bearing.{governed_bearing, bearing_if}
use Rattle.governing.specs.Governing.{governing_of}
use Rattle.row_records.specs.declared.Found.{Found}
use Rattle.row_records.specs.Records.{record_at, gap_at, bearing_record}
use Rattle.row_records.specs.Private.{found_at, found_of, bearing_at, bearing_found}
use Rattle.std.proofs.Common.{Option, Some, None, Ok}
use Rattle.bodies.specs.Check.{Checked}
use Rattle.mechanism.specs.declared.bearing.Bearing.{Bearing}

-- ---- c is what the check of the call says, `fits` whether the pose fits
module _ (m : Mechanism) (q : Pose) (found : Option Found) (i : ℕ) {fits : Bool} {c : Checked} (f : fits ≡ pose_fits m.bodies q) (e : c ≡ call_checked m fits true true) where
  is_call : c ≡ call_checked m (pose_fits m.bodies q) true true
  is_call = e ∙ ap (λ (b : Bool). call_checked m b true true) f

  abbrev answer : Option Bearing
  answer = cond (ltb i m.pairs.count) (bearing_at (pair_features m.parts m.outlines (pair_at m.pairs i)) q found) None

  known : c ≡ Ok tt → check_of m ≡ Ok tt
  known h = (call_accepted m fits true true (sym e ∙ h)).0

  pub pair-few : c ≡ Ok tt → i < m.pairs.count → i < 16
  pair-few h k = let l = (accepted-few m (known h)).pairs.count in omega arith

  pub is-answered : {p : ContactPair} {x : PairFeatures} {r : Option Bearing} → c ≡ Ok tt → i < m.pairs.count → p ≡ pair_at m.pairs i
      → x ≡ pair_features_at m.parts m.outlines p
      → r ≡ bearing_at x q found → Ok r ≡ bearing_found m q found i
  unfolding bearing_found
  is-answered {r = r} h k u v w =
      ap (bearing_if (Ok tt))
      (w ∙ ap (λ (x : PairFeatures). bearing_at x q found) (v ∙ ap (pair_features_at m.parts m.outlines) u ∙ features_drawn m i (known h) k)
      ∙ sym (cond_yes _ _ (lt-ltb i m.pairs.count k)))
      ∙ ap (λ (x : Checked). bearing_if x answer) (sym h ∙ is_call)

-- ---- of all records
module _ (m : Mechanism) (q : Pose) (rows : List Row) (p : ℕ) where
  bearing-of : (f : PairFeatures) (g : Option ℕ) → bearing_at f q (found_at rows g) ≡ governed_bearing f q (record_at rows) g
  bearing-of f None = refl
  bearing-of f (Some i) = refl

  pub bearing-is : bearing_found m q (found_of rows p (length rows)) p ≡ bearing_record m q rows p
  unfolding bearing_found found_of bearing_record
  bearing-is =
      ap (λ (b : Option Bearing). bearing_if (call_checked m (pose_fits m.bodies q) true true) (cond (ltb p m.pairs.count) b None))
      (bearing-of (pair_features m.parts m.outlines (pair_at m.pairs p)) (governing_of (λ i. (record_at rows i).pair) (gap_at rows) (length rows) p))
