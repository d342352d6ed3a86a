-- The entries of a text as they are lent, and the pose that they give. Assumes nothing.
use Prim.Native.Nat.{ℕ, ◌<◌, ◌≤◌}
use native.Mathlib.Omega.{arith}
use mathlib.Core.Path.{◌≡◌, sym, ap, ◌∙◌}
use mathlib.Core.Bool.{true}
use mathlib.Core.List.{List, map}
use lib.Dec.{eqb}
use borrow.Author.Tests.{eqb-true}
use lib.ListN.{length, take}
use lib.Seq.{take_all, length-take-le}
use lib.Ieee.{Float}
use mir.Val.{Val}
use denote.Laws.{Is}
use Rattle.laws.proofs.Fill.{map-take}
use Rattle.bodies.specs.Pose.{bodies_posed, posed_of}
use Rattle.bodies.specs.declared.Problem.{Problem}
use Rattle.bodies.specs.declared.pose.Pose.{Pose}
use Rattle.bodies.proofs.Known.{array_length}
use Rattle.bodies.specs.contracts.pose.Entry as E
use Rattle.mechanism.specs.Check.{check_of, call_checked}
use Rattle.mechanism.proofs.Checks.{call_accepted, accepted-few, posed_bodies}
use Rattle.mechanism.specs.declared.Mechanism.{Mechanism}
use Rattle.sheet.specs.declared.Entries.{Entries}
use Rattle.sheet.specs.Posed.{entry_row, lent_of, pose_of}
use Rattle.sheet.specs.contracts.Entries as S
use Rattle.std.proofs.Common.{Result, Ok}
use Rattle.bodies.specs.Check.{Checked}

-- a text's entries are sixteen
pub entries-long : (e : Entries) (vs : List Val) → Is S.the_row e vs → length e.entry ≡ 16
entries-long e vs p = array_length E.the_row 16 e.entry _ p.1.1.1.0

-- ---- the pose of a text's entries
module _ (m : Mechanism) (e : Entries) where
  abbrev checked : Checked
  checked = call_checked m (eqb e.count m.bodies.coords) true true

  -- the description of a call that is not refused, and what it was asked
  passes : checked ≡ Ok tt → (check_of m ≡ Ok tt) × (eqb e.count m.bodies.coords ≡ true)
  passes a = let c = call_accepted m (eqb e.count m.bodies.coords) true true a in (c.0, c.1)

  module _ (a : checked ≡ Ok tt) {l : List (List Float)} (h : l ≡ map entry_row e.entry) (long : length l ≡ 16) where
    lent-as : take e.count l ≡ lent_of e
    lent-as = ap (take e.count) h ∙ sym (map-take entry_row e.entry e.count)

    -- what the bodies by themselves refuse of the entries that are lent is what the description refuses of those that are counted
    posed_by : (q : List (List Float)) {r : Result Pose Problem} → q ≡ lent_of e → length q ≡ e.count → r ≡ posed_of (bodies_posed m.bodies q) m.bodies q → r ≡ pose_of m e
    posed_by q s n k =
        k
        ∙ ap (λ (c : Checked). posed_of c m.bodies q) (posed_bodies m q (passes a).0 ∙ ap (λ (i : ℕ). call_checked m (eqb i m.bodies.coords) true true) n)
        ∙ ap (posed_of checked m.bodies) s

    pub posed_first : {r : Result Pose Problem} → e.count < 16 → r ≡ posed_of (bodies_posed m.bodies (take e.count l)) m.bodies (take e.count l) → r ≡ pose_of m e
    posed_first n k = posed_by (take e.count l) lent-as (length-take-le e.count l (omega (arith, long))) k

    -- no accepted description has more than sixteen coordinates
    pub posed_all : {r : Result Pose Problem} → 16 ≤ e.count → r ≡ posed_of (bodies_posed m.bodies l) m.bodies l → r ≡ pose_of m e
    posed_all n k =
        let c = passes a in
        let few = (accepted-few m c.0).coords in
        let same : e.count ≡ m.bodies.coords = eqb-true e.count m.bodies.coords c.1 in
        posed_by l (sym (take_all e.count l (omega (arith, long))) ∙ lent-as) (omega (arith, long, few, same)) k
