-- What is known where a call is accepted. Assumes nothing.
use Prim.Native.Nat.{ℕ, zero, suc, ◌+◌, ◌<◌, ◌≤◌}
use native.Mathlib.Omega.{arith}
use mathlib.Core.Path.{◌≡◌, refl, sym, ap, ap₂, ◌∙◌}
use mathlib.Core.Bool.{Bool, true, false, ◌&&◌}
use mathlib.Core.List.{List}
use lib.Dec.{ltb}
use lib.Ieee.{Float}
use Rattle.laws.specs.Loops.{fold_in}
use Rattle.laws.proofs.Choice.{cond_yes, cond_no, both}
use borrow.Author.Tests.{ltb-true}
use Rattle.ieee.specs.Consts.{zero_f}
use Rattle.ieee.specs.Num.{max_of}
use Rattle.bodies.specs.Check.{Checked}
use Rattle.mechanism.specs.Check.{FewParts, check_of, call_checked, answer_of, pair_drawn}
use Rattle.mechanism.specs.Description.{pair_at}
use Rattle.bodies.specs.Pose.{pose_fits}
use Rattle.mechanism.specs.declared.Mechanism.{Mechanism}
use Rattle.mechanism.specs.declared.Outlines.{Outlines}
use Rattle.mechanism.specs.declared.Parts.{Parts}
use Rattle.bodies.specs.declared.Problem.{Problem}
use Rattle.mechanism.specs.declared.pair.ContactPair.{ContactPair}
use Rattle.bodies.specs.declared.pose.Pose.{Pose}
use Rattle.mechanism.proofs.Checks.{call_accepted, accepted-few}
use Rattle.mechanism.proofs.Drawn.{accepted-pair-drawn}
use Rattle.overlap.specs.Overlap.{pair_overlap, pair_overlap_at, pair_overlap_answer, overlap_of, overlap_answer, all_parts, parts_overlap, parts_overlap_answer}
use Rattle.std.proofs.Common.{Ok, Err}

-- ---- the pairs of an accepted description are drawn
module _ (m : Mechanism) (e : check_of m ≡ Ok tt) (q : Pose) where
  pair-overlap_is : (i : ℕ) → i < m.pairs.count → pair_overlap_at m.parts m.outlines q (pair_at m.pairs i) ≡ pair_overlap m.parts m.outlines q (pair_at m.pairs i)
  unfolding pair_overlap_at
  pair-overlap_is i h = cond_yes _ _ (accepted-pair-drawn m e i h)

  folds_same : (d : Float) (k j : ℕ) → j + k ≤ m.pairs.count
      → fold_in (λ d i. max_of d (pair_overlap_at m.parts m.outlines q (pair_at m.pairs i))) d k j
      ≡ fold_in (λ d i. max_of d (pair_overlap m.parts m.outlines q (pair_at m.pairs i))) d k j
  unfolding fold_in
  folds_same d zero j h = refl
  folds_same d (suc k) j h =
      ap (λ (x : Float). fold_in (λ d i. max_of d (pair_overlap_at m.parts m.outlines q (pair_at m.pairs i))) (max_of d x) k (suc j)) (pair-overlap_is j (omega arith))
      ∙ folds_same (max_of d (pair_overlap m.parts m.outlines q (pair_at m.pairs j))) k (suc j) (omega arith)

  pub overlap_is : fold_in (λ d i. max_of d (pair_overlap_at m.parts m.outlines q (pair_at m.pairs i))) zero_f m.pairs.count 0 ≡ overlap_of m q
  unfolding overlap_of
  overlap_is = folds_same zero_f m.pairs.count 0 (omega arith)

-- ---- the answer to a call, from what its list of refusals gave
module _ (m : Mechanism) (q : Pose) {c : Checked} {fits : Bool} (f : fits ≡ pose_fits m.bodies q) where
  said : (known : Bool) → c ≡ call_checked m fits known true → c ≡ call_checked m (pose_fits m.bodies q) known true
  said known e = e ∙ ap (λ (b : Bool). call_checked m b known true) f

  refused_as : (known : Bool) {p : Problem} (x : Float) → c ≡ call_checked m fits known true → c ≡ Err p → Err p ≡ answer_of (call_checked m (pose_fits m.bodies q) known true) x
  refused_as known x e r = ap (λ (k : Checked). answer_of k x) (sym r ∙ said known e)

  answered-as : (known : Bool) {d : Float} (x : Float) → c ≡ call_checked m fits known true → c ≡ Ok tt → d ≡ x → Ok d ≡ answer_of (call_checked m (pose_fits m.bodies q) known true) x
  answered-as known x e r h = ap Ok h ∙ ap (λ (k : Checked). answer_of k x) (sym r ∙ said known e)

  -- pair_overlap
  module _ (i : ℕ) (e : c ≡ call_checked m fits (ltb i m.pairs.count) true) where
    pub pair-refused : {p : Problem} → c ≡ Err p → Err p ≡ pair_overlap_answer m q i
    unfolding pair_overlap_answer
    pair-refused r = refused_as (ltb i m.pairs.count) _ e r

    module _ (r : c ≡ Ok tt) where
      description_taken : check_of m ≡ Ok tt
      description_taken = (call_accepted m fits (ltb i m.pairs.count) true (sym e ∙ r)).0

      there : i < m.pairs.count
      there = ltb-true i m.pairs.count (call_accepted m fits (ltb i m.pairs.count) true (sym e ∙ r)).2

      pub pair-there : i < 16
      pair-there =
          let h = there in
          let n = (accepted-few m description_taken).pairs.count in
          omega (arith, h, n)

      pub pair-few : FewParts m.parts
      pair-few = (accepted-few m description_taken).parts

      pub pair-is-drawn : {p : ContactPair} → p ≡ pair_at m.pairs i → pair_drawn m.parts p ≡ true
      pair-is-drawn k = ap (pair_drawn m.parts) k ∙ accepted-pair-drawn m description_taken i there

      pub pair-answered : {d : Float} {p : ContactPair} → d ≡ pair_overlap m.parts m.outlines q p → p ≡ pair_at m.pairs i → Ok d ≡ pair_overlap_answer m q i
      unfolding pair_overlap_answer
      pair-answered h k = answered-as (ltb i m.pairs.count) _ e r (h ∙ ap (pair_overlap m.parts m.outlines q) k)

  -- overlap
  module _ (e : c ≡ call_checked m fits true true) where
    pub all-refused : {p : Problem} → c ≡ Err p → Err p ≡ overlap_answer m q
    unfolding overlap_answer
    all-refused r = refused_as true _ e r

    module _ (r : c ≡ Ok tt) where
      pub pairs-few : m.pairs.count ≤ 16
      pairs-few = (accepted-few m (call_accepted m fits true true (sym e ∙ r)).0).pairs.count

      pub all-answered : {d : Float} → d ≡ fold_in (λ d i. max_of d (pair_overlap_at m.parts m.outlines q (pair_at m.pairs i))) zero_f m.pairs.count 0 → Ok d ≡ overlap_answer m q
      unfolding overlap_answer
      all-answered h = answered-as true _ e r (h ∙ overlap_is m (call_accepted m fits true true (sym e ∙ r)).0 q)

  -- parts_overlap
  module _ (a b : List ℕ) {x y : Bool} (g : x ≡ all_parts m.parts a) (h : y ≡ all_parts m.parts b) (e : c ≡ call_checked m fits (x && y) true) where
    told : c ≡ call_checked m fits (all_parts m.parts a && all_parts m.parts b) true
    told = e ∙ ap₂ (λ (s t : Bool). call_checked m fits (s && t) true) g h

    pub parts-refused : {p : Problem} → c ≡ Err p → Err p ≡ parts_overlap_answer m q a b
    unfolding parts_overlap_answer
    parts-refused r = refused_as (all_parts m.parts a && all_parts m.parts b) _ told r

    module _ (r : c ≡ Ok tt) where
      pub parts-there : FewParts m.parts × (all_parts m.parts a ≡ true) × (all_parts m.parts b ≡ true)
      parts-there =
          let t = call_accepted m fits (x && y) true (sym e ∙ r) in
          let k = both x y t.2 in
          ((accepted-few m t.0).parts, sym g ∙ k.0, sym h ∙ k.1)

      pub parts-answered : {d : Float} → d ≡ parts_overlap m.parts m.outlines q a b → Ok d ≡ parts_overlap_answer m q a b
      unfolding parts_overlap_answer
      parts-answered s = answered-as (all_parts m.parts a && all_parts m.parts b) _ told r s

-- ---- a pair of any values: where a side is not drawn, zero
module _ (ps : Parts) (o : Outlines) (q : Pose) (p : ContactPair) {b : Bool} (e : b ≡ pair_drawn ps p) where
  pub pair-drawn-is : {d : Float} → b ≡ true → d ≡ pair_overlap ps o q p → d ≡ pair_overlap_at ps o q p
  unfolding pair_overlap_at
  pair-drawn-is t h = h ∙ sym (cond_yes _ _ (sym e ∙ t))

  pub pair-not_drawn : b ≡ false → zero_f ≡ pair_overlap_at ps o q p
  unfolding pair_overlap_at
  pair-not_drawn t = sym (cond_no _ _ (sym e ∙ t))
