-- Checks one after the other, and what a description that passes them is known to be.
-- Worked is named so that the worked descriptions are computed before: a wrong definition then fails at a plain example. Assumes nothing.
use mathlib.Core.Path.{◌≡◌, refl, sym, ap, ◌∙◌}
use mathlib.Core.Bool.{Bool, true, false, not, ◌&&◌, ◌||◌}
use Prim.Native.Nat.{ℕ, ◌+◌, ◌<◌, ◌≤◌}
use native.Mathlib.Omega.{arith}
use lib.Dec.{ltb, eqb}
use borrow.Author.Tests.{ltb-false, le-ltb}
use Rattle.laws.proofs.Choice.{or_no, neither, both, not_yes}
use Rattle.laws.proofs.Finite.{any_none, any-all, first-none}
use Rattle.laws.proofs.Sums.{sum_more, sum_mono}
use Rattle.bodies.proofs.Checks.{stops, goes_on, stops-if, goes-on_if, one_by_one, no_refusal, passed, passed-if, stand_as}
use Rattle.mechanism.specs.Pose.{pose_checked}
use Rattle.bodies.specs.Pose.{bodies_posed}
use mathlib.Core.List.{List}
use lib.Ieee.{Float}
use lib.ListN.{length}
use Rattle.mechanism.specs.Description.{pair_at, segs_of, start_of_part, side_length}
use Rattle.bodies.specs.Check.{Checked, and_then, refused_if, bodies_checked, bodies_lack, bodies_stand}
use Rattle.mechanism.specs.Check.{side_over, pair_over, parts_over, pairs_over, limits_passed, limit_passed, parts_lack, outlines_lack, direction_missing}
use Rattle.mechanism.specs.Check.{parts_checked, side_body, sides_checked, pairs_checked, check_of, call_checked, FewParts, FewPairs, Few}
use Rattle.mechanism.specs.declared.Parts.{Parts}
use Rattle.mechanism.specs.declared.Pairs.{Pairs}
use Rattle.mechanism.specs.declared.Mechanism.{Mechanism}
use Rattle.mechanism.specs.declared.pair.Surface.{Surface}
use Rattle.bodies.specs.declared.Bodies.{Bodies}
use Rattle.bodies.specs.declared.Problem.TheVariants.{LimitPassed, NoDirection, PoseNotMatching, NoSuchThing, TooFewRows}
use Rattle.std.proofs.Common.{Ok, Err, is_ok}

-- ---- no limit is passed
pub few-parts : (p : Parts) → parts_over p ≡ false → FewParts p
unfolding parts_over
few-parts p e =
    let a = neither (ltb 32 p.count) _ e in
    let b = neither _ (ltb 384 (start_of_part p p.count)) a.1 in
    let total : start_of_part p p.count ≤ 384 = ltb-false 384 (start_of_part p p.count) b.1 in
    record {
      count = ltb-false 32 p.count a.0;
      each = λ i h. ltb-false 48 (segs_of p i) (any_none (λ k. ltb 48 (segs_of p k)) p.count 0 i b.0 (omega arith) (omega arith));
      all = λ i h. within i h total;
      total = total;
    }
  where
    within : (i : ℕ) → i < p.count → start_of_part p p.count ≤ 384 → start_of_part p i + segs_of p i ≤ 384
    within i h t = let m = sum_more (segs_of p) i in let l = sum_mono (segs_of p) (i + 1) p.count (omega arith) in omega arith

-- and back
pub parts-few : (p : Parts) → FewParts p → parts_over p ≡ false
unfolding parts_over
parts-few p f =
    or_no _ (le-ltb 32 p.count f.count)
    ∙ or_no _ (any-all (λ k. ltb 48 (segs_of p k)) p.count 0 (λ i h l. le-ltb 48 (segs_of p i) (f.each i (omega arith))))
    ∙ le-ltb 384 (start_of_part p p.count) f.total

few-pairs : (p : Pairs) → pairs_over p ≡ false → FewPairs p
unfolding pairs_over
few-pairs p e =
    let a = neither (ltb 16 p.count) _ e in
    record {
      count = ltb-false 16 p.count a.0;
      a = λ i h. ltb-false 4 (pair_at p i).a.count (neither _ (ltb 12 (side_length (pair_at p i).a)) (neither _ (side_over (pair_at p i).b) (each a.1 i h)).0).0;
      b = λ i h. ltb-false 4 (pair_at p i).b.count (neither _ (ltb 12 (side_length (pair_at p i).b)) (neither (side_over (pair_at p i).a) _ (each a.1 i h)).1).0;
    }
  where
    each : Rattle.laws.specs.Loops.any_in (λ k. pair_over (pair_at p k)) p.count 0 ≡ false → (i : ℕ) → i < p.count → pair_over (pair_at p i) ≡ false
    each g i h = any_none (λ k. pair_over (pair_at p k)) p.count 0 i g (omega arith) (omega arith)

sides-few : (p : Pairs) → pairs_over p ≡ false → (i : ℕ) → i < p.count → (side_over (pair_at p i).a ≡ false) × (side_over (pair_at p i).b ≡ false)
unfolding pairs_over
sides-few p e i h = neither _ _ (any_none (λ k. pair_over (pair_at p k)) p.count 0 i (neither (ltb 16 p.count) _ e).1 (omega arith) (omega arith))

pub few : (m : Mechanism) → limit_passed m ≡ false → Few m
unfolding limit_passed
few m e =
    let a = neither (ltb 15 m.bodies.count || ltb 16 m.bodies.coords) _ e in
    let b = neither (ltb 15 m.bodies.count) (ltb 16 m.bodies.coords) a.0 in
    let c = neither (parts_over m.parts) (pairs_over m.pairs) a.1 in
    record {
      bodies = ltb-false 15 m.bodies.count b.0;
      coords = ltb-false 16 m.bodies.coords b.1;
      parts = few-parts m.parts c.0;
      pairs = few-pairs m.pairs c.1;
    }

-- the parts and the pairs beside bodies
module _ (b : Bodies) (p : Parts) (q : Pairs) (e : limits_passed b p q ≡ false) where
  over-neither : (parts_over p ≡ false) × (pairs_over q ≡ false)
  over-neither = neither (parts_over p) (pairs_over q) (neither (ltb 15 b.count || ltb 16 b.coords) _ e).1

  pub parts_within : FewParts p
  parts_within = few-parts p over-neither.0

  pub pairs_within : FewPairs q
  pairs_within = few-pairs q over-neither.1

-- the parts and a side that pass no limit
pub within-limits : (ps : Parts) (u : Surface) → (not (parts_over ps) && not (side_over u)) ≡ true → FewParts ps × (u.count ≤ 4)
within-limits ps u e =
    let b = both (not (parts_over ps)) (not (side_over u)) e in
    (few-parts ps (not_yes (parts_over ps) b.0), ltb-false 4 u.count (neither _ (ltb 12 (side_length u)) (not_yes (side_over u) b.1)).0)

pub parts_counted : (p : Parts) → parts_over p ≡ false → FewParts p × (start_of_part p p.count ≤ 384)
parts_counted p e = let f = few-parts p e in (f, f.total)

pub side_counted : (ps : Parts) (u : Surface) → parts_over ps ≡ false → side_over u ≡ false → FewParts ps × (u.count ≤ 4)
side_counted ps u e f = (few-parts ps e, ltb-false 4 u.count (neither _ (ltb 12 (side_length u)) f).0)

-- ---- where the check of a description ends
module _ (m : Mechanism) where
  -- 5 of the parts and their outlines
  abbrev pub drawn_lack : Bool
  drawn_lack = parts_lack m.parts || outlines_lack m.outlines (start_of_part m.parts m.parts.count)

  abbrev from_parts : Checked
  from_parts = and_then (parts_checked m.bodies.count m.parts m.outlines) (pairs_checked m.parts m.pairs)

  abbrev from_directions : Checked
  from_directions = and_then (refused_if drawn_lack NoDirection) from_parts

  pub at-limits : limit_passed m ≡ true → check_of m ≡ Err LimitPassed
  unfolding check_of
  at-limits e = stops-if LimitPassed (and_then (bodies_checked m.bodies) (and_then (refused_if (direction_missing m) NoDirection) from_parts)) e

  -- the bodies by themselves come first, and 5 of them is asked with 4
  past-limits : limit_passed m ≡ false → check_of m ≡ and_then (bodies_stand m.bodies) from_directions
  unfolding check_of limit_passed
  past-limits e =
      goes-on_if LimitPassed (and_then (bodies_checked m.bodies) (and_then (refused_if (direction_missing m) NoDirection) from_parts)) e
      ∙ one_by_one (bodies_checked m.bodies) (bodies_lack m.bodies) drawn_lack NoDirection from_parts
      ∙ ap (λ (c : Checked). and_then c from_directions) (sym (stand_as m.bodies (neither (ltb 15 m.bodies.count || ltb 16 m.bodies.coords) (parts_over m.parts || pairs_over m.pairs) e).0 refl refl))

  pub check_is : check_of m ≡ and_then (refused_if (limit_passed m) LimitPassed) (and_then (bodies_stand m.bodies) from_directions)
  check_is = go (limit_passed m) refl
    where
      go : (t : Bool) → limit_passed m ≡ t → check_of m ≡ and_then (refused_if (limit_passed m) LimitPassed) (and_then (bodies_stand m.bodies) from_directions)
      go true e = at-limits e ∙ sym (stops-if LimitPassed (and_then (bodies_stand m.bodies) from_directions) e)
      go false e = past-limits e ∙ sym (goes-on_if LimitPassed (and_then (bodies_stand m.bodies) from_directions) e)

-- ---- where the list of a call on a description ends
module _ (m : Mechanism) (fits known room : Bool) where
  pub at-description : is_ok (check_of m) ≡ false → call_checked m fits known room ≡ check_of m
  at-description e = stops (check_of m) _ e

  pub at-pose : is_ok (check_of m) ≡ true → not fits ≡ true → call_checked m fits known room ≡ Err PoseNotMatching
  at-pose e f = goes_on (check_of m) _ e ∙ stops-if PoseNotMatching _ f

  pub at_names : is_ok (check_of m) ≡ true → not fits ≡ false → not known ≡ true → call_checked m fits known room ≡ Err NoSuchThing
  at_names e f g = goes_on (check_of m) _ e ∙ goes-on_if PoseNotMatching _ f ∙ stops-if NoSuchThing _ g

-- ---- what an accepted description is known to be
-- a call that is not refused: its description is accepted, and all that it asks for is there
pub call_accepted : (m : Mechanism) (fits known room : Bool) → call_checked m fits known room ≡ Ok tt → (check_of m ≡ Ok tt) × (fits ≡ true) × (known ≡ true) × (room ≡ true)
call_accepted m fits known room e =
    let a = passed (check_of m) _ e in
    let b = passed (refused_if (not fits) PoseNotMatching) _ a.1 in
    let c = passed (refused_if (not known) NoSuchThing) (refused_if (not room) TooFewRows) b.1 in
    (a.0, passed-if fits PoseNotMatching b.0, passed-if known NoSuchThing c.0, passed-if room TooFewRows c.1)

module _ (m : Mechanism) (e : check_of m ≡ Ok tt) where
  below_limits : (refused_if (limit_passed m) LimitPassed ≡ Ok tt) × (and_then (bodies_stand m.bodies) (from_directions m) ≡ Ok tt)
  below_limits = passed (refused_if (limit_passed m) LimitPassed) (and_then (bodies_stand m.bodies) (from_directions m)) (sym (check_is m) ∙ e)

  no_limit : limit_passed m ≡ false
  no_limit = no_refusal (limit_passed m) LimitPassed below_limits.0

  pub accepted-few : Few m
  accepted-few = few m no_limit

  pub accepted_bodies : m.bodies.count ≤ 15
  accepted_bodies = accepted-few.bodies

  bodies_pass : (bodies_stand m.bodies ≡ Ok tt) × (from_directions m ≡ Ok tt)
  bodies_pass = passed (bodies_stand m.bodies) (from_directions m) below_limits.1

  pub accepted-stand : bodies_stand m.bodies ≡ Ok tt
  accepted-stand = bodies_pass.0

  -- no side passes a limit
  pub accepted-sides : (i : ℕ) → i < m.pairs.count → (side_over (pair_at m.pairs i).a ≡ false) × (side_over (pair_at m.pairs i).b ≡ false)
  unfolding limit_passed
  accepted-sides i h = sides-few m.pairs (neither (parts_over m.parts) _ (neither (ltb 15 m.bodies.count || ltb 16 m.bodies.coords) _ no_limit).1).1 i h

  pairs_pass : pairs_checked m.parts m.pairs ≡ Ok tt
  pairs_pass =
      let d = passed (refused_if (drawn_lack m) NoDirection) (from_parts m) bodies_pass.1 in
      (passed (parts_checked m.bodies.count m.parts m.outlines) (pairs_checked m.parts m.pairs) d.1).1

  -- the two sides of each pair pass
  pub accepted-pair : (i : ℕ) → i < m.pairs.count → is_ok (sides_checked i (side_body m.parts i (pair_at m.pairs i).a) (side_body m.parts i (pair_at m.pairs i).b)) ≡ true
  unfolding pairs_checked
  accepted-pair i h = first-none is_ok (Ok tt) _ m.pairs.count 0 (ap is_ok pairs_pass) i (omega arith) (omega arith)

-- ---- a pose of an accepted description is refused as one of its bodies by themselves
fits_last : (t : Bool) → refused_if (not t) PoseNotMatching ≡ and_then (refused_if (not t) PoseNotMatching) (and_then (refused_if (not true) NoSuchThing) (refused_if (not true) TooFewRows))
fits_last true = refl
fits_last false = refl

pub posed_bodies : (m : Mechanism) (q : List (List Float)) → check_of m ≡ Ok tt → bodies_posed m.bodies q ≡ pose_checked m q
posed_bodies m q e =
    ap (λ (c : Checked). and_then c (refused_if (not (eqb (length q) m.bodies.coords)) PoseNotMatching)) (accepted-stand m e)
    ∙ fits_last (eqb (length q) m.bodies.coords)
    ∙ ap
    (λ (c : Checked). and_then c (and_then (refused_if (not (eqb (length q) m.bodies.coords)) PoseNotMatching) (and_then (refused_if (not true) NoSuchThing) (refused_if (not true) TooFewRows))))
    (sym e)
