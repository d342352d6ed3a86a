-- Checks one after the other, and bodies that stand. Assumes nothing.
use mathlib.Core.Path.{◌≡◌, refl, sym, ap, subst, ◌∙◌}
use mathlib.Core.Bool.{Bool, true, false, false≢true, not, ◌||◌}
use Prim.Native.Nat.{ℕ, ◌+◌, ◌<◌, ◌≤◌}
use native.Mathlib.Omega.{arith}
use lib.Dec.{leb, ltb}
use borrow.Author.Tests.{leb-true, ltb-false}
use Rattle.laws.proofs.Choice.{neither, both, not_no}
use Rattle.laws.proofs.Finite.{first-none}
use Rattle.bodies.specs.Description.{body_at}
use Rattle.bodies.specs.Check.{Checked, and_then, refused_if, coord_below, misplaced, bodies_checked, bodies_lack, bodies_stand}
use Rattle.bodies.specs.Pose.{Rooted}
use Rattle.bodies.specs.declared.Bodies.{Bodies}
use Rattle.bodies.specs.declared.Problem.{Problem}
use Rattle.bodies.specs.declared.Problem.TheVariants.{LimitPassed, BodyNotPlaced, NoDirection}
use Rattle.std.proofs.Common.{Ok, Err, is_ok}

-- ---- one check after the other
pub stops : (c next : Checked) → is_ok c ≡ false → and_then c next ≡ c
stops (Ok tt) next e = absurd (false≢true (sym e))
stops (Err p) next e = refl

pub goes_on : (c next : Checked) → is_ok c ≡ true → and_then c next ≡ next
goes_on (Ok tt) next e = refl
goes_on (Err p) next e = absurd (false≢true e)

pub stops-if : {b : Bool} (p : Problem) (next : Checked) → b ≡ true → and_then (refused_if b p) next ≡ Err p
stops-if p next e = ap (λ (b : Bool). and_then (refused_if b p) next) e

pub goes-on_if : {b : Bool} (p : Problem) (next : Checked) → b ≡ false → and_then (refused_if b p) next ≡ next
goes-on_if p next e = ap (λ (b : Bool). and_then (refused_if b p) next) e

-- a test of two that refuses behind a check is one test in that check and one behind it
pub one_by_one : (c : Checked) (s t : Bool) (p : Problem) (next : Checked) → and_then c (and_then (refused_if (s || t) p) next) ≡ and_then (and_then c (refused_if s p)) (and_then (refused_if t p) next)
one_by_one (Ok tt) true t p next = refl
one_by_one (Ok tt) false t p next = refl
one_by_one (Err x) s t p next = refl

-- ---- what an accepted check says
pub refused-not : (p : Problem) → ◌≡◌ {A = Checked} (Err p) (Ok tt) → ⊥
refused-not p e = false≢true (ap is_ok e)

-- two checks that accept together accept each, and a test that does not refuse holds
pub passed : (c next : Checked) → and_then c next ≡ Ok tt → (c ≡ Ok tt) × (next ≡ Ok tt)
passed (Ok tt) next e = (refl, e)
passed (Err p) next e = absurd (refused-not p e)

pub passed-if : (b : Bool) (p : Problem) → refused_if (not b) p ≡ Ok tt → b ≡ true
passed-if true p e = refl
passed-if false p e = absurd (refused-not p e)

pub no_refusal : (b : Bool) (p : Problem) → refused_if b p ≡ Ok tt → b ≡ false
no_refusal true p e = absurd (refused-not p e)
no_refusal false p e = refl

-- bodies that 4 does not refuse hang below themselves, on coordinates that are there
module _ (b : Bodies) (few : b.count ≤ 15) (e : is_ok (bodies_checked b) ≡ true) where
  body_pass : (i : ℕ) → i < b.count → misplaced b.coords (body_at b i) i ≡ false
  unfolding bodies_checked
  body_pass i h = not_misplaced (misplaced b.coords (body_at b i) i) (first-none is_ok (Ok tt) _ b.count 0 e i (omega arith) (omega arith))
    where
      not_misplaced : (t : Bool) → is_ok (refused_if t (BodyNotPlaced (i + 1))) ≡ true → t ≡ false
      not_misplaced true g = absurd (false≢true g)
      not_misplaced false g = refl

  pub bodies-rooted : Rooted b b.coords
  bodies-rooted = record {
    few = few;
    below = λ i h. leb-true (body_at b i).parent i (pass i h).0;
    driven = λ i h. (pass i h).1;
  }
    where
      pass : (i : ℕ) → i < b.count → (leb (body_at b i).parent i ≡ true) × (coord_below b.coords (body_at b i).joint ≡ true)
      pass i h = both _ _ (not_no _ (body_pass i h))

-- bodies by themselves, from what is known of 3, 4 and 5
pub stand_as : (b : Bodies) {over : Bool} {placed : Checked} {lack : Bool} → (ltb 15 b.count || ltb 16 b.coords) ≡ over → bodies_checked b ≡ placed → bodies_lack b ≡ lack
    → bodies_stand b ≡ and_then (refused_if over LimitPassed) (and_then placed (refused_if lack NoDirection))
unfolding bodies_stand
stand_as b {over} {placed} e f g =
    ap (λ (t : Bool). and_then (refused_if t LimitPassed) (and_then (bodies_checked b) (refused_if (bodies_lack b) NoDirection))) e
    ∙ ap (λ (c : Checked). and_then (refused_if over LimitPassed) (and_then c (refused_if (bodies_lack b) NoDirection))) f
    ∙ ap (λ (t : Bool). and_then (refused_if over LimitPassed) (and_then placed (refused_if t NoDirection))) g

-- bodies that stand pass no limit
pub stand_few : (b : Bodies) → bodies_stand b ≡ Ok tt → (b.count ≤ 15) × (b.coords ≤ 16)
unfolding bodies_stand
stand_few b e =
    let over = ltb 15 b.count || ltb 16 b.coords in
    let a = passed (refused_if over LimitPassed) (and_then (bodies_checked b) (refused_if (bodies_lack b) NoDirection)) e in
    let n = neither (ltb 15 b.count) (ltb 16 b.coords) (no_refusal over LimitPassed a.0) in
    (ltb-false 15 b.count n.0, ltb-false 16 b.coords n.1)

pub stand_rooted : (b : Bodies) → bodies_stand b ≡ Ok tt → Rooted b b.coords
unfolding bodies_stand
stand_rooted b e =
    let a = passed (refused_if (ltb 15 b.count || ltb 16 b.coords) LimitPassed) (and_then (bodies_checked b) (refused_if (bodies_lack b) NoDirection)) e in
    bodies-rooted b (stand_few b e).0 (ap is_ok (passed (bodies_checked b) (refused_if (bodies_lack b) NoDirection) a.1).0)

pub rooted_for : (b : Bodies) (n : ℕ) → bodies_stand b ≡ Ok tt → n ≡ b.coords → Rooted b n
rooted_for b n e f = subst (Rooted b) (sym f) (stand_rooted b e)
