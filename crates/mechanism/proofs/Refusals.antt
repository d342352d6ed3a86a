-- Refusal 3 of a description is answered only where a limit is passed: none of its other checks answers 3. Assumes nothing.
use Prim.Native.Nat.{ℕ, zero, suc, ◌+◌}
use native.Mathlib.Omega.{arith}
use mathlib.Core.Path.{◌≡◌}
use mathlib.Core.Bool.{Bool, true, false, cond}
use lib.Dec.{ltb, eqb}
use Rattle.laws.specs.Loops.{fold_in, first_in}
use Rattle.bodies.specs.Check.{Checked, number_of, and_then, refused_if, first_refused, misplaced, bodies_checked}
use Rattle.bodies.specs.Description.{body_at}
use Rattle.bodies.specs.declared.Bodies.{Bodies}
use Rattle.bodies.specs.declared.Problem.{Problem}
use Rattle.bodies.specs.declared.Problem.TheVariants.{BodyNotPlaced, NoDirection, PartOnNoSuchBody, OutlineNotClosed, SideOnTwoBodies, PairOnOneBody}
use Rattle.mechanism.specs.Check.{limit_passed, direction_missing, outline_open, part_checked, parts_checked, range_drawn, Side}
use Rattle.mechanism.specs.Check.{with_drawn, with_range, side_end, side_body, sides_checked, pairs_checked, check_of}
use Rattle.mechanism.specs.Description.{part_at, pair_at, range_at, start_of_part}
use Rattle.mechanism.specs.declared.Parts.{Parts}
use Rattle.mechanism.specs.declared.Outlines.{Outlines}
use Rattle.mechanism.specs.declared.Pairs.{Pairs}
use Rattle.mechanism.specs.declared.Mechanism.{Mechanism}
use Rattle.mechanism.specs.declared.part.Part.{Part}
use Rattle.mechanism.specs.declared.pair.Surface.{Surface}
use Rattle.std.proofs.Common.{Some, None, Result, Ok, Err, is_ok}

-- ---- checks that do not answer 3
-- a check accepts, or refuses by another number
abbrev pub NotThree : Checked → Type 0
NotThree (Ok tt) = Unit {0}
NotThree (Err p) = number_of p ≡ 3 → ⊥

pub then-not : (c next : Checked) → NotThree c → NotThree next → NotThree (and_then c next)
then-not (Ok tt) next g h = h
then-not (Err p) next g h = g

pub if_not : (b : Bool) (p : Problem) → (number_of p ≡ 3 → ⊥) → NotThree (refused_if b p)
if_not true p h = h
if_not false p h = tt

-- the first that refuses
first-not : (f : ℕ → Checked) → ((i : ℕ) → NotThree (f i)) → (k j : ℕ) → NotThree (first_refused f k j)
unfolding first_in
first-not f h zero j = tt
first-not f h (suc k) j = go (is_ok (f j)) (first-not f h k (suc j))
  where
    go : (b : Bool) → NotThree (first_refused f k (suc j)) → NotThree (cond b (first_refused f k (suc j)) (f j))
    go true r = r
    go false r = h j

-- ---- the body of a side, or a refusal
abbrev BodyNot : {A : Type 0} → Result A Problem → Type 0
BodyNot (Ok a) = Unit {0}
BodyNot (Err p) = number_of p ≡ 3 → ⊥

-- one range more
range-not : (pair : ℕ) (s : Side) (drawn : Bool) (b : ℕ) → BodyNot s → BodyNot (with_drawn pair s drawn b)
range-not pair (Ok s) false b h = λ e. omega arith
range-not pair (Ok None) true b h = tt
range-not pair (Ok (Some a)) true b h = go (eqb a b)
  where
    go : (same : Bool) → BodyNot (cond same (Ok (Some a)) (Err (SideOnTwoBodies pair)))
    go true = tt
    go false = λ e. omega arith
range-not pair (Err p) drawn b h = h

fold_not : (step : Side → ℕ → Side) → ((s : Side) (i : ℕ) → BodyNot s → BodyNot (step s i)) → (k j : ℕ) (s : Side) → BodyNot s → BodyNot (fold_in step s k j)
unfolding fold_in
fold_not step g zero j s h = h
fold_not step g (suc k) j s h = fold_not step g k (suc j) (step s j) (g s j h)

end-not : (pair : ℕ) (s : Side) → BodyNot s → BodyNot (side_end pair s)
end-not pair (Ok None) h = λ e. omega arith
end-not pair (Ok (Some b)) h = tt
end-not pair (Err p) h = h

side-not : (ps : Parts) (pair : ℕ) (u : Surface) → BodyNot (side_body ps pair u)
unfolding side_body
side-not ps pair u = end-not pair (fold_in step (Ok None) u.count 0) (fold_not step one u.count 0 (Ok None) tt)
  where
    step : Side → ℕ → Side
    step s i = with_range ps pair s (range_at u i)

    one : (s : Side) (i : ℕ) → BodyNot s → BodyNot (step s i)
    one s i h = range-not pair s (range_drawn ps (range_at u i)) (part_at ps (range_at u i).part).body h

sides-not : (pair : ℕ) (a b : Result ℕ Problem) → BodyNot a → BodyNot b → NotThree (sides_checked pair a b)
sides-not pair (Err p) b g h = g
sides-not pair (Ok x) (Err p) g h = h
sides-not pair (Ok x) (Ok y) g h = if_not (eqb x y) (PairOnOneBody pair) (λ e. omega arith)

-- ---- a description
bodies-not : (b : Bodies) → NotThree (bodies_checked b)
unfolding bodies_checked
bodies-not b =
    first-not (λ i. refused_if (misplaced b.coords (body_at b i) i) (BodyNotPlaced (i + 1)))
    (λ i. if_not (misplaced b.coords (body_at b i) i) (BodyNotPlaced (i + 1)) (λ e. omega arith)) b.count 0

part-not : (bodies : ℕ) (o : Outlines) (p : Part) (at i : ℕ) → NotThree (part_checked bodies o p at i)
part-not bodies o p at i =
    let a = ltb bodies p.body in
    let b = outline_open o at p.segs in
    then-not (refused_if a (PartOnNoSuchBody i)) (refused_if b (OutlineNotClosed i)) (if_not a (PartOnNoSuchBody i) (λ e. omega arith)) (if_not b (OutlineNotClosed i) (λ e. omega arith))

parts-not : (bodies : ℕ) (p : Parts) (o : Outlines) → NotThree (parts_checked bodies p o)
unfolding parts_checked
parts-not bodies p o = first-not (λ i. part_checked bodies o (part_at p i) (start_of_part p i) i) (λ i. part-not bodies o (part_at p i) (start_of_part p i) i) p.count 0

pairs-not : (ps : Parts) (p : Pairs) → NotThree (pairs_checked ps p)
unfolding pairs_checked
pairs-not ps p =
    first-not (λ i. sides_checked i (side_body ps i (pair_at p i).a) (side_body ps i (pair_at p i).b))
    (λ i. sides-not i (side_body ps i (pair_at p i).a) (side_body ps i (pair_at p i).b) (side-not ps i (pair_at p i).a) (side-not ps i (pair_at p i).b)) p.count 0

-- the whole, where no limit is passed
pub check_not : (m : Mechanism) → limit_passed m ≡ false → NotThree (check_of m)
unfolding check_of
check_not m e =
    let bodies = bodies_checked m.bodies in
    let directions = refused_if (direction_missing m) NoDirection in
    let parts = parts_checked m.bodies.count m.parts m.outlines in
    let pairs = pairs_checked m.parts m.pairs in
    rw e
    (then-not bodies (and_then directions (and_then parts pairs)) (bodies-not m.bodies)
    (then-not directions (and_then parts pairs) (if_not (direction_missing m) NoDirection (λ e. omega arith))
    (then-not parts pairs (parts-not m.bodies.count m.parts m.outlines) (pairs-not m.parts m.pairs))))
