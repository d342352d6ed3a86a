-- The ranges of a description that is accepted: each side has one, and all of them are drawn. Assumes nothing.
use Prim.Native.Nat.{ℕ, zero, suc, ◌+◌, ◌<◌, ◌≤◌}
use native.Mathlib.Omega.{arith}
use native.Mathlib.Nat.{eq-or-lt_of_le}
use mathlib.Core.Path.{◌≡◌, refl, sym, ap, ◌∙◌}
use mathlib.Core.Logic.{⊎_elim}
use mathlib.Core.Bool.{Bool, true, false, false≢true, not, cond}
use lib.Dec.{eqb}
use Rattle.laws.proofs.Choice.{and_yes}
use Rattle.laws.specs.Loops.{fold_in}
use Rattle.mechanism.specs.Check.{Side, range_drawn, with_drawn, with_range, side_end, side_body, sides_checked, check_of, side_over, side_drawn, pair_drawn}
use Rattle.mechanism.specs.Description.{part_at, pair_at, range_at}
use Rattle.mechanism.specs.declared.Mechanism.{Mechanism}
use Rattle.bodies.specs.declared.Problem.{Problem}
use Rattle.bodies.specs.declared.Problem.TheVariants.{SideOnTwoBodies}
use Rattle.mechanism.specs.declared.Parts.{Parts}
use Rattle.mechanism.specs.declared.pair.Surface.{Surface}
use Rattle.mechanism.proofs.Checks.{accepted-pair, accepted-few, accepted-sides, parts-few}
use Rattle.std.specs.Result.{result_ok}
use Rattle.std.proofs.Common.{Option, Some, None, is_some, unwrap_or, Result, Ok, Err, is_ok}

-- a side has ranges, and all of them are drawn
pub record RangesDrawn (ps : Parts) (u : Surface) : Type 0 where
  pub some : 0 < u.count
  pub each : (k : ℕ) → k < u.count → range_drawn ps (range_at u k) ≡ true

-- two sides that pass have their bodies
both-ok : (pair : ℕ) (a b : Result ℕ Problem) → is_ok (sides_checked pair a b) ≡ true → (is_ok a ≡ true) × (is_ok b ≡ true)
both-ok pair (Err p) b e = absurd (false≢true e)
both-ok pair (Ok x) (Err p) e = absurd (false≢true e)
both-ok pair (Ok x) (Ok y) e = (refl, refl)

-- one range more that is not refused: it is drawn, and what was before it was not refused
range-right : (pair : ℕ) (s : Side) (drawn : Bool) (b : ℕ) → is_ok (with_drawn pair s drawn b) ≡ true → (is_ok s ≡ true) × (drawn ≡ true)
range-right pair (Ok s) true b e = (refl, refl)
range-right pair (Ok s) false b e = absurd (false≢true e)
range-right pair (Err p) drawn b e = absurd (false≢true e)

end-right : (pair : ℕ) (s : Side) → is_ok (side_end pair s) ≡ true → is_ok s ≡ true
end-right pair (Ok s) e = refl
end-right pair (Err p) e = e

module _ (ps : Parts) (pair : ℕ) (u : Surface) where
  abbrev step : Side → ℕ → Side
  step s i = with_range ps pair s (range_at u i)

  abbrev body_of : Side
  body_of = fold_in step (Ok None) u.count 0

  -- a walk of the ranges that is not refused: each of them is drawn
  ranges_right : (k j : ℕ) (s : Side) → is_ok (fold_in step s k j) ≡ true → (is_ok s ≡ true) × ((i : ℕ) → j ≤ i → i < j + k → range_drawn ps (range_at u i) ≡ true)
  unfolding fold_in
  ranges_right zero j s e = (e, λ i h l. absurd (omega arith))
  ranges_right (suc k) j s e =
      let r = ranges_right k (suc j) (step s j) e in
      let d = range-right pair s (range_drawn ps (range_at u j)) (part_at ps (range_at u j).part).body r.0 in
      (d.0, λ i h l. ⊎_elim (λ (q : j ≡ i). ap (λ (n : ℕ). range_drawn ps (range_at u n)) (sym q) ∙ d.1) (λ (q : j < i). r.1 i q (omega arith)) (eq-or-lt_of_le h))

  -- a side without ranges has no body
  some-range : (k : ℕ) → is_ok (side_end pair (fold_in step (Ok None) k 0)) ≡ true → 0 < k
  unfolding fold_in
  some-range zero e = absurd (false≢true e)
  some-range (suc k) e = omega arith

  ranges_drawn : is_ok (side_body ps pair u) ≡ true → RangesDrawn ps u
  unfolding side_body
  ranges_drawn e = record {
    some = some-range u.count e;
    each = λ k h. (ranges_right u.count 0 (Ok None) (end-right pair body_of e)).1 k (omega arith) (omega arith);
  }

module _ (m : Mechanism) (e : check_of m ≡ Ok tt) (i : ℕ) (h : i < m.pairs.count) where
  both_sides : (is_ok (side_body m.parts i (pair_at m.pairs i).a) ≡ true) × (is_ok (side_body m.parts i (pair_at m.pairs i).b) ≡ true)
  both_sides = both-ok i (side_body m.parts i (pair_at m.pairs i).a) (side_body m.parts i (pair_at m.pairs i).b) (accepted-pair m e i h)

  pub accepted-ranges_a : RangesDrawn m.parts (pair_at m.pairs i).a
  accepted-ranges_a = ranges_drawn m.parts i (pair_at m.pairs i).a both_sides.0

  pub accepted-ranges_b : RangesDrawn m.parts (pair_at m.pairs i).b
  accepted-ranges_b = ranges_drawn m.parts i (pair_at m.pairs i).b both_sides.1

pub side-ranges : (ps : Parts) (u : Surface) → is_ok (side_body ps 0 u) ≡ true → RangesDrawn ps u
side-ranges ps u = ranges_drawn ps 0 u

-- ---- whether a side has a body does not hang on the pair's number
-- the body so far and of one range more, without the refusals
abbrev joined : Option ℕ → ℕ → Option (Option ℕ)
joined None b = Some (Some b)
joined (Some a) b = cond (eqb a b) (Some (Some a)) None

abbrev next : Option (Option ℕ) → Bool → ℕ → Option (Option ℕ)
next None drawn b = None
next (Some s) drawn b = cond drawn (joined s b) None

kept : (pair : ℕ) (s : Side) (drawn : Bool) (b : ℕ) → result_ok (with_drawn pair s drawn b) ≡ next (result_ok s) drawn b
kept pair (Err p) drawn b = refl
kept pair (Ok s) false b = refl
kept pair (Ok None) true b = refl
kept pair (Ok (Some a)) true b = go (eqb a b)
  where
    go : (same : Bool) → result_ok (cond same (Ok (Some a)) (Err (SideOnTwoBodies pair))) ≡ cond same (Some (Some a)) None
    go true = refl
    go false = refl

module _ (ps : Parts) (u : Surface) where
  abbrev onward : Option (Option ℕ) → ℕ → Option (Option ℕ)
  onward o i = next o (range_drawn ps (range_at u i)) (part_at ps (range_at u i).part).body

  kept-fold : (pair k j : ℕ) (s : Side) → result_ok (fold_in (step ps pair u) s k j) ≡ fold_in onward (result_ok s) k j
  unfolding fold_in
  kept-fold pair zero j s = refl
  kept-fold pair (suc k) j s =
      kept-fold pair k (suc j) (step ps pair u s j)
      ∙ ap (λ o. fold_in onward o k (suc j)) (kept pair s (range_drawn ps (range_at u j)) (part_at ps (range_at u j).part).body)

kept-end : (pair : ℕ) (s : Side) → is_ok (side_end pair s) ≡ is_some (unwrap_or (result_ok s) None)
kept-end pair (Ok None) = refl
kept-end pair (Ok (Some b)) = refl
kept-end pair (Err p) = refl

any_pair : (ps : Parts) (u : Surface) (i j : ℕ) → is_ok (side_body ps i u) ≡ is_ok (side_body ps j u)
unfolding side_body
any_pair ps u i j =
    kept-end i (body_of ps i u)
    ∙ ap (λ o. is_some (unwrap_or o None)) (kept-fold ps u i u.count 0 (Ok None) ∙ sym (kept-fold ps u j u.count 0 (Ok None)))
    ∙ sym (kept-end j (body_of ps j u))

module _ (m : Mechanism) (e : check_of m ≡ Ok tt) (i : ℕ) (h : i < m.pairs.count) where
  side-is-drawn : (u : Surface) → is_ok (side_body m.parts i u) ≡ true → side_over u ≡ false → side_drawn m.parts u ≡ true
  unfolding side_drawn
  side-is-drawn u b l = and_yes _ (and_yes _ (ap not (parts-few m.parts (accepted-few m e).parts)) ∙ ap not l) ∙ any_pair m.parts u 0 i ∙ b

  -- both sides of each pair pass
  pub accepted-pair-drawn : pair_drawn m.parts (pair_at m.pairs i) ≡ true
  accepted-pair-drawn =
      and_yes _ (side-is-drawn (pair_at m.pairs i).a (both_sides m e i h).0 (accepted-sides m e i h).0)
      ∙ side-is-drawn (pair_at m.pairs i).b (both_sides m e i h).1 (accepted-sides m e i h).1
