-- The walks over the parts, and over a side's ranges. Assumes nothing.
use Prim.Native.Nat.{ℕ, zero, suc, ◌+◌, ◌-◌, ◌<◌}
use mathlib.Core.Path.{◌≡◌, refl, sym, ap, ◌∙◌}
use mathlib.Core.Bool.{true, false}
use Rattle.laws.proofs.Choice.{cond_yes, cond_no}
use Rattle.laws.specs.Loops.{fold_in}
use Rattle.laws.proofs.Loops.{fold_on}
use Rattle.laws.proofs.Sums.{sum-none, sum_more}
use Rattle.bodies.proofs.Turns.{first_turns}
use Rattle.bodies.specs.declared.Problem.{Problem}
use Rattle.bodies.specs.declared.Problem.TheVariants.{RangeNotDrawn}
use Rattle.mechanism.specs.Description.{part_at, range_at, segs_of, start_of_part}
use Rattle.mechanism.specs.Check.{Side, range_drawn, with_body, with_range, side_end, side_body}
use Rattle.mechanism.specs.declared.Parts.{Parts}
use Rattle.mechanism.specs.declared.pair.Surface.{Surface}
use Rattle.std.proofs.Common.{Option, None, Ok, Err}

-- ---- where the parts start
pub start-first : (p : Parts) → start_of_part p 0 ≡ 0
start-first p = sum-none (segs_of p) 0

pub start-next : (p : Parts) (i : ℕ) → start_of_part p (i + 1) ≡ start_of_part p i + segs_of p i
start-next p = sum_more (segs_of p)

pub ruleset part_turns = (first_turns, start-first, start-next)

-- ---- a side's ranges, one by one
module _ (ps : Parts) (pair : ℕ) (u : Surface) where
  abbrev step : Side → ℕ → Side
  step s i = with_range ps pair s (range_at u i)

  wrong-stays : (p : Problem) (k j : ℕ) → fold_in step (Err p) k j ≡ Err p
  unfolding fold_in
  wrong-stays p zero j = refl
  wrong-stays p (suc k) j = wrong-stays p k (suc j)

  module _ (i : ℕ) (h : i < u.count) (s : Option ℕ) (e : fold_in step (Ok s) (u.count - i) i ≡ fold_in step (Ok None) u.count 0) where
    -- what range i makes of the body so far
    abbrev made : Side
    made = with_body pair s (part_at ps (range_at u i).part).body

    pub range-drawn : range_drawn ps (range_at u i) ≡ true → {t : Side} → t ≡ made → fold_in step t (u.count - (i + 1)) (i + 1) ≡ fold_in step (Ok None) u.count 0
    range-drawn d f = fold_on step u.count i h (cond_yes _ _ d ∙ sym f) ∙ e

    pub range-astray : range_drawn ps (range_at u i) ≡ true → {p : Problem} → Err p ≡ made → Err p ≡ side_body ps pair u
    unfolding side_body
    range-astray d {p} f = ap (side_end pair) (sym (wrong-stays p (u.count - (i + 1)) (i + 1)) ∙ range-drawn d f)

    pub range-missing : range_drawn ps (range_at u i) ≡ false → Err (RangeNotDrawn pair) ≡ side_body ps pair u
    unfolding side_body
    range-missing d = ap (side_end pair) (sym (wrong-stays (RangeNotDrawn pair) (u.count - (i + 1)) (i + 1)) ∙ fold_on step u.count i h (cond_no _ _ d) ∙ e)
