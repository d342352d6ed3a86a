-- Demand 3 of one pair's rows. Assumes nothing.
use Prim.Native.Nat.{ℕ, ◌<◌}
use native.Mathlib.Omega.{arith}
use mathlib.Core.Path.{◌≡◌, refl}
use mathlib.Core.Bool.{Bool, not}
use mathlib.Core.List.{List, map, Memᴰ}
use mathlib.Core.Logic.{inl, inr, ⊎_elim}
use lib.Dec.{T, not_T}
use lib.ListN.{length}
use lib.Ieee.{Float, lt, is_nan}
use lib.Ieee.Fits.{and_i}
use Rattle.laws.specs.Floats.{Numeric}
use Rattle.mechanism.specs.Description.{pair_at}
use Rattle.mechanism.specs.declared.Mechanism.{Mechanism}
use Rattle.bodies.specs.declared.pose.Pose.{Pose}
use Rattle.showing.specs.Showing.{within, shows}
use Rattle.showing.proofs.Demand3.{Demand3, Instead, demand_3}
use Rattle.proximities.specs.declared.Candidate.{Candidate}
use Rattle.shown_rows.specs.Rows.{pair_rows, rows_of_pair}
use Rattle.pair_rows.specs.PairRows.{candidate_at, gap_at, decides, alike, shown_of, row_of}
use Rattle.shown_rows.proofs.OfPair.{rows_few}
use Rattle.demand3.specs.Demand3.{NotAbove, candidates_of, InPlace, OfPair}
use Rattle.demand3.proofs.Pieces.{pieces_agree}

-- whether two of a list's candidates have a deciding piece, and the same
abbrev decides_at : List Candidate → ℕ → Bool
decides_at cs k = decides (candidate_at cs k)

abbrev alike_at : List Candidate → ℕ → ℕ → Bool
alike_at cs k l = alike (candidate_at cs k) (candidate_at cs l)

-- what `showing` proves, of a list of candidates
abbrev claim : (cs : List Candidate) → Demand3 (gap_at cs) (decides_at cs) (alike_at cs) (length cs)
claim cs = demand_3 (gap_at cs) (decides_at cs) (alike_at cs) (pieces_agree cs) (length cs)

abbrev Shows : List Candidate → Float → ℕ → Type 0
Shows cs g k = T (shows (gap_at cs) (decides_at cs) (alike_at cs) (length cs) g k)

-- numeric and not above the margin
is_within : (g x : Float) → Numeric x → NotAbove x g → T (within g x)
is_within g x n w = and_i (not (is_nan x)) (not (lt g x)) n (not_T (lt g x) w)

-- shown is one of the list
shows-is : (cs : List Candidate) (g : Float) (k : ℕ) → Memᴰ k (shown_of cs g) → (k < length cs) × Shows cs g k
unfolding shown_of
shows-is cs g k h = (claim cs).row_is g k h

is_shown : (cs : List Candidate) (g : Float) (k : ℕ) → k < length cs → Shows cs g k → Memᴰ k (shown_of cs g)
unfolding shown_of
is_shown cs g k l h = (claim cs).is_row g k l h

rising : (cs : List Candidate) (g : Float) → Rattle.laws.specs.Loops.Rising 0 (shown_of cs g)
unfolding shown_of
rising cs g = (claim cs).in_order g

rows-shown : (m : Mechanism) (q : Pose) (i : ℕ) (g : Float) → rows_of_pair m q g i ≡ map (λ k. row_of i (candidate_at (candidates_of m q i) k)) (shown_of (candidates_of m q i) g)
unfolding pair_rows
rows-shown m q i g = refl

module _ (m : Mechanism) (q : Pose) (i : ℕ) where
  abbrev cs : List Candidate
  cs = candidates_of m q i

  in_place : (g : Float) (k : ℕ) → Instead (gap_at cs) (decides_at cs) (alike_at cs) (length cs) g k → InPlace m q i g k
  in_place g k x = record {
    row = x.row;
    is_shown = is_shown cs g x.row x.candidate x.is_shown;
    of_piece = x.of_piece;
    negative = x.negative;
    as_large = x.as_large;
    largest = x.largest;
    first = λ l b s e. x.first l (omega (arith, b, x.candidate)) s e b;
  }

  pub of_pair : OfPair m q i
  of_pair = record {
    bound = λ g. rows_few m.bodies m.parts m.outlines q (pair_at m.pairs i) i g;
    rows_are = λ g. rows-shown m q i g;
    candidate = λ g k h. (shows-is cs g k h).0;
    in_order = λ g. rising cs g;
    one_deep = λ g k l hk hl s dk dl.
        let a = shows-is cs g k hk in
        let b = shows-is cs g l hl in
        (claim cs).one_deep g k l a.0 b.0 a.1 b.1 s dk dl;
    largest_deep = λ g k l hk dk bl s nl lk. (claim cs).largest_deep g k l (shows-is cs g k hk).1 dk bl s nl lk;
    none_lost = λ g k nb b n w.
        ⊎_elim (λ h. inl (is_shown cs g k b h)) (λ x. inr (in_place g k x)) ((claim cs).shown-or_outdone g k nb b (is_within g (gap_at cs k) n w));
    undecided = λ g k b u n w. is_shown cs g k b ((claim cs).undecided_shown g k u (is_within g (gap_at cs k) n w));
  }
