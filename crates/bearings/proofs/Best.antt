-- The best face so far in a walk over a side's faces, and what the ends in a lent array say of it. Assumes nothing.
use Prim.Native.Nat.{ℕ, ◌+◌, ◌<◌, ◌≤◌}
use native.Mathlib.Omega.{arith}
use mathlib.Core.Path.{◌≡◌, refl, sym, ap, ◌∙◌}
use mathlib.Core.Bool.{Bool, true, false, ◌||◌, cond}
use mathlib.Core.List.{List, [], ◌∷◌, map}
use lib.Ieee.{Float}
use lib.ListN.{length, take, drop, get_or, length-map}
use lib.Seq.{sets}
use Rattle.laws.specs.Lists.{foldl, any}
use Rattle.laws.proofs.Choice.{cond_yes, cond_no}
use Rattle.laws.proofs.Lists.{foldl-same}
use Rattle.laws.proofs.Writing.{sets-taken}
use Rattle.ieee.specs.TotalOrder.{total_order}
use Rattle.geometry.specs.declared.Point.{Point}
use Rattle.geometry.specs.declared.signed.Face.{Face}
use Rattle.sides.specs.Features.{no_face}
use Rattle.sides.specs.declared.PlacedFace.{PlacedFace}
use Rattle.bearings.specs.Bearing.{at_end, meets_row, meets, spot_of, later_of, best_step, best_face}
use Rattle.bearings.specs.declared.Scored.{Scored}
use Rattle.bearings.proofs.Ends.{next_of, none_of}
use Rattle.std.specs.Bool.{IsTrue}
use Rattle.std.specs.List.{list_any}
use Rattle.std.specs.Option.{MatchOption}
use Rattle.std.proofs.Common.{Option, Some, None, option_map, rules}

-- a face with its score, and the face of it
abbrev pub scored : (Face → Float) → Face → Scored
scored score f = record { face = f; score = score f }

abbrev pub faced : Option Scored → Option Face
faced = option_map (λ (b : Scored). b.face)

-- whether a face with the score x is better than the best one so far
abbrev pub is_better : Option Scored → Float → Bool
is_better None x = true
is_better (Some b) x = total_order b.score x

-- what the code finds of it, where P says of a best face what r says
pub better-is : {P : Scored → Type 0} (best : Option Scored) (x : Float) {r : Bool} → MatchOption best (IsTrue r) P
    → ((b : Scored) → P b → r ≡ total_order b.score x) → r ≡ is_better best x
better-is None x t e = search rules
better-is (Some b) x t e = e b t

-- ---- The walk: i faces are looked at, `best` is the best one so far with its score.
pub record Walked (p : Face → Bool) (score : Face → Float) (l : List PlacedFace) (best : Option Scored) (i : ℕ) : Type 0 where
  pub seen : best ≡ option_map (scored score) (faced best)
  pub rest : foldl (best_step p score) (faced best) (drop i l) ≡ best_face p score l

pub walked_start : (p : Face → Bool) (score : Face → Float) (l : List PlacedFace) → Walked p score l None 0
unfolding best_face
walked_start p score l = record { seen = refl; rest = refl }

-- the test of a face that passes is the step's
later-is : (score : Face → Float) (best : Option Scored) (f : Face) → best ≡ option_map (scored score) (faced best)
    → later_of score (faced best) f ≡ cond (is_better best (score f)) (Some f) (faced best)
later-is score None f e = refl
later-is score (Some b) f e = ap (λ (s : Float). cond (total_order s (score f)) (Some f) (Some b.face)) (sym (some e))
  where
    some : Some b ≡ Some (scored score b.face) → b.score ≡ score b.face
    some e = ap (λ (k : Option Scored). of k) e
      where
        of : Option Scored → Float
        of None = b.score
        of (Some k) = k.score

module _ {p : Face → Bool} {score : Face → Float} {l : List PlacedFace} {best : Option Scored} {i : ℕ} (w : Walked p score l best i) {n : ℕ} (all : n ≡ length l) where
  module _ {x : PlacedFace} (h : i < n) (r : x ≡ get_or l i no_face) where
    -- a turn that takes the best face so far to b
    goes : {b : Option Face} → best_step p score (faced best) x ≡ b → foldl (best_step p score) b (drop (i + 1) l) ≡ best_face p score l
    unfolding foldl
    goes e =
        ap (λ (b : Option Face). foldl (best_step p score) b (drop (i + 1) l)) (sym e)
        ∙ ap (foldl (best_step p score) (faced best)) (sym (next_of l i all no_face h r))
        ∙ w.rest

    -- the face is taken, s is its score
    pub walked_takes : {s : Float} → p x.face ≡ true → s ≡ score x.face → is_better best s ≡ true → Walked p score l (Some (record { face = x.face; score = s })) (i + 1)
    walked_takes {s} y e f = record {
      seen = ap (λ (v : Float). Some (record { face = x.face; score = v })) e;
      rest = goes (cond_yes _ _ y ∙ later-is score best x.face w.seen ∙ cond_yes _ _ (ap (is_better best) (sym e) ∙ f));
    }

    -- the one before it stays
    pub walked_stays : {s : Float} → p x.face ≡ true → s ≡ score x.face → is_better best s ≡ false → Walked p score l best (i + 1)
    walked_stays {s} y e f = record {
      seen = w.seen;
      rest = goes (cond_yes _ _ y ∙ later-is score best x.face w.seen ∙ cond_no _ _ (ap (is_better best) (sym e) ∙ f));
    }

    -- it does not pass
    pub walked_skips : p x.face ≡ false → Walked p score l best (i + 1)
    walked_skips y = record { seen = w.seen; rest = goes (cond_no _ _ y) }

  pub walked-done : n ≤ i → faced best ≡ best_face p score l
  unfolding foldl
  walked-done h = sym (ap (foldl (best_step p score) (faced best)) (none_of l i all h)) ∙ w.rest

-- ---- tests that agree choose the same face
best_same : (p q : Face → Bool) (score : Face → Float) → ((f : Face) → p f ≡ q f) → (l : List PlacedFace) → best_face p score l ≡ best_face q score l
unfolding best_face
best_same p q score e l = foldl-same (best_step p score) (best_step q score) (λ b f. ap (λ (t : Bool). cond t (later_of score b f.face) b) (e f.face)) None l

-- the ends of a list in an array, two numbers each
meets-spots : (f : Face) (ps : List Point) → list_any (meets_row f) (map spot_of ps) ≡ any (at_end f) ps
unfolding any
meets-spots f [] = refl
meets-spots f (p ∷ ps) = ap (λ (b : Bool). at_end f p || b) (meets-spots f ps)

-- the n ends ps were written to the front of an array, and are taken
pub best_written : (ps : List Point) (out₀ : List (List Float)) {out taken : List (List Float)} {n : ℕ} (score : Face → Float) (l : List PlacedFace) → n ≡ length ps
    → length ps ≤ length out₀ → out ≡ sets out₀ 0 (map spot_of ps) → taken ≡ take n out
    → best_face (λ f. list_any (meets_row f) taken) score l ≡ best_face (meets ps) score l
best_written ps out₀ {out} {taken} {n} score l e h o t =
    best_same (λ f. list_any (meets_row f) taken) (meets ps) score (λ f. ap (list_any (meets_row f)) (t ∙ are) ∙ meets-spots f ps) l
  where
    are : take n out ≡ map spot_of ps
    are =
        let k = length-map ps spot_of in
        ap (take n) o ∙ sets-taken (map spot_of ps) out₀ n (k ∙ sym e) (omega (arith, k, h))
