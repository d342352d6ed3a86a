-- What is read of one pair, and of all pairs. Assumes nothing.
use Prim.Native.Nat.{ℕ, ◌+◌, ◌-◌, ◌<◌, ◌≤◌}
use native.Mathlib.Omega.{arith}
use native.Mathlib.Nat.{sub-zero}
use mathlib.Core.Path.{◌≡◌, refl, sym, ap, subst, ◌∙◌}
use mathlib.Core.Bool.{Bool, true, false, cond}
use mathlib.Core.List.{List, ◌∷◌}
use lib.Dec.{ltb}
use lib.Ieee.{Float}
use lib.ListN.{length, set, replicate}
use borrow.Author.Tests.{ltb-false}
use Rattle.laws.specs.Fill.{filled}
use Rattle.laws.specs.Lists.{list_in}
use Rattle.laws.specs.Loops.{Writing}
use Rattle.laws.proofs.Choice.{cond_yes}
use Rattle.laws.proofs.Lists.{list_turn, list_done}
use Rattle.laws.proofs.Writing.{starts, puts, ends}
use Rattle.ieee.specs.Consts.{zero_f}
use Rattle.mechanism.specs.Check.{pair_drawn}
use Rattle.mechanism.specs.Rows.{pair_in, gap_in}
use Rattle.mechanism.specs.declared.Outlines.{Outlines}
use Rattle.mechanism.specs.declared.Parts.{Parts}
use Rattle.mechanism.specs.declared.pair.ContactPair.{ContactPair}
use Rattle.bodies.specs.declared.pose.Pose.{Pose}
use Rattle.sides.specs.Contacts.{pair_features, pair_features_at}
use Rattle.sides.specs.declared.contacts.PairFeatures.{PairFeatures}
use Rattle.overlap.specs.Overlap.{pair_overlap, pair_overlap_at}
use Rattle.faces.specs.Faces.{sides_overlap}
use Rattle.shown_rows.proofs.Bound.{features_read}
use Rattle.governing.specs.Governing.{governing_of, lesser, records_in}
use Rattle.bearings.specs.Bearing.{governed_bearing, row_at}
use Rattle.reading.specs.Reading.{no_pair_reading}
use Rattle.reading.specs.declared.PairReading.{PairReading}
use Rattle.std.proofs.Common.{Option, Ok, Err}
use Rattle.bodies.specs.Check.{Checked}
use Rattle.bodies.specs.declared.Problem.{Problem}
use Rattle.shown_rows.specs.Rows.{answer_if}
use Rattle.mechanism.specs.declared.bearing.Bearing.{Bearing}

-- ---- one pair
overlap_read : (ps : Parts) (o : Outlines) (q : Pose) (p : ContactPair) {x : Float} → pair_drawn ps p ≡ true → x ≡ pair_overlap_at ps o q p → x ≡ pair_overlap ps o q p
unfolding pair_overlap_at
overlap_read ps o q p d e = e ∙ cond_yes (pair_overlap ps o q p) zero_f d

-- of pair i by n records
module _ (ps : Parts) (o : Outlines) (q : Pose) (places : List (List ℕ)) (values : List (List Float)) where
  abbrev bearing_with : ℕ → ℕ → PairFeatures → Option Bearing
  bearing_with n i f = governed_bearing f q (row_at places values) (governing_of (pair_in places) (gap_in values) n i)

  abbrev pub reading_with : ContactPair → ℕ → ℕ → PairReading
  reading_with p n i = record {
    overlap = pair_overlap ps o q p;
    face_overlap = sides_overlap (pair_features ps o p) q;
    bearing = bearing_with n i (pair_features ps o p);
  }

  -- what the calls answer of a drawn pair
  module _ (p : ContactPair) (n i : ℕ) (d : pair_drawn ps p ≡ true) where
    pub pair_read : {f : PairFeatures} {x y : Float} {b : Option Bearing} → f ≡ pair_features_at ps o p → x ≡ pair_overlap_at ps o q p → y ≡ sides_overlap f q
        → b ≡ bearing_with (records_in n (length places) (length values)) i f
        → record { overlap = x; face_overlap = y; bearing = b } ≡ reading_with p (records_in n (length places) (length values)) i
    pair_read {f} {x} {y} {b} ef ex ey eb =
        let k = records_in n (length places) (length values) in
        let e = features_read ps o p d ef in
        ap (λ (z : Float). record { overlap = z; face_overlap = y; bearing = b }) (overlap_read ps o q p d ex)
        ∙ ap (λ (z : Float). record { overlap = pair_overlap ps o q p; face_overlap = z; bearing = b }) (ey ∙ ap (λ (g : PairFeatures). sides_overlap g q) e)
        ∙ ap (λ (z : Option Bearing). record { overlap = pair_overlap ps o q p; face_overlap = sides_overlap (pair_features ps o p) q; bearing = z })
        (eb ∙ ap (bearing_with k i) e)

-- ---- no more records than n, where both arrays hold as many
lesser-first : (a b : ℕ) → a ≤ b → lesser a b ≡ a
lesser-first a b h = go (ltb a b) refl
  where
    go : (t : Bool) → ltb a b ≡ t → cond t a b ≡ a
    go true e = refl
    go false e = let k = ltb-false a b e in omega (arith, k, h)

least_of_lem : (n a b : ℕ) → n ≤ a → n ≤ b → (t : Bool) → n ≤ cond t a b
least_of_lem n a b h k true = h
least_of_lem n a b h k false = k

pub all-records : (n a b : ℕ) → n ≤ a → n ≤ b → records_in n a b ≡ n
all-records n a b h k = lesser-first n (lesser a b) (least_of_lem n a b h k (ltb a b))

-- ---- an array that is being written with what is read of the first pairs
module _ (one : ℕ → PairReading) (pairs : ℕ) where
  abbrev pub PairsOf : List PairReading → ℕ → Type 0
  PairsOf pair i = Writing (replicate 16 no_pair_reading) 0 (list_in one pairs 0) pair i (list_in one (pairs - i) i)

  pub of-start : {x : PairReading} → x ≡ no_pair_reading → PairsOf (replicate 16 x) 0
  of-start e = subst (λ (y : PairReading). PairsOf (replicate 16 y) 0) (sym e) (starts (ap (λ (k : ℕ). list_in one k 0) (sub-zero pairs)))

  pub of-turn : (i : ℕ) {x : PairReading} {pair : List PairReading} → i < pairs → x ≡ one i → PairsOf pair i → PairsOf (set pair i x) (i + 1)
  of-turn i l e w = puts (list_turn one pairs i l ∙ ap (λ (y : PairReading). y ∷ list_in one (pairs - (i + 1)) (i + 1)) (sym e)) w

  pub of_end : (i : ℕ) {pair : List PairReading} → pairs ≤ i → PairsOf pair i → pair ≡ filled 16 no_pair_reading (list_in one pairs 0)
  of_end i h w = ends (list_done one pairs i h) w

-- ---- the answer of the rows' call, accepted or refused
pub accepted_told : (c : Checked) (n k : ℕ) → Ok n ≡ answer_if c k → (c ≡ Ok tt) × (n ≡ k)
accepted_told (Ok tt) n k e = (refl, cc)
accepted_told (Err p) n k e = absurd cc

pub refused_told : (c : Checked) (p : Problem) (k : ℕ) → Err p ≡ answer_if c k → c ≡ Err p
refused_told (Ok tt) p k e = absurd cc
refused_told (Err r) p k e = cc
