-- Demand 3 (document 01, "Words of demand 3"): what holds of the rows of every pair, of the governing row and of the bearing, for every description, pose and margin, the accepted ones
-- among them. What `rows` writes is `rows_of`, `grads_of` and `slips_of` by its contract; what `governing_in` and `bearing_in` answer is `governing_of` and `bearing_from` by theirs.
use Rattle.std.specs.Prelude.{ℕ, ◌<◌, ◌≤◌, ◌≡◌, Bool, not, cond, ◌⊎◌, T, eqb, length, get_or, Float, Some, Ok}
use mathlib.Core.List.{List, [], ◌∷◌, map, Memᴰ}
use Rattle.std.proofs.lemmas.List.Edits.{sets}
use Rattle.std.specs.Float.Ieee.{lt, eq}
use Rattle.laws.specs.Floats.{Numeric}
use Rattle.laws.specs.Lists.{flat}
use Rattle.laws.specs.Loops.{Rising}
use Rattle.ieee.specs.Consts.{zero_f}
use Rattle.geometry.specs.declared.Point.{Point}
use Rattle.mechanism.specs.Description.{pair_at}
use Rattle.mechanism.specs.Rows.{place_row, value_row}
use Rattle.mechanism.specs.declared.Mechanism.{Mechanism}
use Rattle.mechanism.specs.declared.bearing.Bearing.{Bearing}
use Rattle.mechanism.specs.declared.features.Piece.{Piece}
use Rattle.bodies.specs.declared.pose.Pose.{Pose}
use Rattle.mechanism.specs.declared.rows.Row.{Row}
use Rattle.material.specs.Material.{Material}
use Rattle.sides.specs.Contacts.{pair_bound, mechanism_bound}
use Rattle.sides.specs.declared.PlacedDisc.{PlacedDisc}
use Rattle.sides.specs.declared.PlacedFace.{PlacedFace}
use Rattle.showing.specs.Showing.{deep_f}
use Rattle.proximities.specs.Proximities.{read_ab, read_ba, read_discs, read_center}
use Rattle.proximities.specs.declared.Candidate.{Candidate}
use Rattle.candidates.specs.Candidates.{pair_candidates}
use Rattle.shown_rows.specs.Rows.{grad_of, slip_of, features_of_pair, rows_of_pair, rows_of, grads_of, slips_of}
use Rattle.pair_rows.specs.PairRows.{candidate_at, gap_at, decides, alike, shown_of, row_of}
use Rattle.governing.specs.Governing.{governing_of, Governing}
use Rattle.bearings.specs.Bearing.{bearing_from, row_at}
use Rattle.reading.specs.Reading.{no_pair_reading, reading_of}
use Rattle.reading.specs.declared.Reading.{Reading}

-- a list of rows without those that do not pass
unfoldable pub only : (Row → Bool) → List Row → List Row
only p [] = []
only p (r ∷ rs) = cond (p r) (r ∷ only p rs) (only p rs)

-- one number is smaller than another, or equal to it; no NaN is
abbrev pub AtMost : Float → Float → Type 0
AtMost x y = T (lt x y) ⊎ T (eq x y)

-- a gap is not above a margin; no gap is above a NaN margin
abbrev pub NotAbove : Float → Float → Type 0
NotAbove x g = T (lt g x) → ⊥

-- ---- one pair, number i, of a description at a pose
module _ (m : Mechanism) (q : Pose) (i : ℕ) where
  abbrev pub candidates_of : List Candidate
  candidates_of = pair_candidates m.parts m.outlines q (pair_at m.pairs i)

  abbrev pub gap_of : ℕ → Float
  gap_of k = gap_at candidates_of k

  -- two candidates have the same deciding piece
  abbrev pub OnePiece : ℕ → ℕ → Type 0
  OnePiece k l = T (alike (candidate_at candidates_of k) (candidate_at candidates_of l))

  -- a candidate is shown at the margin g
  abbrev pub Shown : Float → ℕ → Type 0
  Shown g k = Memᴰ k (shown_of candidates_of g)

  -- at the margin g a shown row of k's deciding piece stands in its place: its gap is negative and not smaller, and it is the first of the largest negative gap of that piece's candidates
  pub record InPlace (g : Float) (k : ℕ) : Type 0 where
    pub row : ℕ
    pub is_shown : Shown g row
    pub of_piece : OnePiece row k
    pub negative : T (lt (gap_of row) zero_f)
    pub as_large : T (lt (gap_of row) (gap_of k)) → ⊥
    pub largest : (l : ℕ) → l < length candidates_of → OnePiece l row → T (lt (gap_of l) zero_f) → T (lt (gap_of row) (gap_of l)) → ⊥
    pub first : (l : ℕ) → l < row → OnePiece l row → T (eq (gap_of row) (gap_of l)) → ⊥

  pub record OfPair : Type 0 where
    -- no more rows than the bound from the faces and discs of the sides
    pub bound : (g : Float) → length (rows_of_pair m q g i) ≤ pair_bound m i
    -- the rows are candidates, none twice, in their order
    pub rows_are : (g : Float) → rows_of_pair m q g i ≡ map (λ k. row_of i (candidate_at candidates_of k)) (shown_of candidates_of g)
    pub candidate : (g : Float) (k : ℕ) → Shown g k → k < length candidates_of
    pub in_order : (g : Float) → Rising 0 (shown_of candidates_of g)
    -- of one deciding piece's candidates at most one is shown with a gap below -0.001, and it has their largest negative gap
    pub one_deep : (g : Float) (k l : ℕ) → Shown g k → Shown g l → OnePiece k l → T (lt (gap_of k) deep_f) → T (lt (gap_of l) deep_f) → k ≡ l
    pub largest_deep : (g : Float) (k l : ℕ) → Shown g k → T (lt (gap_of k) deep_f) → l < length candidates_of → OnePiece l k → T (lt (gap_of l) zero_f) → T (lt (gap_of k) (gap_of l)) → ⊥
    -- at a margin that is not below zero each candidate with a numeric gap not above it is shown, or a shown row stands in its place
    pub none_lost : (g : Float) (k : ℕ) → (T (lt g zero_f) → ⊥) → k < length candidates_of → Numeric (gap_of k) → NotAbove (gap_of k) g → Shown g k ⊎ InPlace g k
    -- at any margin one without a deciding piece, its gap numeric and not above it, is shown
    pub undecided : (g : Float) (k : ℕ) → k < length candidates_of → T (not (decides (candidate_at candidates_of k))) → Numeric (gap_of k) → NotAbove (gap_of k) g → Shown g k

-- each choice of a disc and a face, of two discs, or of a centre and a face gives at most one candidate
pub record AtMostOne : Type 0 where
  pub disc_of_a : (s : Material) (d : PlacedDisc) (f : PlacedFace) → length (read_ab s d f) ≤ 1
  pub disc_of_b : (s : Material) (d : PlacedDisc) (f : PlacedFace) → length (read_ba s d f) ≤ 1
  pub discs : (d e : PlacedDisc) → length (read_discs d e) ≤ 1
  pub center : (s : Material) (p : Piece) (c : Point) (f : PlacedFace) → length (read_center s p c f) ≤ 1

-- a row's gradient and slip, by what the row says
abbrev pub grad_of_row : Mechanism → Pose → Row → List Float
grad_of_row m q r = grad_of m.bodies q (features_of_pair m r.pair) r

abbrev pub slip_of_row : Mechanism → Pose → Row → List Float
slip_of_row m q r = slip_of m.bodies q (features_of_pair m r.pair) r

-- a bearing of pair p by n rows: the pair's governing row is there, and its gap and point are repeated
pub record Repeats (row : ℕ → Row) (n p : ℕ) (b : Bearing) : Type 0 where
  pub by : ℕ
  pub governs : governing_of (λ k. (row k).pair) (λ k. (row k).gap) n p ≡ Some by
  pub gap : b.gap ≡ (row by).gap
  pub point : b.point ≡ (row by).point

-- ---- the whole claim, over all pairs
pub record Demand3 (m : Mechanism) (q : Pose) : Type 0 where
  pub pairs : (i : ℕ) → OfPair m q i
  pub at_most_one : AtMostOne
  -- all rows: no more than the mechanism's bound; a pair's rows are those that name it
  pub bound : (g : Float) → length (rows_of m q g) ≤ mechanism_bound m
  pub named : (g : Float) (i : ℕ) → i < m.pairs.count → rows_of_pair m q g i ≡ only (λ r. eqb r.pair i) (rows_of m q g)
  -- of two margins the smaller shows exactly the larger's rows whose gap is not above it, in the same order
  pub margins : (g h : Float) → AtMost g h → rows_of m q g ≡ only (λ r. not (lt g r.gap)) (rows_of m q h)
  -- gradients and slips stand row after row, so many numbers each as there are coordinates, and depend on the row alone
  pub gradients : (g : Float) → grads_of m q g ≡ flat (grad_of_row m q) (rows_of m q g)
  pub slips : (g : Float) → slips_of m q g ≡ flat (slip_of_row m q) (rows_of m q g)
  pub gradient_long : (r : Row) → length (grad_of_row m q r) ≡ m.bodies.coords
  pub slip_long : (r : Row) → length (slip_of_row m q r) ≡ m.bodies.coords
  -- what stands in the lent arrays after the call is these rows
  pub written : (g : Float) (places : List (List ℕ)) (values : List (List Float)) (j : ℕ) (none : Row) → length (rows_of m q g) ≤ length places → length (rows_of m q g) ≤ length values
      → j < length (rows_of m q g) → row_at (sets places 0 (map place_row (rows_of m q g))) (sets values 0 (map value_row (rows_of m q g))) j ≡ get_or (rows_of m q g) j none
  -- the governing row of whatever records are lent
  pub governing : (pair : ℕ → ℕ) (gap : ℕ → Float) (n p : ℕ) → Governing pair gap n p (governing_of pair gap n p)
  -- a bearing of whatever records are lent: only for a pair of the description, and only with a governing row
  pub bearing : (row : ℕ → Row) (n p : ℕ) (b : Bearing) → bearing_from m q row n p ≡ Ok (Some b) → (p < m.pairs.count) × Repeats row n p b
  -- the bearing that a whole reading r has of pair p, whatever was lent: only for a pair of the description, and it repeats the governing row of the reading's own rows. A listing's line
  -- B,p is written from this bearing: `read_of` of reading_lines/specs/Readings.antt is what the reading holds of the pair
  pub reading_bearing : (g : Float) (places values grad slip p : ℕ) (r : Reading) (b : Bearing) (none : Row)
      → reading_of m q g places values grad slip ≡ Ok r → (get_or r.pair p no_pair_reading).bearing ≡ Some b
      → (p < m.pairs.count) × Repeats (λ k. get_or (rows_of m q g) k none) (length (rows_of m q g)) p b
