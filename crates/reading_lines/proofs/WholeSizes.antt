-- How long a line is at most, and the whole listing of an accepted sheet. Assumes nothing.
use Prim.Native.Nat.{ℕ, zero, suc, ◌+◌, ◌*◌, ◌/◌, ◌≤◌}
use native.Mathlib.Omega.{arith}
use mathlib.Core.Path.{◌≡◌, refl}
use mathlib.Core.Bool.{Bool, true, false, ◌&&◌, cond}
use mathlib.Core.List.{List, [], ◌∷◌, ◌++◌}
use lib.Dec.{ltb, leb}
use lib.ListN.{length, length-append}
use lib.Ieee.{Float}
use borrow.Author.Tests.{leb-true}
use Rattle.laws.specs.Lists.{flat}
use Rattle.laws.proofs.Choice.{both}
use Rattle.laws.proofs.Lists.{flat-short, list_length}
use Rattle.geometry.specs.Geometry.{vector_of}
use Rattle.bodies.specs.Pose.{pose_fits}
use Rattle.bodies.specs.declared.Bodies.{Bodies}
use Rattle.mechanism.specs.declared.Mechanism.{Mechanism}
use Rattle.mechanism.specs.declared.bearing.HowItBears.{HowItBears}
use Rattle.mechanism.specs.declared.bearing.HowItBears.TheVariants.{Flat, StopEdge, KeyCorner}
use Rattle.mechanism.specs.declared.features.Piece.{Piece}
use Rattle.mechanism.specs.declared.features.Piece.TheVariants.{Segment, Arc, Vertex, Center}
use Rattle.bodies.specs.declared.pose.Pose.{Pose}
use Rattle.mechanism.specs.declared.rows.Row.{Row}
use Rattle.mechanism.proofs.Checks.{call_accepted, accepted-few}
use Rattle.sides.specs.Contacts.{mechanism_bound}
use Rattle.sides.specs.declared.contacts.PairFeatures.{PairFeatures}
use Rattle.pair_rows.specs.PairRows.{left_of}
use Rattle.shown_rows.specs.Rows.{grad_of, slip_of, features_of_pair, pair_numbers, rows_of_pair, rows_of, room_for, rows_checked}
use Rattle.pair_rows.proofs.Along.{along-long}
use Rattle.shown_rows.proofs.Total.{all-few}
use Rattle.reading_lines.specs.Digits.{digit_count, decimal_of}
use Rattle.reading_lines.specs.Lines.{one_byte, letter_field, number_field, float_field, two_fields, float_fields, piece_fields, how_field, slope_field, bearing_fields}
use Rattle.reading_lines.specs.Lines.{row_line, columns_line, overlap_line, bearing_line}
use Rattle.reading_lines.specs.Readings.{row_lines, read_of, pair_lines, all_lines, longest}
use Rattle.reading_lines.proofs.DigitLaws.{length-decimal}
use Rattle.reading_lines.proofs.ReadBack.{length-pattern}
use Rattle.std.proofs.Common.{Option, Some, None, Ok}
use Rattle.mechanism.specs.declared.bearing.Bearing.{Bearing}

-- ---- digits
count-few : (k v : ℕ) → digit_count k v ≤ suc k
unfolding digit_count
count-few zero v = omega arith
count-few (suc k) v = go (ltb v 10) (count-few k (v / 10))
  where
    go : (t : Bool) → digit_count k (v / 10) ≤ suc k → cond t 1 (digit_count k (v / 10) + 1) ≤ suc (suc k)
    go true h = omega arith
    go false h = omega (arith, h)

pub digits-few : (v : ℕ) → length (decimal_of v) ≤ 20
digits-few v = omega (arith, length-decimal v, count-few 19 v)

-- ---- one list after another
two-few : (xs ys : List ℕ) (a b : ℕ) → length xs ≤ a → length ys ≤ b → length (xs ++ ys) ≤ a + b
two-few xs ys a b h k = omega (arith, h, k, length-append xs ys)

-- ---- fields
number-few : (v : ℕ) → length (number_field v) ≤ 21
unfolding number_field one_byte
number-few v = omega (arith, digits-few v)

letter_long : (b : ℕ) → length (letter_field b) ≡ 2
unfolding letter_field one_byte
letter_long b = refl

float_long : (x : Float) → length (float_field x) ≡ 17
unfolding float_field one_byte
float_long x = omega (arith, length-pattern x)

floats_long : (xs : List Float) → length (float_fields xs) ≡ 17 * length xs
unfolding float_fields
floats_long [] = refl
floats_long (x ∷ xs) = omega (arith, length-append (float_field x) (float_fields xs), float_long x, floats_long xs)

two-long : (x y : Float) → length (two_fields x y) ≡ 34
unfolding two_fields
two-long x y = omega (arith, length-append (float_field x) (float_field y), float_long x, float_long y)

place_few : (letter part seg : ℕ) → length (letter_field letter ++ (number_field part ++ number_field seg)) ≤ 44
place_few letter part seg =
    two-few (letter_field letter) _ 2 42 (omega (arith, letter_long letter))
    (two-few (number_field part) (number_field seg) 21 21 (number-few part) (number-few seg))

centre-few : (letter part other : ℕ) → length (letter_field letter ++ (number_field part ++ letter_field other)) ≤ 44
centre-few letter part other =
    two-few (letter_field letter) _ 2 42 (omega (arith, letter_long letter))
    (two-few (number_field part) (letter_field other) 21 21 (number-few part) (omega (arith, letter_long other)))

piece-few : (p : Piece) → length (piece_fields p) ≤ 44
piece-few (Segment p s) = place_few _ p s
piece-few (Arc p s) = place_few _ p s
piece-few (Vertex p s) = place_few _ p s
piece-few (Center p) = centre-few _ p _

how_long : (h : HowItBears) → length (how_field h) ≡ 2
how_long Flat = letter_long _
how_long StopEdge = letter_long _
how_long KeyCorner = letter_long _

slope_few : (s : Option Float) → length (slope_field s) ≤ 17
slope_few (Some x) = omega (arith, float_long x)
slope_few None = letter_few _
  where
    letter_few : (b : ℕ) → length (letter_field b) ≤ 17
    letter_few b = omega (arith, letter_long b)

bearing-few : (b : Option Bearing) → length (bearing_fields b) ≤ 70
bearing-few (Some b) =
    two-few (how_field b.how) _ 2 68 (omega (arith, how_long b.how))
    (two-few (float_field b.gap) _ 17 51 (omega (arith, float_long b.gap))
    (two-few (two_fields b.point.x b.point.y) (slope_field b.slope) 34 17 (omega (arith, two-long b.point.x b.point.y)) (slope_few b.slope)))
bearing-few None = letter_few _
  where
    letter_few : (b : ℕ) → length (letter_field b) ≤ 70
    letter_few b = omega (arith, letter_long b)

-- ---- lines
byte_few : (b : ℕ) → length (one_byte b) ≤ 1
unfolding one_byte
byte_few b = omega arith

pub row-few : (r : Row) → length (row_line r) ≤ 196
unfolding row_line
row-few r =
    two-few (one_byte _) _ 1 195 (byte_few _)
    (two-few (number_field r.pair) _ 21 174 (number-few r.pair)
    (two-few (piece_fields r.feature.a) _ 44 130 (piece-few r.feature.a)
    (two-few (piece_fields r.feature.b) _ 44 86 (piece-few r.feature.b)
    (two-few (float_field r.gap) _ 17 69 (omega (arith, float_long r.gap))
    (two-few (two_fields r.normal.x r.normal.y) _ 34 35 (omega (arith, two-long r.normal.x r.normal.y))
    (two-few (two_fields r.point.x r.point.y) _ 34 1 (omega (arith, two-long r.point.x r.point.y)) (byte_few _)))))))

pub columns_few : (gs ss : List Float) → length gs ≤ 16 → length ss ≤ 16 → length (columns_line gs ss) ≤ 546
unfolding columns_line
columns_few gs ss h k =
    two-few (one_byte _) _ 1 545 (byte_few _)
    (two-few (float_fields gs) _ 272 273 (omega (arith, h, floats_long gs))
    (two-few (float_fields ss) _ 272 1 (omega (arith, k, floats_long ss)) (byte_few _)))

pub overlap_few : (pair : ℕ) (x y : Float) → length (overlap_line pair x y) ≤ 57
unfolding overlap_line
overlap_few pair x y =
    two-few (one_byte _) _ 1 56 (byte_few _)
    (two-few (number_field pair) _ 21 35 (number-few pair)
    (two-few (two_fields x y) _ 34 1 (omega (arith, two-long x y)) (byte_few _)))

pub bears_few : (pair : ℕ) (b : Option Bearing) → length (bearing_line pair b) ≤ 93
unfolding bearing_line
bears_few pair b =
    two-few (one_byte _) _ 1 92 (byte_few _)
    (two-few (number_field pair) _ 21 71 (number-few pair)
    (two-few (bearing_fields b) _ 70 1 (bearing-few b) (byte_few _)))

-- ---- what an accepted sheet is known to be
pub record Small (m : Mechanism) (q : Pose) (margin : Float) : Type 0 where
  pub coords : m.bodies.coords ≤ 16
  pub pairs : m.pairs.count ≤ 16
  pub rows : length (rows_of m q margin) ≤ 256

pub accepted-small : (m : Mechanism) (q : Pose) (margin : Float) → rows_checked m q 256 256 4096 4096 ≡ Ok tt → Small m q margin
accepted-small m q margin e =
    let a = call_accepted m (pose_fits m.bodies q) true (room_for m 256 256 4096 4096) e in
    let bound = mechanism_bound m in
    let columns = bound * m.bodies.coords in
    let b = both (leb bound 256 && leb bound 256) (leb columns 4096 && leb columns 4096) a.3 in
    let c = both (leb bound 256) (leb bound 256) b.0 in
    let f = accepted-few m a.0 in
    record { coords = f.coords; pairs = f.pairs.count; rows = omega (arith, all-few m q margin, leb-true bound 256 c.0) }

-- ---- gradients and slips
module _ (b : Bodies) (q : Pose) (f : PairFeatures) (r : Row) where
  grad_length : length (grad_of b q f r) ≡ b.coords
  unfolding grad_of
  grad_length = along-long b q (vector_of r.normal) r.point f.a.body f.b.body

  slip_length : length (slip_of b q f r) ≡ b.coords
  unfolding slip_of
  slip_length = along-long b q (left_of (vector_of r.normal)) r.point f.a.body f.b.body

-- ---- the whole
-- lists of 742 for each element of another's, and 150 beside
flat-few : {A B C : Type 0} (f : A → List B) (g : A → List C) → ((x : A) → length (g x) ≤ length (f x) * 742 + 150)
    → (l : List A) → length (flat g l) ≤ length (flat f l) * 742 + length l * 150
unfolding flat
flat-few f g h [] = omega arith
flat-few f g h (x ∷ l) =
    omega (arith, h x, length-append (g x) (flat g l), length-append (f x) (flat f l), flat-few f g h l)

module _ (m : Mechanism) (q : Pose) (margin : Float) (h : m.bodies.coords ≤ 16) where
  lines-few : (i : ℕ) (r : Row) → length (row_lines m q i r) ≤ 742
  lines-few i r =
      let f = features_of_pair m i in
      let g = grad_of m.bodies q f r in
      let s = slip_of m.bodies q f r in
      two-few (row_line r) (columns_line g s) 196 546 (row-few r)
      (columns_few g s (omega (arith, h, grad_length m.bodies q f r)) (omega (arith, h, slip_length m.bodies q f r)))

  pair-few : (i : ℕ) → length (pair_lines m q margin i) ≤ length (rows_of_pair m q margin i) * 742 + 150
  pair-few i =
      let x = read_of m q margin i in
      two-few (flat (row_lines m q i) (rows_of_pair m q margin i)) _ (length (rows_of_pair m q margin i) * 742) 150
      (flat-short (row_lines m q i) 742 (lines-few i) (rows_of_pair m q margin i))
      (two-few (overlap_line i x.overlap x.face_overlap) (bearing_line i x.bearing) 57 93 (overlap_few i x.overlap x.face_overlap) (bears_few i x.bearing))

  all_lines_lem : length (all_lines m q margin) ≤ length (rows_of m q margin) * 742 + length (pair_numbers m) * 150
  unfolding all_lines rows_of
  all_lines_lem = flat-few (rows_of_pair m q margin) (pair_lines m q margin) pair-few (pair_numbers m)

pub all-fits : (m : Mechanism) (q : Pose) (margin : Float) → rows_checked m q 256 256 4096 4096 ≡ Ok tt → length (all_lines m q margin) ≤ longest
all-fits m q margin e =
    let s = accepted-small m q margin e in
    omega (arith, s.rows, s.pairs, all_lines_lem m q margin s.coords, list_length (λ i. i) m.pairs.count 0)
