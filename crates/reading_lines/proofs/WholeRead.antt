-- What is listed from the lent arrays after a reading is the listing of the rows. Assumes nothing.
use Prim.Native.Nat.{ℕ, zero, suc, ◌+◌, ◌*◌, ◌<◌, ◌≤◌}
use native.Mathlib.Omega.{arith}
use native.Mathlib.Nat.{zero-add, zero-mul, suc-mul, mul-le-mul}
use mathlib.Core.Path.{◌≡◌, refl, sym, ap, ap₂, ◌∙◌}
use mathlib.Core.Bool.{Bool, true, false, cond}
use mathlib.Core.List.{List, [], ◌∷◌, ◌++◌, map, append_assoc}
use lib.Dec.{eqb}
use lib.ListN.{length, get_or, take, drop}
use lib.Seq.{sets, sets-eq, length-sets, take_at, drop_at, drop-drop}
use lib.Ieee.{Float, nan}
use borrow.Author.Tests.{eqb-true}
use Rattle.laws.specs.Lists.{flat, list_in}
use Rattle.laws.specs.Loops.{join_in}
use Rattle.mechanism.specs.Rows.{RowLists, place_row, value_row, pair_in}
use Rattle.mechanism.specs.declared.Mechanism.{Mechanism}
use Rattle.mechanism.specs.declared.features.Piece.TheVariants.{Center}
use Rattle.bodies.specs.declared.pose.Pose.{Pose}
use Rattle.mechanism.specs.declared.rows.Row.{Row}
use Rattle.shown_rows.specs.Rows.{rows_of_pair, rows_of, grads_of, slips_of, rows_checked, shown_lists, rows_over}
use Rattle.shown_rows.proofs.AllPairs.{flat-long}
use Rattle.bearings.specs.Bearing.{row_at}
use Rattle.reading.specs.Reading.{pair_readings}
use Rattle.reading.specs.declared.Reading.{Reading}
use Rattle.reading.proofs.Arrays.{read_back}
use Rattle.reading.proofs.There.{pair-there}
use Rattle.demand3.specs.Demand3.{only, grad_of_row, slip_of_row}
use Rattle.demand3.proofs.Rows.{all-grads, all-slips, grad_long, slip_long, all_named}
use Rattle.reading_lines.specs.Lines.{row_line, columns_line}
use Rattle.reading_lines.specs.Readings.{row_lines, read_of, other_lines, pair_lines, all_lines, row_lines_in, pair_rows_in, reading_at, pair_lines_in, all_lines_in, Held}
use Rattle.reading_lines.proofs.WholeSizes.{Small, accepted-small}
use Rattle.std.proofs.Common.{Ok}

-- ---- lists joined by index, and by element
-- over the numbers from j on
join_numbers : {A : Type 0} (f g : ℕ → List A) (k j : ℕ) → ((i : ℕ) → i < j + k → f i ≡ g i) → join_in f k j ≡ flat g (list_in (λ i. i) k j)
unfolding join_in flat list_in
join_numbers f g zero j e = refl
join_numbers f g (suc k) j e = ap₂ (λ a b. a ++ b) (e j (omega arith)) (join_numbers f g k (suc j) (λ i h. e i (omega (arith, h))))

-- over the elements of a list
join_list : {A B : Type 0} (f : ℕ → List B) (g : A → List B) (d : A) (l : List A) (j : ℕ)
    → ((i : ℕ) → i < length l → f (j + i) ≡ g (get_or l i d)) → join_in f (length l) j ≡ flat g l
unfolding join_in flat
join_list f g d [] j e = refl
join_list f g d (x ∷ l) j e =
    ap₂ (λ a b. a ++ b) (ap f (let z : j ≡ j + 0 = omega arith in z) ∙ e 0 (omega arith))
    (join_list f g d l (suc j) (λ i h. ap f (let z : suc j + i ≡ j + suc i = omega arith in z) ∙ e (suc i) (omega (arith, h))))

-- those that pass
flat-only : {B : Type 0} (p : Row → Bool) (f : Row → List B) (l : List Row) → flat (λ r. cond (p r) (f r) []) l ≡ flat f (only p l)
unfolding flat only
flat-only p f [] = refl
flat-only {B} p f (x ∷ l) = go (p x) (flat-only p f l)
  where
    go : (b : Bool) → flat (λ r. cond (p r) (f r) []) l ≡ flat f (only p l) → cond b (f x) [] ++ flat (λ r. cond (p r) (f r) []) l ≡ flat f (cond b (x ∷ only p l) (only p l))
    go true e = ap (λ (t : List B). f x ++ t) e
    go false e = e

-- ---- element j's list among lists of c each
block : {A B : Type 0} (f : A → List B) (c : ℕ) → ((x : A) → length (f x) ≡ c) → (d : A) (l : List A) (j : ℕ) (rest : List B)
    → j < length l → take c (drop (j * c) (flat f l ++ rest)) ≡ f (get_or l j d)
unfolding flat
block f c h d [] j rest k = absurd (omega (arith, k))
block f c h d (x ∷ l) zero rest k =
    ap (λ (n : ℕ). take c (drop n ((f x ++ flat f l) ++ rest))) (zero-mul c)
    ∙ ap (take c) (append_assoc (f x) (flat f l) rest)
    ∙ take_at (f x) (flat f l ++ rest) c (h x)
block {B = B} f c h d (x ∷ l) (suc j) rest k =
    let z : suc j * c ≡ c + j * c = omega (arith, suc-mul j c) in
    ap₂ (λ (n : ℕ) (t : List B). take c (drop n t)) z (append_assoc (f x) (flat f l) rest)
    ∙ ap (take c) (sym (drop-drop (j * c) c (f x ++ (flat f l ++ rest))))
    ∙ ap (λ (t : List B). take c (drop (j * c) t)) (drop_at (f x) (flat f l ++ rest) c (h x))
    ∙ block f c h d l j rest (omega (arith, k))

-- the same, written to the front of an array
block_in : {A B : Type 0} (f : A → List B) (c : ℕ) → ((x : A) → length (f x) ≡ c) → (d : A) (l : List A) (j : ℕ) (out g : List B)
    → g ≡ flat f l → length g ≤ length out → j < length l → take c (drop (j * c) (sets out 0 g)) ≡ f (get_or l j d)
block_in {B = B} f c h d l j out g e fits k =
    ap (λ (t : List B). take c (drop (j * c) t))
    (sets-eq g out 0 (omega (arith, fits)) ∙ ap (λ (t : List B). t ++ drop (0 + length g) out) e)
    ∙ block f c h d l j (drop (0 + length g) out) k

-- ---- what stands past the end of a list of rows: it is never read
abbrev none : Row
none = record {
  pair = 0;
  feature = record { a = Center 0; b = Center 0 };
  gap = nan;
  normal = record { x = nan; y = nan };
  point = record { x = nan; y = nan };
}

-- a row's columns are those of the pair that it names
named : (m : Mechanism) (q : Pose) (i : ℕ) (r : Row) → cond (eqb r.pair i) (row_lines m q r.pair r) [] ≡ cond (eqb r.pair i) (row_lines m q i r) []
named m q i r = go (eqb r.pair i) refl
  where
    go : (b : Bool) → eqb r.pair i ≡ b → cond b (row_lines m q r.pair r) [] ≡ cond b (row_lines m q i r) []
    go true e = ap (λ (k : ℕ). row_lines m q k r) (eqb-true r.pair i e)
    go false e = refl

-- arrays for 256 rows
pub record Lengths (b : RowLists) : Type 0 where
  pub places : length b.places ≡ 256
  pub values : length b.values ≡ 256
  pub grad : length b.grad ≡ 4096
  pub slip : length b.slip ≡ 4096

-- the reading of rows, where it is not refused
abbrev pub read_by : Mechanism → Pose → List Row → Reading
read_by m q rows = record {
  count = length rows;
  pairs = m.pairs.count;
  pair = pair_readings m q (map place_row rows) (map value_row rows) (length rows);
}

module _ (m : Mechanism) (q : Pose) (margin : Float) (e : rows_checked m q 256 256 4096 4096 ≡ Ok tt) where
  abbrev rows : List Row
  rows = rows_of m q margin

  abbrev coords : ℕ
  coords = m.bodies.coords

  small : Small m q margin
  small = accepted-small m q margin e

  columns_fit : length rows * coords ≤ 4096
  columns_fit = let p : length rows * coords ≤ 256 * 16 = mul-le-mul small.rows small.coords in omega (arith, p)

  grads-length : length (grads_of m q margin) ≡ length rows * coords
  grads-length = ap length (all-grads m q margin) ∙ flat-long (grad_of_row m q) coords (grad_long m q) rows

  slips-length : length (slips_of m q margin) ≡ length rows * coords
  slips-length = ap length (all-slips m q margin) ∙ flat-long (slip_of_row m q) coords (slip_long m q) rows

  -- what is read of pair i
  read_there : (i : ℕ) → i < m.pairs.count → reading_at (read_by m q rows) i ≡ read_of m q margin i
  read_there i h = pair-there m q (map place_row rows) (map value_row rows) (length rows) i small.pairs h

  module _ (b : RowLists) (long : Lengths b) where
    abbrev l : RowLists
    l = rows_over (Ok tt) (shown_lists m q margin) b

    row-there : (j : ℕ) → j < length rows → row_at l.places l.values j ≡ get_or rows j none
    row-there j h = read_back rows b.places b.values j none (omega (arith, small.rows, long.places)) (omega (arith, small.rows, long.values)) h

    grad_there : (j : ℕ) → j < length rows → take coords (drop (j * coords) l.grad) ≡ grad_of_row m q (get_or rows j none)
    grad_there j h =
        block_in (grad_of_row m q) coords (grad_long m q) none rows j b.grad (grads_of m q margin) (all-grads m q margin) (omega (arith, grads-length, columns_fit, long.grad)) h

    slip_there : (j : ℕ) → j < length rows → take coords (drop (j * coords) l.slip) ≡ slip_of_row m q (get_or rows j none)
    slip_there j h =
        block_in (slip_of_row m q) coords (slip_long m q) none rows j b.slip (slips_of m q margin) (all-slips m q margin) (omega (arith, slips-length, columns_fit, long.slip)) h

    lines-there : (j : ℕ) → j < length rows → row_lines_in coords l j ≡ row_lines m q (get_or rows j none).pair (get_or rows j none)
    lines-there j h =
        ap₂ (λ (a b : List ℕ). a ++ b) (ap row_line (row-there j h)) (ap₂ columns_line (grad_there j h) (slip_there j h))

    turn-there : (i j : ℕ) → j < length rows
        → cond (eqb (pair_in l.places j) i) (row_lines_in coords l j) [] ≡ cond (eqb (get_or rows j none).pair i) (row_lines m q i (get_or rows j none)) []
    turn-there i j h =
        ap₂ (λ (k : ℕ) (l : List ℕ). cond (eqb k i) l []) (ap (λ (r : Row). r.pair) (row-there j h)) (lines-there j h)
        ∙ named m q i (get_or rows j none)

    rows-there : (i : ℕ) → i < m.pairs.count → pair_rows_in coords l (length rows) i ≡ flat (row_lines m q i) (rows_of_pair m q margin i)
    unfolding pair_rows_in
    rows-there i h =
        join_list (λ j. cond (eqb (pair_in l.places j) i) (row_lines_in coords l j) []) (λ r. cond (eqb r.pair i) (row_lines m q i r) []) none rows 0 turn
        ∙ flat-only (λ r. eqb r.pair i) (row_lines m q i) rows
        ∙ ap (flat (row_lines m q i)) (sym (all_named m q margin i h))
      where
        turn : (j : ℕ) → j < length rows
            → cond (eqb (pair_in l.places (0 + j)) i) (row_lines_in coords l (0 + j)) [] ≡ cond (eqb (get_or rows j none).pair i) (row_lines m q i (get_or rows j none)) []
        turn j k = ap (λ (n : ℕ). cond (eqb (pair_in l.places n) i) (row_lines_in coords l n) []) (zero-add j) ∙ turn-there i j k

    -- what is listed from the arrays is the listing of the rows
    pub all_same : all_lines_in coords l (read_by m q rows) ≡ all_lines m q margin
    unfolding all_lines_in all_lines
    all_same =
        join_numbers (pair_lines_in coords l (read_by m q rows)) (pair_lines m q margin) m.pairs.count 0
        (λ i h. pair-there i (omega (arith, h)))
      where
        pair-there : (i : ℕ) → i < m.pairs.count → pair_lines_in coords l (read_by m q rows) i ≡ pair_lines m q margin i
        pair-there i h = ap₂ (λ (a b : List ℕ). a ++ b) (rows-there i h) (ap (other_lines i) (read_there i h))

    -- what the listing asks of the arrays and of the reading
    pub all_held : Held coords (length rows) l
    all_held = record {
      few = small.coords;
      many = small.rows;
      placed = omega (arith, small.rows, long.places, length-sets b.places 0 (map place_row rows));
      valued = omega (arith, small.rows, long.values, length-sets b.values 0 (map value_row rows));
      grads = omega (arith, columns_fit, long.grad, length-sets b.grad 0 (grads_of m q margin));
      slips = omega (arith, columns_fit, long.slip, length-sets b.slip 0 (slips_of m q margin));
    }
