-- The rows of all pairs over a prepared description. Definitions only.
use Rattle.std.specs.Prelude.{ℕ, ◌+◌, ◌*◌, ◌≤◌, Bool, ◌&&◌, ◌||◌, not, List, map, leb, ltb, eqb, length, Float}
use Rattle.laws.specs.Lists.{list_in, flat}
use Rattle.laws.specs.Loops.{any_in}
use Rattle.bodies.specs.Check.{Checked, and_then, refused_if, bodies_stand}
use Rattle.bodies.specs.declared.Bodies.{Bodies}
use Rattle.bodies.specs.declared.Problem.TheVariants.{LimitPassed, PoseNotMatching, NoSuchThing, TooFewRows}
use Rattle.bodies.specs.declared.pose.Pose.{Pose}
use Rattle.mechanism.specs.Description.{sum_in}
use Rattle.mechanism.specs.Rows.{RowLists, place_row, value_row}
use Rattle.mechanism.specs.declared.rows.Row.{Row}
use Rattle.strips.specs.Strips.{TableRows, table_rows, side_at, row_a, row_b, pair_in}
use Rattle.candidates.specs.Prepared.{bound_in, candidates_from}
use Rattle.pair_rows.specs.PairRows.{candidate_at, shown_of, row_of, Put, Room}
use Rattle.shown_rows.specs.Rows.{grad_of, slip_of}
use Rattle.prepared_rows.specs.declared.Asked.{Asked}

unfoldable pub rows_from : TableRows → Pose → Float → ℕ → List Row
rows_from t q margin i = let cs = candidates_from t q i in map (λ k. row_of i (candidate_at cs k)) (shown_of cs margin)

unfoldable pub grads_from : TableRows → Bodies → Pose → Float → ℕ → List Float
grads_from t b q margin i = flat (grad_of b q (pair_in t i)) (rows_from t q margin i)

unfoldable pub slips_from : TableRows → Bodies → Pose → Float → ℕ → List Float
slips_from t b q margin i = flat (slip_of b q (pair_in t i)) (rows_from t q margin i)

-- of the first n pairs, one behind the other
abbrev pub all_rows : TableRows → Pose → Float → ℕ → List Row
all_rows t q margin n = flat (rows_from t q margin) (list_in (λ i. i) n 0)

abbrev pub all_grads : TableRows → Bodies → Pose → Float → ℕ → List Float
all_grads t b q margin n = flat (grads_from t b q margin) (list_in (λ i. i) n 0)

abbrev pub all_slips : TableRows → Bodies → Pose → Float → ℕ → List Float
all_slips t b q margin n = flat (slips_from t b q margin) (list_in (λ i. i) n 0)

-- the same, as they stand in lent arrays
abbrev pub prepared_lists : TableRows → Bodies → Pose → Float → ℕ → RowLists
prepared_lists t b q margin n = record {
  places = map place_row (all_rows t q margin n);
  values = map value_row (all_rows t q margin n);
  grad = all_grads t b q margin n;
  slip = all_slips t b q margin n;
}

-- the sum of the pairs' bounds
abbrev pub bounds_in : TableRows → ℕ → ℕ
bounds_in t n = sum_in (bound_in t) n 0

-- a side of pair i names no body
abbrev pub falls_off : ℕ → TableRows → ℕ → Bool
falls_off bodies t i = ltb bodies (side_at t (row_a i)).body || ltb bodies (side_at t (row_b i)).body

abbrev pub room_in : Bodies → TableRows → ℕ → (places values grad slip : ℕ) → Bool
room_in b t n places values grad slip =
    let bound = bounds_in t n in
    let columns = bound * b.coords in
    (leb bound places && leb bound values) && (leb columns grad && leb columns slip)

-- 3, 4 and 5 of the bodies, then 11, 12 and 13 of a call on a prepared description
unfoldable pub prepared_checked : Bodies → ℕ → TableRows → Pose → (places values grad slip : ℕ) → Checked
prepared_checked b n t q places values grad slip =
    and_then (refused_if (ltb 16 n) LimitPassed)
    (and_then (bodies_stand b)
    (and_then (refused_if (not (eqb q.count (b.count + 1))) PoseNotMatching)
    (and_then (refused_if (any_in (falls_off b.count t) n 0) NoSuchThing)
    (refused_if (not (room_in b t n places values grad slip)) TooFewRows))))

-- the refusals of a call that was lent these
abbrev pub prepared_asked : Bodies → ℕ → TableRows → Pose → RowLists → Checked
prepared_asked b n t q l = prepared_checked b n t q (length l.places) (length l.values) (length l.grad) (length l.slip)

-- ---- what the code asks of lent arrays and leaves in them
-- the row bound of a pair
abbrev pub bound_of : Asked → ℕ → ℕ
bound_of k i = bound_in (table_rows k.tables.now) i

-- room for its rows behind the `at` rows that are there
abbrev pub PairRoom : Asked → ℕ → ℕ → RowLists → Type 0
PairRoom k i at l = (k.bodies.now.coords ≤ 16) × (at ≤ 23296) × Room k.bodies.now.coords at (bound_of k i) l

-- they stand there, up to row r
abbrev pub PutPair : Asked → ℕ → (at r : ℕ) → (before after : RowLists) → Type 0
PutPair k i at r before after =
    let t = table_rows k.tables.now in
    let b = k.bodies.now in
    let rows = rows_from t k.q k.margin i in
    Put b.coords (map place_row rows) (map value_row rows) (grads_from t b k.q k.margin i) (slips_from t b k.q k.margin i) at r before after

-- those of the first n pairs stand in front, up to row r
abbrev pub PutPairs : Asked → ℕ → (r : ℕ) → (before after : RowLists) → Type 0
PutPairs k n r before after =
    let t = table_rows k.tables.now in
    let b = k.bodies.now in
    let rows = all_rows t k.q k.margin n in
    Put b.coords (map place_row rows) (map value_row rows) (all_grads t b k.q k.margin n) (all_slips t b k.q k.margin n) 0 r before after
