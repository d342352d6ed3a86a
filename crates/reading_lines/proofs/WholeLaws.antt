-- What the lines of a reading are written with: room for a refusal, lines one behind the other, and what is read. Assumes nothing.
use Prim.Native.Nat.{ℕ, suc, ◌+◌, ◌*◌, ◌-◌, ◌<◌, ◌≤◌}
use native.Mathlib.Omega.{arith}
use native.Mathlib.Nat.{suc-mul, mul-le-mul_right}
use mathlib.Core.Path.{◌≡◌, refl, sym, ap, ap₂, subst₂, ◌∙◌}
use mathlib.Core.List.{List, [], ◌++◌}
use lib.ListN.{length, get_or, take, drop, replicate, length-append}
use lib.Ieee.{Float}
use mir.Val.{Val}
use denote.Laws.{Is}
use Rattle.laws.specs.Loops.{join_in, Writing}
use Rattle.laws.proofs.Lists.{get_d_any}
use Rattle.laws.proofs.Loops.{join_turn, join_none, join_done}
use Rattle.laws.proofs.Writing.{starts, goes_on, appends, ends, ends-count}
use Rattle.ieee.specs.Consts.{zero_f}
use Rattle.mechanism.specs.Rows.{RowLists}
use Rattle.mechanism.specs.declared.Mechanism.{Mechanism}
use Rattle.bodies.specs.declared.Problem.{Problem}
use Rattle.bodies.specs.declared.pose.Pose.{Pose}
use Rattle.mechanism.specs.declared.rows.Row.{Row}
use Rattle.bodies.proofs.Known.{array_length}
use Rattle.shown_rows.specs.Rows.{rows_of, rows_checked, rows_asked, shown_lists, rows_over}
use Rattle.reading.specs.Reading.{no_pair_reading, reading_of, reading_asked}
use Rattle.reading.specs.Reading as T
use Rattle.reading.specs.declared.PairReading.{PairReading}
use Rattle.reading.specs.declared.Reading.{Reading}
use Rattle.reading.specs.contracts.PairReading as P
use Rattle.reading.specs.contracts.Reading as R
use Rattle.reading_lines.specs.Digits.{decimal_of}
use Rattle.reading_lines.specs.Lines.{Room, Wrote, one_byte, number_field, refusal_line}
use Rattle.reading_lines.specs.Readings as L
use Rattle.reading_lines.specs.Readings.{other_lines, reading_at, all_lines, refusal, read_lines, Held, all_lines_in, longest}
use Rattle.reading_lines.proofs.LineLaws.{room-first, room-rest, room_as}
use Rattle.reading_lines.proofs.WholeSizes.{digits-few, all-fits, accepted-small}
use Rattle.reading_lines.proofs.WholeRead.{Lengths, read_by, all_same, all_held}
use Rattle.std.proofs.Common.{Ok, Err}
use Rattle.bodies.specs.Check.{Checked}

-- ---- a refusal has room
pub number-few : (v : ℕ) → length (number_field v) ≤ 21
unfolding number_field one_byte
number-few v = let h : length (decimal_of v) ≤ 20 = digits-few v in omega arith

pub refusal-few : (n p : ℕ) → length (refusal_line n p) ≤ 44
unfolding refusal_line one_byte
refusal-few n p = omega (arith, number-few n, number-few p, length-append (number_field n) (number_field p ++ one_byte 10), length-append (number_field p) (one_byte 10))

pub refusal-room : (n p : ℕ) (l : List ℕ) → longest ≤ length l → Room l 0 (refusal_line n p)
refusal-room n p l h = record { inside = omega (arith, refusal-few n p) }

-- ---- lists of n indexes, one behind the other: those from i on are to come
pub record Parts (f : ℕ → List ℕ) (n : ℕ) (l : List ℕ) (at : ℕ) (out : List ℕ) (k i : ℕ) : Type 0 where
  pub bound : i ≤ n
  pub room : Room out k (join_in f (n - i) i)
  pub rest : Writing l at (join_in f n 0) out k (join_in f (n - i) i)

pub parts-start : (f : ℕ → List ℕ) (n : ℕ) (l : List ℕ) (at : ℕ) → Room l at (join_in f n 0) → Parts f n l at l at 0
parts-start f n l at h =
    let e : n - 0 ≡ n = omega arith in
    let j : join_in f (n - 0) 0 ≡ join_in f n 0 = ap (λ (k : ℕ). join_in f k 0) e in
    record { bound = omega arith; room = room_as (sym j) h; rest = starts j }

module _ {f : ℕ → List ℕ} {n : ℕ} {l : List ℕ} {at : ℕ} {out : List ℕ} {k i : ℕ} (p : Parts f n l at out k i) where
  pub parts-room : i < n → Room out k (f i)
  parts-room h = room-first _ _ (room_as (join_turn f n i h) p.room)

  pub parts_more : i < n → {m : List ℕ} {e : ℕ} → Wrote out k (f i) e m → Parts f n l at m e (i + 1)
  parts_more h w = record {
    bound = omega arith;
    room = room-rest _ _ (room_as (join_turn f n i h) p.room) w;
    rest =
        subst₂ (λ (o : List ℕ) (j : ℕ). Writing l at (join_in f n 0) o j (join_in f (n - (i + 1)) (i + 1))) (sym w.there) (sym w.behind)
        (appends (f i) (join_turn f n i h) p.rest);
  }

  pub parts-skip : i < n → f i ≡ [] → Parts f n l at out k (i + 1)
  parts-skip h e = record {
    bound = omega arith;
    room = room_as (join_none f n i h e) p.room;
    rest = goes_on (join_none f n i h e) p.rest;
  }

  pub parts-end : n ≤ i → Wrote l at (join_in f n 0) k out
  parts-end h = record { behind = ends-count (join_done f n i h) p.rest; there = ends (join_done f n i h) p.rest }

-- ---- the columns of row j end within those of n rows, and few are there
pub columns_within : {coords n j : ℕ} {l : RowLists} → Held coords n l → j < n → (j * coords + coords ≤ length l.grad) × (j * coords + coords ≤ length l.slip) × (j * coords + coords ≤ 4096)
columns_within {coords} {n} {j} h k =
    let e : suc j * coords ≤ n * coords = mul-le-mul_right coords k in
    let f : n * coords ≤ 256 * coords = mul-le-mul_right coords h.many in
    let m = suc-mul j coords in
    (omega (arith, m, e, h.grads), omega (arith, m, e, h.slips), omega (arith, m, e, f, h.few))

-- the part of a slice from f up to f + c
pub columns_part : (l : List Float) (f c : ℕ) → take (f + c - f) (drop f l) ≡ take c (drop f l)
columns_part l f c = let e : f + c - f ≡ c = omega arith in ap (λ (k : ℕ). take k (drop f l)) e

-- ---- a reading tells of sixteen pairs
pub reading-long : (r : Reading) (vs : List Val) → Is R.the_row r vs → length r.pair ≡ 16
reading-long r vs p = array_length P.the_row 16 r.pair _ p.1.1.1.1.0

pub other_same : (r : Reading) (i : ℕ) (d : PairReading) → length r.pair ≡ 16 → i < r.pairs → r.pairs ≤ 16
    → other_lines i (reading_at r i) ≡ other_lines i (get_or r.pair i d)
other_same r i d l h k = ap (other_lines i) (get_d_any r.pair i no_pair_reading d (omega arith))

-- ---- what is read, refused and accepted
-- the lent arrays as they are made
abbrev pub blank_rows : RowLists
blank_rows = record { places = replicate 256 (replicate 7 0); values = replicate 256 (replicate 5 zero_f); grad = replicate 4096 zero_f; slip = replicate 4096 zero_f }

pub blank_long : Lengths blank_rows
blank_long = record { places = refl; values = refl; grad = refl; slip = refl }

module _ (m : Mechanism) (q : Pose) (rows : List Row) where
  refused-by : (c : Checked) (p : Problem) → Err p ≡ T.read_if c m q rows → c ≡ Err p
  refused-by (Ok tt) p e = cc
  refused-by (Err x) p e = let h : x ≡ p = cc in ap Err h

  accepted-by : (c : Checked) (r : Reading) → Ok r ≡ T.read_if c m q rows → (c ≡ Ok tt) × (r ≡ read_by m q rows)
  accepted-by (Ok tt) r e = (refl, cc)
  accepted-by (Err x) r e = cc

module _ (m : Mechanism) (q : Pose) (margin : Float) (b : RowLists) (long : Lengths b) where
  abbrev checked : Checked
  checked = rows_asked m q b

  four : {A : Type 0} (f : ℕ → ℕ → ℕ → ℕ → A) → f (length b.places) (length b.values) (length b.grad) (length b.slip) ≡ f 256 256 4096 4096
  four f = ap₂ (λ (n k : ℕ). f n k (length b.grad) (length b.slip)) long.places long.values ∙ ap₂ (f 256 256) long.grad long.slip

  says : {c : Checked} → checked ≡ c → rows_checked m q 256 256 4096 4096 ≡ c
  says h = sym (four (rows_checked m q)) ∙ h

  pub read_refused : {p : Problem} → Err p ≡ reading_asked m q margin b → read_lines m q margin ≡ refusal p
  unfolding reading_of
  read_refused {p} e = ap (λ (c : Checked). L.read_if c m q margin) (says (refused-by m q (rows_of m q margin) checked p e))

  module _ {r : Reading} (e : Ok r ≡ reading_asked m q margin b) {l : RowLists} (after : l ≡ rows_over checked (shown_lists m q margin) b) where
    told : (checked ≡ Ok tt) × (r ≡ read_by m q (rows_of m q margin))
    unfolding reading_of
    told = accepted-by m q (rows_of m q margin) checked r e

    -- what is there is what was written
    written : l ≡ rows_over (Ok tt) (shown_lists m q margin) b
    written = after ∙ ap (λ (c : Checked). rows_over c (shown_lists m q margin) b) told.0

    there : Held m.bodies.coords r.count l × (r.pairs ≤ 16) × (all_lines_in m.bodies.coords l r ≡ all_lines m q margin)
    there =
        let k = says told.0 in
        subst₂ (λ (x : RowLists) (t : Reading). Held m.bodies.coords t.count x × (t.pairs ≤ 16) × (all_lines_in m.bodies.coords x t ≡ all_lines m q margin))
        (sym written) (sym told.1)
        (all_held m q margin k b long, (accepted-small m q margin k).pairs, all_same m q margin k b long)

    -- what `all_lines` asks for
    pub read_ready : (out : List ℕ) → longest ≤ length out → Held m.bodies.coords r.count l × (r.pairs ≤ 16) × Room out 0 (all_lines_in m.bodies.coords l r)
    read_ready out h =
        let t = there in
        let n = ap length t.2 in
        (t.0, t.1, record { inside = omega (arith, n, all-fits m q margin (says told.0)) })

    pub read_accepted : read_lines m q margin ≡ all_lines_in m.bodies.coords l r
    read_accepted = ap (λ (c : Checked). L.read_if c m q margin) (says told.0) ∙ sym there.2
