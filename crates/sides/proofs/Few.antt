-- At most 12 faces on a side, at most 28 faces and discs together, at most 784 rows of a pair. Assumes nothing.
use Prim.Native.Nat.{ℕ, zero, suc, ◌+◌, ◌*◌, ◌<◌, ◌≤◌}
use native.Mathlib.Nat.{add-mul, mul-add, mul_comm, mul-le-mul}
use native.Mathlib.Omega.{arith}
use native.Mathlib.Numerals.{add-one}
use mathlib.Core.Path.{◌≡◌, refl, sym, ap, ◌∙◌}
use mathlib.Core.Bool.{Bool, true, false, cond, ◌||◌}
use mathlib.Core.List.{List, []}
use lib.ListN.{length, length-append}
use Rattle.laws.specs.Loops.{fold_in, join_in}
use Rattle.laws.proofs.Fill.{join_more, join_nothing}
use Rattle.laws.proofs.Sums.{sum_more}
use Rattle.geometry.specs.declared.Seg.{Seg}
use Rattle.geometry.specs.declared.Seg.TheVariants.{Line, Arc}
use Rattle.mechanism.specs.Check.{check_of}
use Rattle.mechanism.specs.Description.{sum_in, pair_at}
use Rattle.mechanism.specs.declared.Mechanism.{Mechanism}
use Rattle.mechanism.specs.declared.Outlines.{Outlines}
use Rattle.mechanism.specs.declared.Parts.{Parts}
use Rattle.mechanism.specs.declared.features.Piece.{Piece}
use Rattle.mechanism.specs.declared.pair.ContactPair.{ContactPair}
use Rattle.mechanism.specs.declared.pair.PairGeometry.{PairGeometry}
use Rattle.mechanism.specs.declared.pair.PairGeometry.TheVariants.{Features, CenterBearing}
use Rattle.mechanism.specs.declared.pair.Surface.{Surface}
use Rattle.sides.specs.declared.PlacedFace.{PlacedFace}
use Rattle.sides.specs.declared.SideFeatures.{SideFeatures}
use Rattle.corners.specs.Corners.{face_of, arc_of, corner_of}
use Rattle.sides.specs.Features.{Run, placed_face, placed_disc, faces_of_seg, discs_of_seg, faces_at, step_at, step_discs, end_discs, range_faces, range_discs, opening, previous_at}
use Rattle.sides.specs.Features.{run_at, faces_of_range, discs_of_range, faces_of, discs_of, last_before, first_after, last_seg, between, meets, traversals_of, side_of}
use Rattle.sides.specs.Bounds.{total, Runs, DrawnSide, row_bound}
use Rattle.sides.specs.Contacts.{center_of_b, pair_features, pair_bound, mechanism_bound}
use Rattle.sides.specs.Sizes.{FewOnSide, FewFeatures, Sized}
use Rattle.sides.proofs.Sizes.{drawn-runs}
use Rattle.sides.proofs.Accepted.{accepted-drawn}
use Rattle.std.proofs.Common.{Option, Some, None, Ok}
use Rattle.geometry.specs.declared.signed.Disc.{Disc}
use Rattle.geometry.specs.declared.signed.Face.{Face}

-- ---- joined lists
join_few : {A B : Type 0} (f : ℕ → List A) (g : ℕ → List B) (b : ℕ → ℕ) → ((i : ℕ) → length (f i) + length (g i) ≤ b i) → (k : ℕ) → length (join_in f k 0) + length (join_in g k 0) ≤ sum_in b k 0
join_few f g b h zero = let p = ap length (join_nothing f 0) in let q = ap length (join_nothing g 0) in omega arith
join_few {A} {B} f g b h (suc k) =
    let e : suc k ≡ k + 1 = omega arith in
    let p : length (join_in f (suc k) 0) ≡ length (join_in f k 0) + length (f k) = ap (λ (i : ℕ). length (join_in f i 0)) e ∙ ap length (join_more f k) ∙ length-append (join_in f k 0) (f k) in
    let q : length (join_in g (suc k) 0) ≡ length (join_in g k 0) + length (g k) = ap (λ (i : ℕ). length (join_in g i 0)) e ∙ ap length (join_more g k) ∙ length-append (join_in g k 0) (g k) in
    let s : sum_in b (suc k) 0 ≡ sum_in b k 0 + b k = ap (λ (i : ℕ). sum_in b i 0) e ∙ sum_more b k in
    let r = join_few f g b h k in
    let t = h k in
    omega arith

-- one more number of a sum, the count not written as a sum
sum-next : (f : ℕ → ℕ) (k : ℕ) → sum_in f (suc k) 0 ≡ sum_in f k 0 + f k
sum-next f k = let e : suc k ≡ k + 1 = omega arith in ap (λ (i : ℕ). sum_in f i 0) e ∙ sum_more f k

sum-none : (f : ℕ → ℕ) → sum_in f 0 0 ≡ 0
unfolding fold_in
sum-none f = refl

sum_ones : (k : ℕ) → sum_in (λ i. 1) k 0 ≡ k
sum_ones zero = sum-none (λ i. 1)
sum_ones (suc k) = let h = sum_ones k in let n = sum-next (λ i. 1) k in omega arith

sum-twos : (k : ℕ) → sum_in (λ i. 2) k 0 ≡ k + k
sum-twos zero = sum-none (λ i. 2)
sum-twos (suc k) = let h = sum-twos k in let n = sum-next (λ i. 2) k in omega arith

-- ---- one step
face-few : (p : Piece) (m : Option Face) → length (placed_face p m) ≤ 1
face-few p None = omega arith
face-few p (Some f) = omega arith

disc_few : (p : Piece) (m : Option Disc) → length (placed_disc p m) ≤ 1
disc_few p None = omega arith
disc_few p (Some d) = omega arith

-- a segment gives a face or an arc's disc, never both
one_of : (p q : Piece) (cut : Bool) (g : Seg) → length (placed_face p (face_of g)) + length (placed_disc q (arc_of cut g)) ≤ 1
unfolding face_of
one_of p q true (Line a b) = let h = face-few p (face_of (Line a b)) in omega arith
one_of p q false (Line a b) = let h = face-few p (face_of (Line a b)) in omega arith
one_of p q true (Arc c r from to) = omega arith
one_of p q false (Arc c r from to) = omega arith

seg-few : (part named starts : ℕ) (cut : Bool) (previous m : Option Seg) → length (faces_of_seg part named m) + length (discs_of_seg part cut named starts previous m) ≤ 2
seg-few part named starts cut previous None = omega arith
seg-few part named starts cut previous (Some g) =
    let a = one_of (Piece.Segment part named) (Piece.Arc part named) cut g in
    let b = disc_few (Piece.Vertex part starts) (corner_of previous g) in
    let e = length-append (placed_disc (Piece.Arc part named) (arc_of cut g)) (placed_disc (Piece.Vertex part starts) (corner_of previous g)) in
    omega arith

seg-face-few : (part named : ℕ) (m : Option Seg) → length (faces_of_seg part named m) ≤ 1
seg-face-few part named None = omega arith
seg-face-few part named (Some g) = face-few (Piece.Segment part named) (face_of g)

chosen : (b : Bool) (p : Piece) (m : Option Disc) → length (cond b [] (placed_disc p m)) ≤ 1
chosen true p m = omega arith
chosen false p m = disc_few p m

end-few : (t : Run) (next : Option Seg) → length (end_discs t next) ≤ 1
unfolding end_discs
end-few t next = chosen (meets (last_seg t) next || t.wrapped) (Piece.Vertex t.part t.ends) (between (last_seg t) t.after)

-- ---- the first i steps of a range
abbrev pub step_faces : Run → ℕ → List PlacedFace
step_faces t i = faces_at t.part (step_at t i)

abbrev nothing : ℕ → List ℕ
nothing j = []

nothing-long : (j : ℕ) → length (nothing j) ≡ 0
nothing-long j = refl

pub faces_few : (t : Run) (i : ℕ) → length (join_in (step_faces t) i 0) ≤ i
faces_few t i =
    let h = join_few (step_faces t) nothing (λ j. 1) (λ j. let w = seg-face-few t.part (step_at t j).named (step_at t j).seg in let z = nothing-long j in omega arith) i in
    let n = sum_ones i in
    omega arith

pub steps_few : (t : Run) (first : Option Seg) (i : ℕ) → length (join_in (step_faces t) i 0) + length (join_in (step_discs t first) i 0) ≤ i + i
unfolding step_discs
steps_few t first i =
    let h = join_few (step_faces t) (step_discs t first) (λ j. 2) (λ j. seg-few t.part (step_at t j).named (step_at t j).starts t.cut (previous_at t first j) (step_at t j).seg) i in
    let n = sum-twos i in
    omega arith

-- ---- a range, and a side
range-few : (t : Run) (last next : Option Seg) → length (range_faces t) + length (range_discs t last next) ≤ t.count + t.count + 1
unfolding range_faces range_discs end_discs
range-few t last next =
    let h = steps_few t (opening t last) t.count in
    let e = length-append (join_in (step_discs t (opening t last)) t.count 0) (end_discs t next) in
    let d = end-few t next in
    omega arith

range-faces_few : (t : Run) → length (range_faces t) ≤ t.count
unfolding range_faces
range-faces_few t = faces_few t t.count

pub faces_upto : (ts : List Run) (k : ℕ) → length (join_in (faces_of_range ts) k 0) ≤ total ts k
faces_upto ts k = let h = join_few (faces_of_range ts) nothing (λ j. (run_at ts j).count) (λ j. let w = range-faces_few (run_at ts j) in let z = nothing-long j in omega arith) k in omega arith

sum_twice : (f : ℕ → ℕ) (k : ℕ) → sum_in (λ j. f j + f j + 1) k 0 ≡ sum_in f k 0 + sum_in f k 0 + k
sum_twice f zero = let a = sum-none (λ j. f j + f j + 1) in let b = sum-none f in omega arith
sum_twice f (suc k) = let h = sum_twice f k in let n = sum-next (λ j. f j + f j + 1) k in let m = sum-next f k in omega arith

pub features_upto : (ts : List Run) (k : ℕ) → length (join_in (faces_of_range ts) k 0) + length (join_in (discs_of_range ts) k 0) ≤ total ts k + total ts k + k
features_upto ts k =
    let h = join_few (faces_of_range ts) (discs_of_range ts) (λ j. (run_at ts j).count + (run_at ts j).count + 1) (λ j. range-few (run_at ts j) (last_before ts j) (first_after ts j)) k in
    let e = sum_twice (λ j. (run_at ts j).count) k in
    omega arith

-- a side has at most 12 faces, and at most 28 faces and discs together
pub side-faces : (ts : List Run) → Runs ts → length (faces_of ts) ≤ 12
unfolding faces_of
side-faces ts r = let h = faces_upto ts (length ts) in let f = r.few in omega arith

pub side-features : (ts : List Run) → Runs ts → length (faces_of ts) + length (discs_of ts) ≤ 28
unfolding faces_of discs_of
side-features ts r = let h = features_upto ts (length ts) in let f = r.few in let g = r.ranges in omega arith

-- a pair's rows: a and b are the faces and discs of one side, c and d those of the other
pub rows_few : (a b c d : ℕ) → a + b ≤ 28 → c + d ≤ 28 → b * c + d * a + b * d ≤ 784
rows_few a b c d h g =
    let m : (a + b) * (c + d) ≤ 28 * 28 = mul-le-mul h g in
    let e : (a + b) * (c + d) ≡ a * (c + d) + b * (c + d) = add-mul a b (c + d) in
    let p : a * (c + d) ≡ a * c + a * d = mul-add a c d in
    let q : b * (c + d) ≡ b * c + b * d = mul-add b c d in
    let r : a * d ≡ d * a = mul_comm a d in
    omega arith

-- ---- of a side and of a pair that are drawn
pub side-few : (ps : Parts) (o : Outlines) (u : Surface) (wanted : Bool) → DrawnSide ps u → FewOnSide (side_of ps o u wanted)
unfolding side_of
side-few ps o u wanted d =
    let r = drawn-runs ps o u d in
    let n = side-features (traversals_of ps o u) r in
    record { faces = side-faces (traversals_of ps o u) r; discs = omega arith; features = n }

bound-few : (g : PairGeometry) (a b : SideFeatures) → FewOnSide a → FewOnSide b → row_bound g a b ≤ 784
bound-few Features a b p q = rows_few a.faces a.discs b.faces b.discs p.features q.features
bound-few CenterBearing a b p q = let h = p.faces in omega arith

pub pair-few : (ps : Parts) (o : Outlines) (p : ContactPair) → DrawnSide ps p.a → DrawnSide ps p.b → FewFeatures p.geometry (pair_features ps o p)
unfolding pair_features
pair-few ps o p d e =
    let a = side-few ps o p.a false d in
    let b = side-few ps o p.b (center_of_b p.geometry) e in
    record { a = a; b = b; rows = bound-few p.geometry (side_of ps o p.a false) (side_of ps o p.b (center_of_b p.geometry)) a b }

-- of every pair of an accepted description: document 01's limits of its sides, and of its rows
pub accepted-few-features : (m : Mechanism) → check_of m ≡ Ok tt → (i : ℕ) → i < m.pairs.count
    → FewFeatures (pair_at m.pairs i).geometry (pair_features m.parts m.outlines (pair_at m.pairs i))
accepted-few-features m e i h = pair-few m.parts m.outlines (pair_at m.pairs i) ((accepted-drawn m e).a i h) ((accepted-drawn m e).b i h)

-- ---- the bound of a mechanism
bounds-upto : (f : ℕ → ℕ) (k : ℕ) → ((j : ℕ) → j < k → f j ≤ 784) → sum_in f k 0 ≤ 784 * k
unfolding fold_in
bounds-upto f zero h = omega arith
bounds-upto f (suc k) h =
    let r = bounds-upto f k (λ j l. h j (omega arith)) in
    let b = h k (omega arith) in
    let e : sum_in f (suc k) 0 ≡ sum_in f k 0 + f k = ap (λ (n : ℕ). sum_in f n 0) (sym (add-one k)) ∙ sum_more f k in
    omega (arith, r, b, e)

-- at most 784 rows a pair
pub accepted-bound : (m : Mechanism) → check_of m ≡ Ok tt → mechanism_bound m ≤ 784 * m.pairs.count
unfolding mechanism_bound
accepted-bound m e = bounds-upto (pair_bound m) m.pairs.count (λ i h. (accepted-few-features m e i h).rows)

pub accepted-sized : (m : Mechanism) → check_of m ≡ Ok tt → Sized m
accepted-sized m e = record { pair = λ i h. accepted-few-features m e i h; bound = accepted-bound m e }
