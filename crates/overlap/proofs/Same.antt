-- Overlaps ask of the outlines the silhouettes alone, and rows into which the segments were put give the same. Assumes nothing.
use Prim.Native.Nat.{ℕ, zero, suc, ◌*◌, ◌≤◌}
use native.Mathlib.Omega.{arith}
use mathlib.Core.Path.{◌≡◌, refl, ap, ap₂, subst, ◌∙◌}
use mathlib.Core.Bool.{Bool, true, false, cond}
use mathlib.Core.List.{List, [], ◌∷◌}
use lib.Dec.{ltb}
use lib.Ieee.{Float}
use lib.ListN.{length}
use lib.Seq.{sets, length-sets}
use Rattle.laws.specs.Lists.{foldl}
use Rattle.laws.specs.Loops.{fold_in}
use Rattle.ieee.specs.Consts.{zero_f}
use Rattle.ieee.specs.Num.{max_of}
use Rattle.geometry.specs.declared.Point.{Point}
use Rattle.mechanism.specs.Check.{then_called, answer_of, pair_drawn}
use Rattle.mechanism.specs.Description.{pair_at}
use Rattle.mechanism.specs.Segments.{outlines_in, described, seg_rows, segs_fit, segs_counted, SameSegs}
use Rattle.mechanism.proofs.SegRows.{put-rows-same}
use Rattle.mechanism.proofs.SameCheck.{check_same}
use Rattle.mechanism.specs.declared.Mechanism.{Mechanism}
use Rattle.mechanism.specs.declared.Outlines.{Outlines}
use Rattle.mechanism.specs.declared.Pairs.{Pairs}
use Rattle.mechanism.specs.declared.Parts.{Parts}
use Rattle.mechanism.specs.declared.pair.ContactPair.{ContactPair}
use Rattle.mechanism.specs.declared.pair.PairGeometry.{PairGeometry}
use Rattle.mechanism.specs.declared.pair.PairGeometry.TheVariants.{Features, CenterBearing}
use Rattle.mechanism.specs.declared.pair.Surface.{Surface}
use Rattle.bodies.specs.Pose.{placement_at, world_of, pose_fits}
use Rattle.bodies.specs.declared.pose.Pose.{Pose}
use Rattle.silhouette.specs.Silhouette.{silhouette_at}
use Rattle.silhouette.proofs.BySegment.{put_same}
use Rattle.sides.proofs.SameCenter.{center_same}
use Rattle.material.specs.Material.{Edge, Material, depth_of, deepest_of}
use Rattle.drawing.specs.Drawing.{body_of_side}
use Rattle.drawing.specs.Samples.{mouths_of, part_samples}
use Rattle.drawing.proofs.Same.{polygons_same, listed_same, mouths-same, samples_same, side_same}
use Rattle.overlap.specs.Overlap.{owners_once, sunk_of, owner_in, overlap_by, pair_overlap, pair_overlap_at, pair_overlap_answer, owners_of, is_in, cut_of_any, list_material, parts_overlap}
use Rattle.std.proofs.Common.{Result}
use Rattle.bodies.specs.Check.{Checked}
use Rattle.bodies.specs.declared.Problem.{Problem}

fold_each : (f g : ℕ → List Point) (m : Material) → ((i : ℕ) → f i ≡ g i) → (l : List ℕ) (d : Float)
    → foldl (λ d i. deepest_of m d (f i)) d l ≡ foldl (λ d i. deepest_of m d (g i)) d l
unfolding foldl
fold_each f g m e [] d = refl
fold_each f g m e (i ∷ l) d = fold_each f g m e l (deepest_of m d (f i)) ∙ ap (λ (x : List Point). foldl (λ d i. deepest_of m d (g i)) (deepest_of m d x) l) (e i)

module _ (ps : Parts) (o o' : Outlines) (same : (i : ℕ) → silhouette_at ps o i ≡ silhouette_at ps o' i) (q : Pose) where
  pub sunk_same : (owner : ℕ → Bool) {m m' : Material} → m ≡ m' → sunk_of ps o q owner m ≡ sunk_of ps o' q owner m'
  sunk_same owner {m} {m'} e =
      ap (λ (x : Material). sunk_of ps o q owner x) e
      ∙ ap (λ (k : List Edge). foldl (λ d i. deepest_of m' d (part_samples ps o q k i)) zero_f (owners_once owner ps.count)) (mouths-same ps o o' same)
      ∙ fold_each (part_samples ps o q (mouths_of ps o')) (part_samples ps o' q (mouths_of ps o')) m' (samples_same ps o o' same q (mouths_of ps o')) (owners_once owner ps.count) zero_f

  by_same : (g : PairGeometry) (a b : Surface) → overlap_by g ps o q a b ≡ overlap_by g ps o' q a b
  by_same Features a b =
      ap₂ (λ (x y : Float). max_of (max_of zero_f x) y)
      (sunk_same (owner_in ps a) (side_same ps o o' same q b true)) (sunk_same (owner_in ps b) (side_same ps o o' same q a true))
  by_same CenterBearing a b =
      ap₂ (λ (m : Material) (c : Point). depth_of m (world_of (placement_at q (body_of_side ps b)) c)) (side_same ps o o' same q a false) (center_same ps o o' same b true)

  overlap_same : (p : ContactPair) → pair_overlap ps o q p ≡ pair_overlap ps o' q p
  unfolding pair_overlap
  overlap_same p = by_same p.geometry p.a p.b

  pub overlap_at_same : (p : ContactPair) → pair_overlap_at ps o q p ≡ pair_overlap_at ps o' q p
  unfolding pair_overlap_at
  overlap_at_same p = ap (λ (x : Float). cond (pair_drawn ps p) x zero_f) (overlap_same p)

  list_same : (l : List ℕ) → list_material ps o q l ≡ list_material ps o' q l
  list_same l = ap₂ (λ (x y : List (List Point)). record { solids = x; cuts = y }) (listed_same ps o o' same q l) (polygons_same ps o o' same q (cut_of_any ps l))

  pub parts_same : (a b : List ℕ) → parts_overlap ps o q a b ≡ parts_overlap ps o' q a b
  unfolding parts_overlap
  parts_same a b = ap₂ max_of (sunk_same (is_in (owners_of ps a)) (list_same (owners_of ps b))) (sunk_same (is_in (owners_of ps b)) (list_same (owners_of ps a)))

max_each : (f g : ℕ → Float) → ((i : ℕ) → f i ≡ g i) → (d : Float) (k j : ℕ) → fold_in (λ d i. max_of d (f i)) d k j ≡ fold_in (λ d i. max_of d (g i)) d k j
unfolding fold_in
max_each f g e d zero j = refl
max_each f g e d (suc k) j = ap (λ (x : Float). fold_in (λ d i. max_of d (f i)) (max_of d x) k (suc j)) (e j) ∙ max_each f g e (max_of d (g j)) k (suc j)

-- ---- rows into which the counted segments were put
put-length : (t : Bool) (l xs : List (List Float)) → length (cond t (sets l 0 xs) l) ≡ length l
put-length true l xs = length-sets l 0 xs
put-length false l xs = refl

-- arrays for k segments have room for n of them
pub put-asks : (ps : Parts) (o : Outlines) (l : List (List Float)) (k : ℕ) {n : ℕ} {rows : List (List Float)} → length l ≡ k → (n ≡ segs_counted ps) × (n ≤ 384) → n ≤ k
    → rows ≡ cond (segs_fit n (length l)) (sets l 0 (seg_rows o n)) l → (segs_counted ps ≤ length rows) × (16 * segs_counted ps ≤ 16 * k) × (2 * segs_counted ps ≤ 2 * k)
put-asks ps o l k {n} room counted h put =
    let e = counted.0 in
    let m = ap length put ∙ put-length (segs_fit n (length l)) l (seg_rows o n) in
    (omega (arith, e, h, m, room), omega (arith, e, h), omega (arith, e, h))

module _ (ps : Parts) (o : Outlines) (l : List (List Float)) {n : ℕ} {rows : List (List Float)} (long : length o.seg ≡ 384) (counted : (n ≡ segs_counted ps) × (n ≤ 384))
    (room : n ≤ length l)
    (put : rows ≡ cond (segs_fit n (length l)) (sets l 0 (seg_rows o n)) l) (q : Pose) where
  pub overlap_put : (p : ContactPair) {d : Float} → d ≡ pair_overlap_at ps (outlines_in rows) q p → d ≡ pair_overlap_at ps o q p
  overlap_put p e = e ∙ overlap_at_same ps (outlines_in rows) o (put_same ps o l long counted room put) q p

  pub pairs-put : (pairs : Pairs) {d : Float} → d ≡ fold_in (λ d i. max_of d (pair_overlap_at ps (outlines_in rows) q (pair_at pairs i))) zero_f pairs.count 0
      → d ≡ fold_in (λ d i. max_of d (pair_overlap_at ps o q (pair_at pairs i))) zero_f pairs.count 0
  pairs-put pairs e =
      e ∙ max_each (λ i. pair_overlap_at ps (outlines_in rows) q (pair_at pairs i)) (λ i. pair_overlap_at ps o q (pair_at pairs i))
      (λ i. overlap_at_same ps (outlines_in rows) o (put_same ps o l long counted room put) q (pair_at pairs i)) zero_f pairs.count 0

  pub parts-put : (a b : List ℕ) {d : Float} → d ≡ parts_overlap ps (outlines_in rows) q a b → d ≡ parts_overlap ps o q a b
  parts-put a b e = e ∙ parts_same ps (outlines_in rows) o (put_same ps o l long counted room put) q a b

pub answer-put : (m : Mechanism) (l : List (List Float)) {n : ℕ} {rows : List (List Float)} → length m.outlines.seg ≡ 384 → (n ≡ segs_counted m.parts) × (n ≤ 384) → n ≤ length l
    → rows ≡ cond (segs_fit n (length l)) (sets l 0 (seg_rows m.outlines n)) l → (q : Pose) (i : ℕ) {r : Result Float Problem}
    → r ≡ pair_overlap_answer (described m.bodies m.parts rows m.pairs) q i → r ≡ pair_overlap_answer m q i
unfolding pair_overlap_answer
answer-put m l {n} {rows} long counted room put q i e =
    let b = counted.1 in
    let segs = put-rows-same m.outlines l (omega (arith, b, long)) b room put in
    e ∙ ap₂ (λ (c : Checked) (x : Float). answer_of (then_called c (pose_fits m.bodies q) (ltb i m.pairs.count) true) x)
    (check_same m (outlines_in rows) (subst (λ (k : ℕ). SameSegs k (outlines_in rows) m.outlines) counted.0 segs))
    (overlap_same m.parts (outlines_in rows) m.outlines (put_same m.parts m.outlines l long counted room put) q (pair_at m.pairs i))
