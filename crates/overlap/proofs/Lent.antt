-- What the lent arrays hold: the material of the chosen parts, the mouths of the cuts and a segment's samples. Assumes nothing.
use Prim.Native.Nat.{ℕ, ◌+◌, ◌*◌, ◌<◌, ◌≤◌}
use native.Mathlib.Omega.{arith}
use mathlib.Core.Path.{◌≡◌, sym, ap, ap₂, ◌∙◌}
use mathlib.Core.Bool.{Bool, cond}
use mathlib.Core.List.{List, map}
use lib.Ieee.{Float}
use lib.ListN.{length, take, length-map}
use lib.Seq.{sets, length-sets}
use Rattle.laws.specs.Lists.{flat}
use Rattle.laws.proofs.Sums.{sum-part}
use Rattle.laws.proofs.Writing.{sets-taken}
use Rattle.geometry.specs.declared.Point.{Point}
use Rattle.geometry.specs.declared.Seg.{Seg}
use Rattle.mechanism.specs.Check.{FewParts}
use Rattle.mechanism.specs.Description.{part_at, segs_of, start_of_part}
use Rattle.mechanism.specs.Segments.{outlines_in}
use Rattle.mechanism.specs.declared.Parts.{Parts}
use Rattle.bodies.specs.Pose.{world_of}
use Rattle.bodies.specs.declared.pose.Placement.{Placement}
use Rattle.bodies.specs.declared.pose.Pose.{Pose}
use Rattle.silhouette.specs.Silhouette.{silhouette_from}
use Rattle.material.specs.Material.{Edge, Material, points_of, deepest_square}
use Rattle.drawing.specs.Drawing.{placed_of, row_of}
use Rattle.drawing.specs.Samples.{mouths_of, samples_of, part_samples, mouth_row, mouths_in, mouth_room}
use Rattle.drawing.proofs.Segments.{from-part}
use Rattle.drawing.proofs.Laid.{points_back, mouths-read}
use Rattle.overlap.specs.Overlap.{sunk_by, sunk_of}

-- ---- the mouths
module _ (ps : Parts) (rows : List (List Float)) (few : FewParts ps) (there : start_of_part ps ps.count ≤ length rows) (l : List (List Float))
    (long : 2 * start_of_part ps ps.count ≤ length l) {n : ℕ} {l' : List (List Float)}
    (drawn : (n ≡ cond (mouth_room ps (length l) (length rows)) (length (mouths_of ps (outlines_in rows))) 0)
    × (l' ≡ cond (mouth_room ps (length l) (length rows)) (sets l 0 (map mouth_row (mouths_of ps (outlines_in rows)))) l)) where
  pub sunk_with : (q : Pose) (owner : ℕ → Bool) (m : Material) {d : Float} → d ≡ sunk_by ps (outlines_in rows) q owner (mouths_in (take n l')) m
      → d ≡ sunk_of ps (outlines_in rows) q owner m
  sunk_with q owner m e = e ∙ ap (λ (k : List Edge). sunk_by ps (outlines_in rows) q owner k m) (mouths-read ps rows few there l long drawn)

-- ---- part i as a loop over rows reads it: its segments start in row `first`
module _ (ps : Parts) (rows : List (List Float)) (few : FewParts ps) (there : start_of_part ps ps.count ≤ length rows) {first : ℕ} (i : ℕ) (h : i < ps.count)
    (e : first ≡ start_of_part ps i) where
  pub part-asks : (segs_of ps i ≤ 48) × (first + segs_of ps i ≤ length rows)
  part-asks =
      let s = sum-part (segs_of ps) i ps.count h in
      (few.each i h, omega (arith, s, e, there))

  pub part-taken : (q : Pose) (mouths : List Edge) (m : Material) (d : Float) {x : Float} {place : Placement} → place ≡ placed_of ps q i
      → x ≡ deepest_square m d (map (world_of place) (flat (samples_of mouths) (silhouette_from (outlines_in rows) first (part_at ps i))))
      → x ≡ deepest_square m d (part_samples ps (outlines_in rows) q mouths i)
  unfolding part_samples
  part-taken q mouths m d p t =
      t ∙ ap₂ (λ (k : Placement) (l : List Seg). deepest_square m d (map (world_of k) (flat (samples_of mouths) l))) p (from-part ps (outlines_in rows) i few h e)

-- ---- points that were written to the front of an array, and are lent from there
pub points_lent : (xs : List Point) (l : List (List Float)) {n : ℕ} {l' : List (List Float)} → n ≡ length xs → l' ≡ sets l 0 (map row_of xs) → length xs ≤ length l
    → points_of (take n l') ≡ xs
points_lent xs l {n} e d h =
    let m = length-map xs row_of in
    ap (λ (x : List (List Float)). points_of (take n x)) d ∙ ap points_of (sets-taken (map row_of xs) l n (m ∙ sym e) (omega (arith, m, h))) ∙ points_back xs

pub written-long : (l xs : List (List Float)) {l' : List (List Float)} {n : ℕ} → l' ≡ sets l 0 xs → length l ≡ n → length l' ≡ n
written-long l xs e h = ap length e ∙ length-sets l 0 xs ∙ h
