-- Every range of a side has between one and twelve segments; a side that the refusals let pass gives ranges of the sizes that reading them asks for. Assumes nothing.
use Prim.Native.Nat.{ℕ, zero, suc, ◌<◌, ◌≤◌}
use native.Mathlib.Omega.{arith}
use mathlib.Core.Path.{◌≡◌, refl, ap, ◌∙◌}
use mathlib.Core.List.{List, [], ◌∷◌, map}
use lib.ListN.{length, take, get_or, length-map}
use lib.Seq.{get_or-take}
use Rattle.laws.proofs.Sums.{sum_mono, sum-part, sum_same}
use Rattle.geometry.specs.declared.Seg.{Seg}
use Rattle.mechanism.specs.Description.{part_at, range_at, no_range, range_length}
use Rattle.mechanism.specs.declared.Parts.{Parts}
use Rattle.mechanism.specs.declared.Outlines.{Outlines}
use Rattle.mechanism.specs.declared.pair.Surface.{Surface}
use Rattle.mechanism.specs.declared.part.Role.{Role}
use Rattle.mechanism.specs.declared.part.Role.TheVariants.{Solid, Cut, Lining}
use Rattle.mechanism.specs.declared.part.SurfaceRef.{SurfaceRef}
use Rattle.silhouette.specs.Silhouette.{silhouette_at}
use Rattle.sides.specs.declared.Traversals.{Traversals}
use Rattle.sides.specs.Features.{Run, run_at, runs_in, no_run, traverse_of, forward_of, backward_of, traversal_of, traversals_of, ranges_of}
use Rattle.sides.specs.Bounds.{Runs, DrawnSide}
use Rattle.sides.proofs.Walked.{run_at_lem, runs_count, no_traversal}

pub sized : (ts : Traversals) (j : ℕ) → j < ts.count → length ts.traversal ≡ 4 → ts.count ≤ 4 → Runs (runs_in ts)
    → (0 < (get_or ts.traversal j no_traversal).count) × ((get_or ts.traversal j no_traversal).count ≤ 12)
sized ts j h l m r =
    let k = runs_count ts (omega arith) in
    let e : (run_at (runs_in ts) j).count ≡ (get_or ts.traversal j no_traversal).count = ap (λ (t : Run). t.count) (run_at_lem ts j h) in
    let s = r.some j (omega arith) in
    let f = r.few in
    let g = sum-part (λ i. (run_at (runs_in ts) i).count) j (length (runs_in ts)) (omega arith) in
    (omega arith, omega arith)

get_or-map_in : {A B : Type 0} (f : A → B) (l : List A) (k : ℕ) (d : B) (e : A) → k < length l → get_or (map f l) k d ≡ f (get_or l k e)
get_or-map_in f [] k d e h = absurd (omega arith)
get_or-map_in f (x ∷ l) zero d e h = refl
get_or-map_in f (x ∷ l) (suc k) d e h = get_or-map_in f l k d e (omega arith)

length-take-most : {A : Type 0} (n : ℕ) (l : List A) → length (take n l) ≤ n
length-take-most zero [] = omega arith
length-take-most (suc n) [] = omega arith
length-take-most zero (x ∷ l) = omega arith
length-take-most (suc n) (x ∷ l) = let h = length-take-most n l in omega arith

traverse_count : (r : SurfaceRef) (sil : List Seg) (w : Role) → (traverse_of r sil w).count ≡ range_length r
unfolding forward_of backward_of
traverse_count r sil Solid = refl
traverse_count r sil Cut = refl
traverse_count r sil Lining = refl

module _ (ps : Parts) (o : Outlines) (u : Surface) (d : DrawnSide ps u) where
  count : length (traversals_of ps o u) ≤ u.count
  count = let a = length-map (ranges_of u) (traversal_of ps o) in let b = length-take-most u.count u.range in omega arith

  one : (k : ℕ) → k < length (traversals_of ps o u) → (run_at (traversals_of ps o u) k).count ≡ range_length (range_at u k)
  one k h =
      let c = count in
      let a = length-map (ranges_of u) (traversal_of ps o) in
      let r = get_or (ranges_of u) k no_range in
      ap (λ (t : Run). t.count) (get_or-map_in (traversal_of ps o) (ranges_of u) k no_run no_range (omega arith))
      ∙ traverse_count r (silhouette_at ps o r.part) (part_at ps r.part).role
      ∙ ap range_length (get_or-take u.count u.range k no_range (omega arith))

  pub drawn-runs : Runs (traversals_of ps o u)
  drawn-runs =
      let n = count in
      let f = d.few in
      let r = d.ranges in
      let e = sum_same (λ j. (run_at (traversals_of ps o u) j).count) (λ j. range_length (range_at u j)) (length (traversals_of ps o u)) one in
      let g = sum_mono (λ j. range_length (range_at u j)) (length (traversals_of ps o u)) u.count n in
      record {
        some = λ k h. let a = one k h in let b = (d.drawn k (omega arith)).some in omega arith;
        few = omega arith;
        ranges = omega arith;
      }
