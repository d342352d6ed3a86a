-- The deepest of samples by squares: a turn of the loop over a part's samples, and of the loop over the parts. Assumes nothing.
use Prim.Native.Nat.{ℕ, ◌+◌, ◌-◌, ◌<◌, ◌≤◌}
use native.Mathlib.Nat.{add-zero, sub-zero}
use mathlib.Core.Path.{◌≡◌, sym, ap, ap₂, subst, ◌∙◌}
use mathlib.Core.Bool.{Bool, true, false}
use mathlib.Core.List.{List, ◌++◌, map, map-append}
use lib.ListN.{length, get_or, drop, drop_of_length-le}
use lib.Ieee.{Float}
use Rattle.laws.specs.Lists.{list_in, foldl, flat}
use Rattle.laws.specs.Loops.{filter_in}
use Rattle.laws.proofs.Lists.{foldl-append, foldl-map, flat-drop}
use Rattle.laws.proofs.Loops.{filter-yes, filter-no, filter-done}
use Rattle.ieee.specs.Consts.{zero_f}
use Rattle.ieee.specs.Num.{max_of}
use Rattle.ieee.specs.Root.{root_of}
use Rattle.geometry.specs.declared.Point.{Point}
use Rattle.geometry.specs.declared.Seg.{Seg}
use Rattle.silhouette.specs.Silhouette.{no_line}
use Rattle.bodies.specs.Pose.{placement_at, world_of}
use Rattle.bodies.specs.declared.pose.Placement.{Placement}
use Rattle.bodies.specs.declared.pose.Pose.{Pose}
use Rattle.material.specs.Material.{Material, square_depth, deepest_of, deepest_square}
use Rattle.material.proofs.Squares.{PlainNumber, zero_root, deepest_root, deepest_plain}
use Rattle.strips.specs.Strips.{TableRows, part_at, sampled_at}
use Rattle.strips.specs.declared.PartFacts.{PartFacts}
use Rattle.drawing.proofs.Lays.{turn-from, done-from}
use Rattle.overlap.specs.Prepared.{samples_in}

-- ---- over the samples of a part, f i of them from `first` on, each placed
module _ (m : Material) (place : Point → Point) (f : ℕ → Point) (first count : ℕ) where
  abbrev step : Float → Point → Float
  step x p = max_of x (square_depth m (place p))

  -- what is left to do from sample i on
  abbrev pub squares_from : Float → ℕ → Float
  squares_from d i = foldl step d (list_in f (count - i) (first + i))

  pub squares-start : (d : Float) → squares_from d 0 ≡ deepest_square m d (map place (list_in f count first))
  squares-start d = ap₂ (λ (k j : ℕ). foldl step d (list_in f k j)) (sub-zero count) (add-zero first) ∙ sym (foldl-map (λ x p. max_of x (square_depth m p)) place d (list_in f count first))

  pub squares-more : (d e : Float) (i : ℕ) → i < count → max_of d (square_depth m (place (f (first + i)))) ≡ e → squares_from e (i + 1) ≡ squares_from d i
  unfolding foldl
  squares-more d e i h t = ap (λ (x : Float). foldl step x (list_in f (count - (i + 1)) (first + (i + 1)))) (sym t) ∙ ap (foldl step d) (sym (turn-from f first count i h))

  pub squares-end : (d : Float) (i : ℕ) → count ≤ i → squares_from d i ≡ d
  unfolding foldl
  squares-end d i h = ap (foldl step d) (done-from f first count i h)

-- ---- over the segments of a silhouette, the samples of each placed
module _ (m : Material) (place : Point → Point) (f : Seg → List Point) (sil : List Seg) where
  -- what is left to do from segment k on
  abbrev pub segs_from : Float → ℕ → Float
  segs_from d k = deepest_square m d (map place (flat f (drop k sil)))

  pub segs_more : (d : Float) {e : Float} {s : Seg} (k : ℕ) → k < length sil → s ≡ get_or sil k no_line → e ≡ deepest_square m d (map place (f s)) → segs_from e (k + 1) ≡ segs_from d k
  segs_more d {s = s} k h is t =
      let rest = flat f (drop (k + 1) sil) in
      ap (λ (x : Float). deepest_square m x (map place rest)) t
      ∙ sym (foldl-append (λ x p. max_of x (square_depth m p)) d (map place (f s)) (map place rest))
      ∙ ap (deepest_square m d) (sym (map-append place (f s) rest) ∙ ap (map place) (sym (flat-drop f sil k no_line h ∙ ap (λ (g : Seg). f g ++ rest) (sym is))))

  pub segs_end : (d : Float) (k : ℕ) → length sil ≤ k → segs_from d k ≡ d
  unfolding foldl flat
  segs_end d k h = ap (λ (l : List Seg). deepest_square m d (map place (flat f l))) (drop_of_length-le sil h)

-- ---- over the parts that are sampled, those of n that are chosen
module _ (m : Material) (samples : ℕ → List Point) (chosen : ℕ → Bool) (n : ℕ) where
  abbrev sink : Float → ℕ → Float
  sink d i = deepest_of m d (samples i)

  -- what is left to do from part i on, d being the square of the depth so far
  abbrev pub sunk_from : Float → ℕ → Float
  sunk_from d i = foldl sink (root_of d) (filter_in chosen (n - i) i)

  pub sunk_start : sunk_from zero_f 0 ≡ foldl sink zero_f (filter_in chosen n 0)
  sunk_start = ap₂ (λ (x : Float) (k : ℕ). foldl sink x (filter_in chosen k 0)) zero_root (sub-zero n)

  module _ (d : Float) {e : Float} (i : ℕ) (now : PlainNumber d) (taken : e ≡ deepest_square m d (samples i)) where
    pub sunk_plain : PlainNumber e
    sunk_plain = subst PlainNumber (sym taken) (deepest_plain m (samples i) d now)

    pub sunk_more : i < n → chosen i ≡ true → sunk_from e (i + 1) ≡ sunk_from d i
    unfolding foldl
    sunk_more h t =
        ap (λ (x : Float). foldl sink x (filter_in chosen (n - (i + 1)) (i + 1))) (ap root_of taken ∙ sym (deepest_root m (samples i) d now))
        ∙ ap (foldl sink (root_of d)) (sym (filter-yes chosen n i h t))

  pub sunk_skip : (d : Float) (i : ℕ) → i < n → chosen i ≡ false → sunk_from d (i + 1) ≡ sunk_from d i
  sunk_skip d i h t = ap (foldl sink (root_of d)) (sym (filter-no chosen n i h t))

  pub sunk_end : (d : Float) (i : ℕ) → n ≤ i → sunk_from d i ≡ root_of d
  unfolding foldl
  sunk_end d i h = ap (foldl sink (root_of d)) (filter-done chosen n i h)

-- ---- the samples of a prepared part
module _ (t : TableRows) (q : Pose) (m : Material) (d : Float) {e : Float} {p : PartFacts} {place : Placement} (i : ℕ) (part : p ≡ part_at t i)
    (placed : place ≡ placement_at q p.body) (taken : e ≡ deepest_square m d (map (world_of place) (list_in (sampled_at t) p.samples p.sampled))) where
  pub samples_taken : e ≡ deepest_square m d (samples_in t q i)
  unfolding samples_in
  samples_taken =
      taken ∙ ap (λ (k : Placement). deepest_square m d (map (world_of k) (list_in (sampled_at t) p.samples p.sampled))) placed
      ∙ ap (λ (p : PartFacts). deepest_square m d (map (world_of (placement_at q p.body)) (list_in (sampled_at t) p.samples p.sampled))) part
