-- A range's steps, from the silhouette's segments, and back from the array.
-- Worked is named so that the worked sides are computed before: a wrong definition then fails at a plain example. Assumes nothing.
use Prim.Native.Nat.{ℕ, ◌+◌, ◌-◌, ◌%◌, ◌<◌, ◌≤◌}
use native.Mathlib.Omega.{arith}
use native.Mathlib.Numerals.{add-one}
use native.Mathlib.Nat.{mod-lt}
use mathlib.Core.Path.{◌≡◌, refl, sym, ap, ◌∙◌}
use mathlib.Core.Bool.{Bool, true, false}
use mathlib.Core.List.{List, [], ◌∷◌, ◌++◌, map, reverse, map-append}
use lib.Dec.{eqb}
use lib.Ieee.{Float}
use lib.ListN.{length, take, set, get_or, get_or-map, length-map}
use lib.Seq.{get_or-take, length-take-le, take-suc, take-suc-set}
use Rattle.laws.specs.Fill.{range}
use Rattle.laws.proofs.Choice.{cond_yes, cond_no}
use Rattle.laws.proofs.Fill.{range-turn, range-done}
use Rattle.ieee.specs.Num.{same_of}
use Rattle.geometry.specs.Geometry.{start_of}
use Rattle.geometry.specs.declared.Point.{Point}
use Rattle.geometry.specs.declared.Seg.{Seg}
use Rattle.mechanism.specs.Description.{no_seg, no_range}
use Rattle.mechanism.specs.declared.part.SurfaceRef.{SurfaceRef}
use Rattle.silhouette.specs.Silhouette.{seg_of, segs_in}
use Rattle.silhouette.specs.declared.SilhouetteSegs.{SilhouetteSegs}
use Rattle.silhouette.proofs.Walks.{held_at, held-long}
use Rattle.sides.specs.declared.Step.{Step}
use Rattle.sides.specs.declared.Steps.{Steps}
use Rattle.sides.specs.declared.Traversal.{Traversal}
use Rattle.sides.specs.declared.Traversals.{Traversals}
use Rattle.corners.specs.Corners.{run_back}
use Rattle.sides.specs.Features.{Run, forward_step, backward_step, seg_in, run_of, runs_in, run_at, step_at, no_step, steps_in, forward_of, backward_of, crossing_of}
use Rattle.std.proofs.Common.{Option, Some, None}

module _ (sil : SilhouetteSegs) (i : ℕ) (l : sil.count ≤ length sil.seg) (h : i < sil.count) where
  seg-held : seg_in (segs_in sil) i ≡ seg_of (get_or sil.seg i no_seg)
  seg-held = held_at sil.count sil.seg i l h

  pub forward_at : forward_step (segs_in sil) i ≡ record { named = i % sil.count; starts = i % sil.count; seg = Some (seg_of (get_or sil.seg i no_seg)) }
  forward_at = simp (held-long sil.count sil.seg l, seg-held)

  pub backward_at : (m : Option Seg) → m ≡ run_back (seg_of (get_or sil.seg i no_seg)) → backward_step (segs_in sil) i ≡ record { named = i % sil.count; starts = (i + 1) % sil.count; seg = m }
  backward_at m e = simp (held-long sil.count sil.seg l, seg-held, e)

pub step-at : (t : Traversal) (i : ℕ) → i < t.count → step_at (run_of t) i ≡ get_or t.steps i no_step
step-at t i h = get_or-take t.count t.steps i no_step h

abbrev pub no_traversal : Traversal
no_traversal = record { part = 0; cut = false; count = 0; steps = []; before = None; after = None; wrapped = false; ends = 0 }

pub run_at_lem : (ts : Traversals) (j : ℕ) → j < ts.count → run_at (runs_in ts) j ≡ run_of (get_or ts.traversal j no_traversal)
run_at_lem ts j h = get_or-map run_of (take ts.count ts.traversal) j no_traversal ∙ ap run_of (get_or-take ts.count ts.traversal j no_traversal h)

pub runs_count : (ts : Traversals) → ts.count ≤ length ts.traversal → length (runs_in ts) ≡ ts.count
runs_count ts h = length-map (take ts.count ts.traversal) run_of ∙ length-take-le ts.count ts.traversal h

-- a run by its fields
run_by : (part : ℕ) (cut : Bool) {n n' : ℕ} {steps steps' : List Step} {before before' after after' : Option Seg} {wrapped wrapped' : Bool} {ends ends' : ℕ}
    → n ≡ n' → steps ≡ steps' → before ≡ before' → after ≡ after' → wrapped ≡ wrapped' → ends ≡ ends'
    → ◌≡◌ {A = Run} (record { part = part; cut = cut; count = n; steps = steps; before = before; after = after; wrapped = wrapped; ends = ends })
    (record { part = part; cut = cut; count = n'; steps = steps'; before = before'; after = after'; wrapped = wrapped'; ends = ends' })
run_by part cut p q r s t u = simp (p, q, r, s, t, u)

-- a range forwards and backwards, as the code puts it together
module _ (r : SurfaceRef) (sil : SilhouetteSegs) (s : Steps) (l : sil.count ≤ length sil.seg) (some : r.start < r.end) (within : r.end ≤ sil.count) (count : s.count ≡ r.end - r.start) where
  long : length (segs_in sil) ≡ sil.count
  long = held-long sil.count sil.seg l

  at_before : seg_in (segs_in sil) ((r.start + length (segs_in sil) - 1) % length (segs_in sil)) ≡ seg_of (get_or sil.seg ((r.start + sil.count - 1) % sil.count) no_seg)
  at_before = ap (λ (n : ℕ). seg_in (segs_in sil) ((r.start + n - 1) % n)) long ∙ seg-held sil ((r.start + sil.count - 1) % sil.count) l (mod-lt (r.start + sil.count - 1) (omega arith))

  at_after : seg_in (segs_in sil) (r.end % length (segs_in sil)) ≡ seg_of (get_or sil.seg (r.end % sil.count) no_seg)
  at_after = ap (λ (n : ℕ). seg_in (segs_in sil) (r.end % n)) long ∙ seg-held sil (r.end % sil.count) l (mod-lt r.end (omega arith))

  pub forward_run : steps_in s ≡ map (forward_step (segs_in sil)) (range r.start r.end)
      → ◌≡◌ {A = Run} (record {
        part = r.part;
        cut = false;
        count = s.count;
        steps = steps_in s;
        before = Some (seg_of (get_or sil.seg ((r.start + sil.count - 1) % sil.count) no_seg));
        after = Some (seg_of (get_or sil.seg (r.end % sil.count) no_seg));
        wrapped = eqb (r.end - r.start) sil.count;
        ends = r.end % sil.count;
      }) (forward_of r (segs_in sil))
  unfolding forward_of
  forward_run e = run_by r.part false count e (ap Some (sym at_before)) (ap Some (sym at_after)) (ap (eqb (r.end - r.start)) (sym long)) (ap (λ (n : ℕ). r.end % n) (sym long))

  pub backward_run : (b a : Option Seg) → steps_in s ≡ map (backward_step (segs_in sil)) (reverse (range r.start r.end))
      → b ≡ run_back (seg_of (get_or sil.seg (r.end % sil.count) no_seg)) → a ≡ run_back (seg_of (get_or sil.seg ((r.start + sil.count - 1) % sil.count) no_seg))
      → ◌≡◌ {A = Run} (record { part = r.part; cut = true; count = s.count; steps = steps_in s; before = b; after = a; wrapped = eqb (r.end - r.start) sil.count; ends = r.start })
      (backward_of r (segs_in sil))
  unfolding backward_of
  backward_run b a e p q = run_by r.part true count e (p ∙ ap run_back (sym at_after)) (q ∙ ap run_back (sym at_before)) (ap (eqb (r.end - r.start)) (sym long)) refl

-- ---- the first point on the axis
abbrev starts : List Seg → ℕ → ℕ → List Point
starts l i past = map (λ j. start_of (seg_in l j)) (range i past)

module _ (axis : Float) (l : List Seg) (i past : ℕ) where
  starts-turn : {q : Point} → i < past → q ≡ start_of (seg_in l i) → starts l i past ≡ q ∷ starts l (i + 1) past
  starts-turn h e = ap (map (λ j. start_of (seg_in l j))) (range-turn i past h) ∙ ap (λ (p : Point). p ∷ starts l (i + 1) past) (sym e)

  pub cross_hit : {q : Point} → i < past → q ≡ start_of (seg_in l i) → same_of q.x axis ≡ true → Some q ≡ crossing_of axis (starts l i past)
  unfolding crossing_of
  cross_hit h e t = sym (ap (crossing_of axis) (starts-turn h e) ∙ cond_yes _ _ t)

  pub cross_miss : {q : Point} → i < past → q ≡ start_of (seg_in l i) → same_of q.x axis ≡ false → crossing_of axis (starts l (i + 1) past) ≡ crossing_of axis (starts l i past)
  unfolding crossing_of
  cross_miss h e t = sym (ap (crossing_of axis) (starts-turn h e) ∙ cond_no _ _ t)

  pub cross_none : past ≤ i → None ≡ crossing_of axis (starts l i past)
  unfolding crossing_of
  cross_none h = sym (ap (λ (m : List ℕ). crossing_of axis (map (λ j. start_of (seg_in l j)) m)) (range-done i past h))

-- ---- one traversal more
pub runs_more : (f : SurfaceRef → Run) (all : List Traversal) (ranges : List SurfaceRef) (k : ℕ) (t : Traversal) → k < length all → k < length ranges
    → run_of t ≡ f (get_or ranges k no_range) → map run_of (take k all) ≡ map f (take k ranges) → map run_of (take (k + 1) (set all k t)) ≡ map f (take (k + 1) ranges)
runs_more f all ranges k t h g e w =
    ap (λ (i : ℕ). map run_of (take i (set all k t))) (add-one k) ∙ ap (map run_of) (take-suc-set all k t h) ∙ map-append run_of (take k all) (t ∷ [])
    ∙ ap (λ (l : List Run). l ++ (run_of t ∷ [])) w ∙ ap (λ (r : Run). map f (take k ranges) ++ (r ∷ [])) e
    ∙ sym (map-append f (take k ranges) (get_or ranges k no_range ∷ [])) ∙ ap (map f) (sym (take-suc ranges k no_range g)) ∙ ap (λ (i : ℕ). map f (take i ranges)) (sym (add-one k))
