-- The check of a description asks of its outlines only the segments that its parts count: outlines with the same ones are checked alike. Assumes nothing.
use Prim.Native.Nat.{ℕ, zero, suc, ◌+◌, ◌%◌, ◌<◌, ◌≤◌}
use native.Mathlib.Omega.{arith}
use native.Mathlib.Nat.{mod-lt}
use mathlib.Core.Path.{◌≡◌, refl, sym, ap, ap₂, subst, ◌∙◌}
use mathlib.Core.Bool.{Bool, true, false, ◌||◌, cond}
use mathlib.Core.List.{List}
use lib.Dec.{ltb}
use lib.Ieee.{Float}
use lib.ListN.{length}
use lib.Seq.{sets}
use Rattle.laws.specs.Loops.{any_in, first_in}
use Rattle.laws.proofs.Choice.{or_yes, cond_no}
use Rattle.laws.proofs.Sums.{sum-part}
use Rattle.bodies.specs.Check.{Checked, and_then, refused_if, first_refused, bodies_checked, bodies_lack}
use Rattle.bodies.specs.declared.Problem.TheVariants.{LimitPassed, NoDirection, PartOnNoSuchBody, OutlineNotClosed}
use Rattle.mechanism.specs.Description.{part_at, segs_of, start_of_part}
use Rattle.mechanism.specs.Check.{parts_over, pairs_over, limit_passed, seg_lacks, parts_lack, outlines_lack, seg_open, outline_open, parts_checked, pairs_checked, check_of}
use Rattle.mechanism.specs.Segments.{outlines_in, described, seg_rows, segs_fit, segs_counted, SameSegs}
use Rattle.mechanism.specs.declared.Mechanism.{Mechanism}
use Rattle.mechanism.specs.declared.Outlines.{Outlines}
use Rattle.mechanism.specs.declared.Parts.{Parts}
use Rattle.mechanism.proofs.Checks.{at-limits}
use Rattle.mechanism.proofs.SegRows.{put-rows-same}
use Rattle.std.proofs.Common.{Ok, is_ok}

-- ---- indexes on which two functions agree
any-range : (p q : ℕ → Bool) (k j : ℕ) → ((i : ℕ) → i < j + k → p i ≡ q i) → any_in p k j ≡ any_in q k j
unfolding any_in
any-range p q zero j e = refl
any-range p q (suc k) j e = ap₂ (λ (a b : Bool). a || b) (e j (omega arith)) (any-range p q k (suc j) (λ i h. e i (omega (arith, h))))

first_range : (f g : ℕ → Checked) (k j : ℕ) → ((i : ℕ) → i < j + k → f i ≡ g i) → first_refused f k j ≡ first_refused g k j
unfolding first_in
first_range f g zero j e = refl
first_range f g (suc k) j e =
    ap (λ (c : Checked). cond (is_ok c) (first_in is_ok (Ok tt) f k (suc j)) c) (e j (omega arith))
    ∙ ap (λ (c : Checked). cond (is_ok (g j)) c (g j)) (first_range f g k (suc j) (λ i h. e i (omega (arith, h))))

-- ---- what is asked of the first n segments
module _ {o o' : Outlines} where
  lack_same : {n : ℕ} → SameSegs n o o' → outlines_lack o n ≡ outlines_lack o' n
  unfolding outlines_lack
  lack_same {n} s = any-range _ _ n 0 (λ i h. ap seg_lacks (s.seg i (omega (arith, h))))

  open_same : {total : ℕ} → SameSegs total o o' → (at n : ℕ) → at + n ≤ total → outline_open o at n ≡ outline_open o' at n
  unfolding outline_open
  open_same s at n h =
      ap (λ (b : Bool). ltb n 2 || b)
      (any-range _ _ n 0
      (λ i l.
      let m = mod-lt (i + 1) {m = n} (omega (arith, l)) in
      ap₂ seg_open (s.seg (at + i) (omega (arith, l, h))) (s.seg (at + (i + 1) % n) (omega (arith, m, h)))))

  parts_same : (bodies : ℕ) (p : Parts) → SameSegs (start_of_part p p.count) o o' → parts_checked bodies p o ≡ parts_checked bodies p o'
  unfolding parts_checked
  parts_same bodies p s =
      first_range _ _ p.count 0
      (λ i h. ap (λ (b : Bool). and_then (refused_if (ltb bodies (part_at p i).body) (PartOnNoSuchBody i)) (refused_if b (OutlineNotClosed i)))
      (open_same s (start_of_part p i) (segs_of p i) (sum-part (segs_of p) i p.count (omega (arith, h)))))

-- ---- the whole
over-limit : (m : Mechanism) → parts_over m.parts ≡ true → limit_passed m ≡ true
unfolding limit_passed
over-limit m e = late (ltb 15 m.bodies.count || ltb 16 m.bodies.coords)
  where
    late : (a : Bool) → (a || (parts_over m.parts || pairs_over m.pairs)) ≡ true
    late true = refl
    late false = or_yes (pairs_over m.pairs) e

module _ (m : Mechanism) (o : Outlines) where
  abbrev pub with_outlines : Mechanism
  with_outlines = record { bodies = m.bodies; parts = m.parts; outlines = o; pairs = m.pairs }

  whole_same : SameSegs (start_of_part m.parts m.parts.count) o m.outlines → check_of with_outlines ≡ check_of m
  unfolding check_of limit_passed
  whole_same s =
      ap₂ (λ (t : Bool) (c : Checked).
      and_then (refused_if (limit_passed m) LimitPassed)
      (and_then (bodies_checked m.bodies)
      (and_then (refused_if (bodies_lack m.bodies || (parts_lack m.parts || t)) NoDirection)
      (and_then c (pairs_checked m.parts m.pairs))))) (lack_same s) (parts_same m.bodies.count m.parts s)

  -- where the parts pass a limit, no segment is asked for
  over-same : parts_over m.parts ≡ true → check_of with_outlines ≡ check_of m
  over-same e = at-limits with_outlines (over-limit with_outlines e) ∙ sym (at-limits m (over-limit m e))

  pub check_same : SameSegs (segs_counted m.parts) o m.outlines → check_of with_outlines ≡ check_of m
  check_same s = go (parts_over m.parts) refl
    where
      go : (t : Bool) → parts_over m.parts ≡ t → check_of with_outlines ≡ check_of m
      go true e = over-same e
      go false e = whole_same (subst (λ (n : ℕ). SameSegs n o m.outlines) (cond_no 0 (start_of_part m.parts m.parts.count) e) s)

-- rows into which the counted segments were put are checked as the description
pub check_put : (m : Mechanism) (l : List (List Float)) {n : ℕ} {rows : List (List Float)} {c : Checked} → length m.outlines.seg ≡ 384 → length l ≡ 384
    → (n ≡ segs_counted m.parts) × (n ≤ 384) → rows ≡ cond (segs_fit n (length l)) (sets l 0 (seg_rows m.outlines n)) l
    → c ≡ check_of (described m.bodies m.parts rows m.pairs) → c ≡ check_of m
check_put m l {n} {rows} long room few put e =
    let b = few.1 in
    e ∙ check_same m (outlines_in rows) (subst (λ (k : ℕ). SameSegs k (outlines_in rows) m.outlines) few.0 (put-rows-same m.outlines l (omega (arith, b, long)) b (omega (arith, b, room)) put))
