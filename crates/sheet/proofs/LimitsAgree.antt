-- The limits of refusal 3 stand twice: for the lines of a text, and for a description as a value. They agree: lines that keep within the limits make a description that passes none. Assumes nothing.
use Prim.Native.Nat.{ℕ, zero, suc, ◌+◌, ◌-◌, ◌<◌, ◌≤◌}
use Prim.Native.Char.{code}
use native.Mathlib.Omega.{arith}
use native.Mathlib.Numerals.{add-one}
use mathlib.Core.Path.{◌≡◌, refl, sym, ap, subst, ◌∙◌}
use mathlib.Core.Bool.{Bool, true, false, not, cond}
use mathlib.Core.List.{List, [], ◌∷◌}
use lib.Dec.{ltb, eqb}
use lib.ListN.{length, get_or, set}
use lib.Seq.{get_or-set_other, sets}
use borrow.Author.Tests.{le-ltb}
use Rattle.laws.proofs.Choice.{or_no, both}
use Rattle.laws.proofs.Finite.{any-all}
use Rattle.laws.proofs.Sums.{sum-none, sum_more, sum_mono, sum-part, sum_same, sum-scaled}
use Rattle.mechanism.specs.declared.part.Part.{Part}
use Rattle.mechanism.specs.declared.part.OutlineSeg.{OutlineSeg}
use Rattle.mechanism.specs.declared.part.SurfaceRef.{SurfaceRef}
use Rattle.mechanism.specs.declared.pair.Surface.{Surface}
use Rattle.mechanism.specs.declared.pair.ContactPair.{ContactPair}
use Rattle.mechanism.specs.declared.pair.PairGeometry.{PairGeometry}
use Rattle.mechanism.specs.Description.{range_length, side_length, sum_in}
use Rattle.mechanism.specs.Check.{side_over, pair_over, pairs_over, limit_passed, check_of}
use Rattle.mechanism.proofs.Checks.{parts-few}
use Rattle.mechanism.proofs.Refusals.{NotThree, then-not, if_not, check_not}
use Rattle.bodies.specs.Check.{Checked, number_of}
use Rattle.bodies.specs.declared.Problem.{Problem}
use Rattle.bodies.specs.declared.Problem.TheVariants.{TextTooLong, LimitPassed, PoseNotMatching}
use Rattle.text.specs.Lists.{fold_of}
use Rattle.text.specs.Pieces.{split}
use Rattle.text.specs.declared.records.Record.{Record}
use Rattle.text.specs.declared.records.Record.TheVariants.{Coords, Joined, Drawn, Edge, Paired, OnA, OnB, Margin, Turned, Malformed}
use Rattle.sheet.specs.declared.Sheet.{Sheet}
use Rattle.sheet.specs.declared.limits.Side.{Side}
use Rattle.sheet.specs.declared.limits.Tally.{Tally}
use Rattle.sheet.specs.declared.draft.Draft.{Draft}
use Rattle.sheet.specs.Grammar.{no_line}
use Rattle.sheet.specs.Limits.{Bounds, no_side, no_tally, more_side, counted, within_limits}
use Rattle.sheet.specs.Draft.{no_outlines, no_draft, no_range, new_pair, out_part, out_pair, grown, on_a, on_b, put}
use Rattle.sheet.specs.Read.{Lines, stuck, whole, all_within, lines, drafted, edges, accepted, judged, sheet_of_lines, written_in, entries_checked, sheet_checked, kept_if, kept, sheet_of}
use Rattle.sheet.proofs.Counting.{bounds, no_tally-bounds}
use Rattle.std.proofs.Common.{Result, Ok, Err}

-- ---- arrays
-- after a store each place has what was stored, what it had, or, past the end, the value named for that
stored_at : {A : Type 0} (P : A → Type 0) (l : List A) (i k : ℕ) {a d : A} → P a → P d → ((k ≡ i → ⊥) → P (get_or l k d)) → P (get_or (set l i a) k d)
stored_at P [] i k p q h = q
stored_at P (x ∷ l) zero zero p q h = p
stored_at P (x ∷ l) zero (suc k) p q h = h (λ e. omega arith)
stored_at P (x ∷ l) (suc i) zero p q h = h (λ e. omega arith)
stored_at P (x ∷ l) (suc i) (suc k) p q h = stored_at P l i k p q (λ e. h (λ f. e (omega arith)))

-- the place of the store
stored_here : {A : Type 0} (P : A → Type 0) (l : List A) (i : ℕ) {a d : A} → P a → P d → P (get_or (set l i a) i d)
stored_here P l i p q = stored_at P l i i p q (λ e. absurd (e refl))

-- a sum over the places below a store
sum_below : {A : Type 0} (f : A → ℕ) (l : List A) (i : ℕ) (a d : A) → sum_in (λ j. f (get_or (set l i a) j d)) i 0 ≡ sum_in (λ j. f (get_or l j d)) i 0
sum_below f l i a d = sum_same _ _ i (λ j h. ap f (get_or-set_other l i j a d (λ e. omega arith)))

-- ---- the segments of the parts
abbrev segs_at : List Part → ℕ → ℕ
segs_at l i = (get_or l i out_part).segs

-- each of n parts is within its limit, the last has at most `drawn` segments, and all have at most `segs`
record PartsHeld (n drawn segs : ℕ) (l : List Part) : Type 0 where
  each : (i : ℕ) → i < n → segs_at l i ≤ 48
  last : segs_at l (n - 1) ≤ drawn
  sum : sum_in (segs_at l) (n - 1) 0 + drawn ≤ segs

-- the sum with its last number
sum-last : (f : ℕ → ℕ) (n x y : ℕ) → f (n - 1) ≤ x → sum_in f (n - 1) 0 + x ≤ y → sum_in f n 0 ≤ y
sum-last f zero x y h k = let a = sum-none f 0 in omega arith
sum-last f (suc n) x y h k =
    let e : suc n - 1 ≡ n = omega arith in
    let h' : f n ≤ x = rw e at h in
    let k' : sum_in f n 0 + x ≤ y = rw e at k in
    let a = sum_more f n in
    rw (sym (add-one n)) (omega arith)

segments_sum : {n drawn segs : ℕ} (l : List Part) → PartsHeld n drawn segs l → sum_in (segs_at l) n 0 ≤ segs
segments_sum {n} {drawn} {segs} l w = sum-last (segs_at l) n drawn segs w.last w.sum

-- one part more, without segments
segments_part : {n drawn segs : ℕ} (l : List Part) (p : Part) → p.segs ≡ 0 → PartsHeld n drawn segs l → PartsHeld (n + 1) 0 segs (set l n p)
segments_part {n} {drawn} {segs} l p e w =
    let s = segments_sum l w in
    let f : n + 1 - 1 ≡ n = omega arith in
    let b = sum_below (λ (q : Part). q.segs) l n p out_part in
    record {
      each = λ i h. stored_at (λ (q : Part). q.segs ≤ 48) l n i (omega arith) (omega arith) (λ g. w.each i (omega arith));
      last = rw f (stored_here (λ (q : Part). q.segs ≤ 0) l n (omega arith) (omega arith));
      sum = rw f (omega arith);
    }

-- the last part has one segment more
segments_more : {n drawn segs : ℕ} (l : List Part) (p : Part) → drawn + 1 ≤ 48 → p.segs ≡ drawn + 1 → PartsHeld n drawn segs l → PartsHeld n (drawn + 1) (segs + 1) (set l (n - 1) p)
segments_more {n} {drawn} {segs} l p b e w =
    let s = sum_below (λ (q : Part). q.segs) l (n - 1) p out_part in
    record {
      each = λ i h. stored_at (λ (q : Part). q.segs ≤ 48) l (n - 1) i (omega arith) (omega arith) (λ g. w.each i h);
      last = stored_here (λ (q : Part). q.segs ≤ drawn + 1) l (n - 1) (omega arith) (omega arith);
      sum = omega (arith, w.sum);
    }

-- ---- the ranges of a side
abbrev length_at : List SurfaceRef → ℕ → ℕ
length_at l i = range_length (get_or l i no_range)

-- a side has at most as many ranges as its tally, and these at most as many segments
record Ranges (s : Side) (u : Surface) : Type 0 where
  count : u.count ≤ s.ranges
  sum : sum_in (length_at u.range) s.ranges 0 ≤ s.segs

-- a side without ranges
no_ranges : (u : Surface) → u.count ≡ 0 → Ranges no_side u
no_ranges u e = let a = sum-none (length_at u.range) 0 in record { count = omega arith; sum = omega arith }

-- a side past the end of the pairs, which has none
out_ranges : (s : Side) → Ranges s out_pair.a
out_ranges s = let a = sum-scaled 0 (length_at []) (length_at []) (λ i. omega arith) s.ranges 0 in record { count = omega arith; sum = omega arith }

-- one range more
more-ranges : (s : Side) (u : Surface) (x : SurfaceRef) → Ranges s u → Ranges (more_side s x) (grown u s.ranges x)
more-ranges s u x w =
    let n = s.ranges in
    let a = sum_more (length_at (set u.range n x)) n in
    let b = sum_below range_length u.range n x no_range in
    let c : length_at (set u.range n x) n ≤ range_length x = stored_here (λ (r : SurfaceRef). range_length r ≤ range_length x) u.range n (omega arith) (omega arith) in
    record { count = omega arith; sum = omega (arith, w.sum) }

-- a side whose tally keeps within the limits
side-within : (s : Side) (u : Surface) → s.ranges ≤ 4 → s.segs ≤ 12 → Ranges s u → side_over u ≡ false
side-within s u h k w =
    let a = sum_mono (length_at u.range) u.count s.ranges w.count in
    or_no _ (le-ltb 4 u.count (omega (arith, w.count))) ∙ le-ltb 12 (side_length u) (omega (arith, w.sum))

-- ---- the pairs
abbrev pair_of : List ContactPair → ℕ → ContactPair
pair_of l i = get_or l i out_pair

abbrev Sides : Side → Side → ContactPair → Type 0
Sides a b p = Ranges a p.a × Ranges b p.b

-- each of n pairs is within its limits, and a and b are the tallies of the last one's sides
record PairsHeld (n : ℕ) (a b : Side) (l : List ContactPair) : Type 0 where
  each : (i : ℕ) → i < n → pair_over (pair_of l i) ≡ false
  last : Sides a b (pair_of l (n - 1))

-- the limits of a side
record SideBounds (s : Side) : Type 0 where
  ranges : s.ranges ≤ 4
  segs : s.segs ≤ 12

pair-within : (a b : Side) (p : ContactPair) → SideBounds a → SideBounds b → Sides a b p → pair_over p ≡ false
pair-within a b p g h w = or_no _ (side-within a p.a g.ranges g.segs w.0) ∙ side-within b p.b h.ranges h.segs w.1

-- one pair more, without ranges
pairs-pair : {n : ℕ} {a b : Side} (l : List ContactPair) (g : PairGeometry) → PairsHeld n a b l → PairsHeld (n + 1) no_side no_side (set l n (new_pair g))
pairs-pair {n} {a} {b} l g w =
    let f : n + 1 - 1 ≡ n = omega arith in
    let new : Sides no_side no_side (new_pair g) = (no_ranges _ refl, no_ranges _ refl) in
    let out : Sides no_side no_side out_pair = (no_ranges _ refl, no_ranges _ refl) in
    let none : SideBounds no_side = record { ranges = omega arith; segs = omega arith } in
    record {
      each = λ i h. stored_at (λ (p : ContactPair). pair_over p ≡ false) l n i
          (pair-within no_side no_side (new_pair g) none none new) (pair-within no_side no_side out_pair none none out) (λ e. w.each i (omega arith));
      last = rw f (stored_here (Sides no_side no_side) l n new out);
    }

-- the last pair anew
pairs-last : {n : ℕ} {a b : Side} (l : List ContactPair) (a' b' : Side) (p : ContactPair)
    → SideBounds a' → SideBounds b' → Sides a' b' p → PairsHeld n a b l → PairsHeld n a' b' (set l (n - 1) p)
pairs-last {n} {a} {b} l a' b' p g h s w =
    let out : Sides a' b' out_pair = (out_ranges a', out_ranges b') in
    record {
      each = λ i k. stored_at (λ (q : ContactPair). pair_over q ≡ false) l (n - 1) i (pair-within a' b' p g h s) (pair-within a' b' out_pair g h out) (λ e. w.each i k);
      last = stored_here (Sides a' b') l (n - 1) s out;
    }

-- ---- the description that lines make, and their tally
record Holds (t : Tally) (d : Draft) : Type 0 where
  parts : PartsHeld t.parts t.drawn t.segs d.part
  pairs : PairsHeld t.pairs t.a t.b d.pair

a-bounds : {t : Tally} → Bounds t → SideBounds t.a
a-bounds w = record { ranges = w.a_ranges; segs = w.a_segs }

b-bounds : {t : Tally} → Bounds t → SideBounds t.b
b-bounds w = record { ranges = w.b_ranges; segs = w.b_segs }

-- one line more
holds_more : (t : Tally) (d : Draft) (r : Record) → Bounds (counted t r) → Holds t d → Holds (counted t r) (put t d r)
unfolding counted put
holds_more t d (Coords n) b w = record { parts = w.parts; pairs = w.pairs }
holds_more t d (Joined x) b w = record { parts = w.parts; pairs = w.pairs }
holds_more t d (Drawn x r s) b w = record { parts = segments_part d.part _ refl w.parts; pairs = w.pairs }
holds_more t d (Edge g) b w = record { parts = segments_more d.part _ b.drawn refl w.parts; pairs = w.pairs }
holds_more t d (Paired g) b w = record { parts = w.parts; pairs = pairs-pair d.pair g w.pairs }
holds_more t d (OnA x) b w =
    let l = w.pairs.last in
    let p = pair_of d.pair (t.pairs - 1) in
    record { parts = w.parts; pairs = pairs-last d.pair (more_side t.a x) t.b (on_a t.a.ranges x p) (a-bounds b) (b-bounds b) (more-ranges t.a p.a x l.0, l.1) w.pairs }
holds_more t d (OnB x) b w =
    let l = w.pairs.last in
    let p = pair_of d.pair (t.pairs - 1) in
    record { parts = w.parts; pairs = pairs-last d.pair t.a (more_side t.b x) (on_b t.b.ranges x p) (a-bounds b) (b-bounds b) (l.0, more-ranges t.b p.b x l.1) w.pairs }
holds_more t d (Margin m) b w = record { parts = w.parts; pairs = w.pairs }
holds_more t d (Turned e) b w = record { parts = w.parts; pairs = w.pairs }
holds_more t d Malformed b w = w

-- no line
holds-none : Holds no_tally no_draft
unfolding no_draft
holds-none = record {
  parts = record { each = λ i h. omega arith; last = omega arith; sum = let a = sum-none (segs_at no_draft.part) 0 in omega arith };
  pairs = record { each = λ i h. absurd (omega arith); last = (no_ranges _ refl, no_ranges _ refl) };
}

-- ---- no limit is passed
-- a description whose tally keeps within the limits
mechanism_within : (t : Tally) (d : Draft) (l : List OutlineSeg) → Bounds t → Holds t d → limit_passed (accepted t d l).mechanism ≡ false
unfolding limit_passed pairs_over accepted
mechanism_within t d l b w =
    let f = segs_at d.part in
    let s = segments_sum d.part w.parts in
    let total : sum_in f t.parts 0 ≤ 384 = omega (arith, b.segs) in
    or_no _ (or_no _ (le-ltb 15 t.bodies b.bodies) ∙ le-ltb 16 t.coords b.coords)
    ∙ or_no _ (parts-few _ record { count = b.parts; each = w.parts.each; all = λ i h. let a = sum-part f i t.parts h in omega arith; total = total })
    ∙ or_no _ (le-ltb 16 t.pairs b.pairs)
    ∙ any-all _ t.pairs 0 (λ i h k. w.pairs.each i (omega arith))

-- lines that keep within the limits, after others that do
records_within : (rs : List Record) (t : Tally) (d : Draft) (l : List OutlineSeg) → Bounds t → Holds t d → all_within t rs ≡ true
    → limit_passed (accepted (fold_of counted t rs) (drafted t d rs) l).mechanism ≡ false
unfolding all_within drafted fold_of
records_within [] t d l b w e = mechanism_within t d l b w
records_within (r ∷ rs) t d l b w e =
    let h = both (within_limits (counted t r)) (all_within (counted t r) rs) e in
    let c = bounds (counted t r) h.0 in
    records_within rs (counted t r) (put t d r) l c (holds_more t d r c w) h.1

-- what a text writes passes no limit, where it is not refused
abbrev Within : Result Sheet Problem → Type 0
Within (Ok s) = limit_passed s.mechanism ≡ false
Within (Err p) = Unit {0}

lines-within : (w : Lines) → Within (judged w)
lines-within (stuck n) = tt
lines-within (whole rs) = go (all_within no_tally rs) refl
  where
    made : Sheet
    made = accepted (fold_of counted no_tally rs) (drafted no_tally no_draft rs) (sets no_outlines 0 (edges rs))

    go : (b : Bool) → all_within no_tally rs ≡ b → Within (cond b (Ok made) (Err LimitPassed))
    go true e = records_within rs no_tally no_draft (sets no_outlines 0 (edges rs)) no_tally-bounds holds-none e
    go false e = tt

text-within : (text : List ℕ) → Within (written_in text)
unfolding written_in sheet_of_lines
text-within text = go (ltb 65536 (length text))
  where
    go : (b : Bool) → Within (cond b (Err TextTooLong) (sheet_of_lines text))
    go true = tt
    go false = lines-within (lines no_line 1 (split (code "\n") text))

-- the description of a text passes no limit
pub no_limit_passed : (text : List ℕ) {s : Sheet} → written_in text ≡ Ok s → limit_passed s.mechanism ≡ false
no_limit_passed text e = subst Within e (text-within text)

-- 3 is answered for a text only where a line of it passes a limit
pub three_of_lines : (text : List ℕ) → sheet_of text ≡ Err LimitPassed → written_in text ≡ Err LimitPassed
unfolding sheet_of sheet_checked
three_of_lines text e = go (written_in text) (text-within text) e
  where
    go : (w : Result Sheet Problem) → Within w → kept w ≡ Err LimitPassed → w ≡ Err LimitPassed
    go (Err p) h f = f
    go (Ok s) h f = absurd (of_checked (sheet_checked s) (then-not (check_of s.mechanism) (entries_checked s.entries.count s.mechanism.bodies.coords)
        (check_not s.mechanism h) (if_not (not (eqb s.entries.count s.mechanism.bodies.coords)) PoseNotMatching (λ g. omega arith))) f)
      where
        of_checked : (c : Checked) → NotThree c → kept_if c s ≡ Err LimitPassed → ⊥
        of_checked (Ok tt) n g = cc
        of_checked (Err p) n g = let h : p ≡ LimitPassed = cc in n (ap number_of h)
