-- A silhouette segment by segment, and that it depends on the part's own segments alone. Assumes nothing.
use Prim.Native.Nat.{ℕ, zero, suc, min, ◌+◌, ◌-◌, ◌<◌, ◌≤◌}
use native.Mathlib.Omega.{arith}
use native.Mathlib.Numerals.{add-one}
use mathlib.Core.Path.{◌≡◌, refl, sym, ap, ap₂, subst, ◌∙◌}
use mathlib.Core.Bool.{Bool, true, false, not, cond}
use mathlib.Core.List.{List, [], ◌∷◌, ◌++◌, map, reverse}
use lib.Dec.{eqb, ltb}
use lib.Ieee.{Float, neg}
use lib.ListN.{length, get_or, take, drop, set, length-map, length-set, length-drop, length-reverse, get_or-map, get_or-append, get_or-eq_default}
use lib.Seq.{sets, drop-cons, get_or-take, get_or-drop, get_or-set_same, get_or-set_other, get_or-append-add, length-take-le, take_all, take-length}
use borrow.Author.Tests.{eqb-true, eqb-false, eq-eqb, ne_eqb, ltb-true, ltb-false, le-leb}
use Rattle.laws.proofs.Choice.{and_no, cond_yes, cond_no}
use Rattle.laws.proofs.Fill.{reverse_take}
use Rattle.laws.proofs.Lists.{get_d_any}
use Rattle.laws.proofs.Sums.{sum-part}
use Rattle.ieee.specs.Consts.{one_f}
use Rattle.geometry.specs.declared.Seg.{Seg}
use Rattle.mechanism.specs.Description.{no_seg, seg_at, part_at, segs_of, start_of_part, silhouette_length}
use Rattle.mechanism.specs.Check.{parts_over}
use Rattle.mechanism.specs.Segments.{outlines_in, seg_rows, segs_fit, segs_counted, SameSegs}
use Rattle.mechanism.proofs.SegRows.{rows_long, put-rows-long, put-rows-same}
use Rattle.mechanism.specs.declared.Outlines.{Outlines}
use Rattle.mechanism.specs.declared.Parts.{Parts}
use Rattle.mechanism.specs.declared.part.OutlineSeg.{OutlineSeg}
use Rattle.mechanism.specs.declared.part.Part.{Part}
use Rattle.silhouette.specs.Silhouette.{axis_of, seg_of, boxed, no_line, about_axis, reversed_of, start_in, end_in, changed, chain_of, turned_seg, mirrored, revolved_of, silhouette_of, outline_from, silhouette_from, silhouette_count, is_part, outline_of, silhouette_at}
use Rattle.silhouette.proofs.Lengths.{chain_length, silhouette_length_lem, part_of}
use Rattle.silhouette.proofs.Walks.{about-none, about-few, about-some}
use Rattle.std.proofs.Common.{Option, Some, None}

-- ---- the outline
module _ (o : Outlines) (first n : ℕ) where
  pub outline-at : (k : ℕ) → k < length (outline_from o first n) → k < n → get_or (outline_from o first n) k no_line ≡ seg_at o (first + k)
  outline-at k h b =
      let l = take n (drop first o.seg) in
      let e = length-map l seg_of in
      get_or-map seg_of l k (boxed no_line)
      ∙ ap seg_of (get_d_any l k (boxed no_line) no_seg (omega arith) ∙ get_or-take n (drop first o.seg) k no_seg b ∙ get_or-drop first o.seg k no_seg)

  -- how many segments it has
  pub outline-whole : n ≤ length o.seg - first → length (outline_from o first n) ≡ n
  outline-whole h =
      let d = length-drop first o.seg in
      length-map (take n (drop first o.seg)) seg_of ∙ length-take-le n (drop first o.seg) (omega arith)

  pub outline-rest : length o.seg - first ≤ n → length (outline_from o first n) ≡ length o.seg - first
  outline-rest h =
      let d = length-drop first o.seg in
      length-map (take n (drop first o.seg)) seg_of ∙ ap length (take_all n (drop first o.seg) (omega arith)) ∙ d

  pub outline-within : length (outline_from o first n) ≤ n
  outline-within = go (ltb n (length o.seg - first)) refl
    where
      go : (b : Bool) → ltb n (length o.seg - first) ≡ b → length (outline_from o first n) ≤ n
      go true e = let h = ltb-true n (length o.seg - first) e in let k = outline-whole (omega arith) in omega arith
      go false e = let h = ltb-false n (length o.seg - first) e in let k = outline-rest h in omega arith

-- ---- the chain
changed-get : (f : Seg → Seg) (i : ℕ) (l : List Seg) (k : ℕ) → i < length l → get_or (changed f i l) k no_line ≡ cond (eqb k i) (f (get_or l k no_line)) (get_or l k no_line)
changed-get f i l k h = go (eqb k i) refl
  where
    go : (b : Bool) → eqb k i ≡ b → get_or (changed f i l) k no_line ≡ cond b (f (get_or l k no_line)) (get_or l k no_line)
    go true e =
        let x = eqb-true k i e in
        subst (λ (j : ℕ). get_or (set l i (f (get_or l i no_line))) j no_line ≡ f (get_or l j no_line)) (sym x) (get_or-set_same l i (f (get_or l i no_line)) no_line h)
    go false e = get_or-set_other l i k (f (get_or l i no_line)) no_line (eqb-false k i e)

-- a list backwards
reverse_front : (l : List Seg) (i j : ℕ) (d : Seg) → i ≤ length l → j < i → get_or (reverse (take i l)) j d ≡ get_or l (i - 1 - j) d
reverse_front l zero j d h b = absurd (omega arith)
reverse_front l (suc i) j d h b =
    ap (λ (m : ℕ). get_or (reverse (take m l)) j d) (sym (add-one i)) ∙ ap (λ (m : List Seg). get_or m j d) (reverse_take l i d (omega arith))
    ∙ go j b (λ k x. reverse_front l i k d (omega arith) (omega (arith, x)))
  where
    go : (j : ℕ) → j < suc i → ((k : ℕ) → k < i → get_or (reverse (take i l)) k d ≡ get_or l (i - 1 - k) d) → get_or (get_or l i d ∷ reverse (take i l)) j d ≡ get_or l (suc i - 1 - j) d
    go zero b r = ap (λ (m : ℕ). get_or l m d) (let e : i ≡ suc i - 1 - 0 = omega arith in e)
    go (suc j) b r = r j (omega arith) ∙ ap (λ (m : ℕ). get_or l m d) (let e : i - 1 - j ≡ suc i - 1 - suc j = omega arith in e)

reverse_at : (l : List Seg) (j : ℕ) (d : Seg) → j < length l → get_or (reverse l) j d ≡ get_or l (length l - 1 - j) d
reverse_at l j d h = ap (λ (m : List Seg). get_or (reverse m) j d) (sym (take-length l)) ∙ reverse_front l (length l) j d (omega arith) h

-- two tests that ask the same
last-test : (k n : ℕ) → 2 ≤ n → eqb k (n - 1 - 1) ≡ eqb (k + 2) n
last-test k n h = go (eqb (k + 2) n) refl
  where
    go : (b : Bool) → eqb (k + 2) n ≡ b → eqb k (n - 1 - 1) ≡ b
    go true e = let x = eqb-true (k + 2) n e in eq-eqb k (n - 1 - 1) (omega arith)
    go false e = let x = eqb-false (k + 2) n e in ne_eqb k (n - 1 - 1) (λ y. x (omega arith))

pub chain_at : (l : List Seg) (k : ℕ) → 2 ≤ length l → k + 1 < length l → get_or (chain_of l) k no_line ≡ cond (eqb (k + 2) (length l)) (end_in (cond (eqb k 0) (start_in (get_or l k no_line)) (get_or l k no_line))) (cond (eqb k 0) (start_in (get_or l k no_line)) (get_or l k no_line))
unfolding chain_of
chain_at l k two h =
    let m = length l - 1 in
    let a = changed start_in 0 (take m l) in
    let t : length (take m l) ≡ m = length-take-le m l (omega arith) in
    let b : length a ≡ m = length-set (take m l) 0 (start_in (get_or (take m l) 0 no_line)) ∙ t in
    let y : get_or a k no_line ≡ cond (eqb k 0) (start_in (get_or l k no_line)) (get_or l k no_line) =
    changed-get start_in 0 (take m l) k (omega arith) ∙ ap (λ (s : Seg). cond (eqb k 0) (start_in s) s) (get_or-take m l k no_line (omega arith)) in
    changed-get end_in (m - 1) a k (omega arith) ∙ ap₂ (λ (c : Bool) (s : Seg). cond c (end_in s) s) (last-test k (length l) two) y

-- ---- the chain and its mirror
module _ (l : List Seg) (x : Float) (k : ℕ) where
  abbrev there : List Seg
  there = map (turned_seg x) (chain_of l)

  abbrev back : List Seg
  back = map (mirrored x) (reverse (chain_of l))

  there-long : length there ≡ length l - 1
  there-long = length-map (chain_of l) (turned_seg x) ∙ chain_length l

  back_long : length back ≡ length l - 1
  back_long = length-map (reverse (chain_of l)) (mirrored x) ∙ length-reverse (chain_of l) ∙ chain_length l

  pub turned-there : k < length l - 1 → get_or (revolved_of x (chain_of l)) k no_line ≡ turned_seg x (get_or (chain_of l) k no_line)
  turned-there h =
      let e = there-long in
      get_or-append there back no_line k (omega arith) ∙ get_d_any there k no_line (turned_seg x no_line) (omega arith) ∙ get_or-map (turned_seg x) (chain_of l) k no_line

  at_back : length l - 1 ≤ k → get_or (revolved_of x (chain_of l)) k no_line ≡ get_or back (k - (length l - 1)) no_line
  at_back h =
      let e = there-long in
      let s : k ≡ length there + (k - (length l - 1)) = omega arith in
      ap (λ (j : ℕ). get_or (there ++ back) j no_line) s ∙ get_or-append-add there back (k - (length l - 1)) no_line

  pub turned-back : length l - 1 ≤ k → k - (length l - 1) < length l - 1 → get_or (revolved_of x (chain_of l)) k no_line ≡ mirrored x (get_or (chain_of l) (length l - 1 - 1 - (k - (length l - 1))) no_line)
  turned-back h b =
      let e = back_long in
      let c = chain_length l in
      let j = k - (length l - 1) in
      at_back h ∙ get_d_any back j no_line (mirrored x no_line) (omega arith) ∙ get_or-map (mirrored x) (reverse (chain_of l)) j no_line
      ∙ ap (mirrored x) (reverse_at (chain_of l) j no_line (omega arith) ∙ ap (λ (n : ℕ). get_or (chain_of l) (n - 1 - j) no_line) c)

  turned-past : length l - 1 ≤ k → length l - 1 ≤ k - (length l - 1) → get_or (revolved_of x (chain_of l)) k no_line ≡ no_line
  turned-past h b = let e = back_long in at_back h ∙ get_or-eq_default back no_line (omega arith)

-- ---- a part whose segments are all there
pub count-is : (o : Outlines) (first : ℕ) (p : Part) → p.segs ≤ 48 → p.segs ≤ length o.seg - first → length (silhouette_from o first p) ≡ silhouette_count p
count-is o first p h k =
    silhouette_length_lem p.sweep (outline_from o first p.segs) ∙ ap (silhouette_length p.sweep) (outline-whole o first p.segs k) ∙ sym (cond_yes _ _ (le-leb p.segs 48 h))

-- ---- outlines whose first segments are the same
from-same : {n : ℕ} (o o' : Outlines) → SameSegs n o o' → n ≤ length o.seg → n ≤ length o'.seg → (k j : ℕ) → j + k ≤ n → take k (drop j o.seg) ≡ take k (drop j o'.seg)
from-same o o' s a b zero j h = refl
from-same o o' s a b (suc k) j h =
    ap (take (suc k)) (drop-cons o.seg j no_seg (omega arith))
    ∙ ap₂ (λ (x : OutlineSeg) (l : List OutlineSeg). x ∷ l) (ap boxed (s.seg j (omega arith))) (from-same o o' s a b k (suc j) (omega arith))
    ∙ sym (ap (take (suc k)) (drop-cons o'.seg j no_seg (omega arith)))

module _ (ps : Parts) (o o' : Outlines) (s : SameSegs (start_of_part ps ps.count) o o') (a : start_of_part ps ps.count ≤ length o.seg) (b : start_of_part ps ps.count ≤ length o'.seg) where
  outline-same : (i : ℕ) → i < ps.count → outline_of ps o i ≡ outline_of ps o' i
  unfolding outline_of
  outline-same i h = ap (map seg_of) (from-same o o' s a b (segs_of ps i) (start_of_part ps i) (sum-part (segs_of ps) i ps.count (omega arith)))

  pub silhouette_same : (i : ℕ) → silhouette_at ps o i ≡ silhouette_at ps o' i
  unfolding silhouette_at
  silhouette_same i = go (is_part ps i) refl
    where
      go : (t : Bool) → is_part ps i ≡ t → cond t (silhouette_of (part_at ps i).sweep (outline_of ps o i)) [] ≡ cond t (silhouette_of (part_at ps i).sweep (outline_of ps o' i)) []
      go true e = ap (silhouette_of (part_at ps i).sweep) (outline-same i (part_of ps i e).1)
      go false e = refl

-- rows into which the counted segments were put give the same silhouettes
module _ (ps : Parts) (o : Outlines) (l : List (List Float)) {n : ℕ} {rows : List (List Float)} (long : length o.seg ≡ 384) (counted : (n ≡ segs_counted ps) × (n ≤ 384)) (room : n ≤ length l)
    (put : rows ≡ cond (segs_fit n (length l)) (sets l 0 (seg_rows o n)) l) where
  pub put-long : length (outlines_in rows).seg ≡ length l
  put-long = let b = counted.1 in rows_long rows ∙ put-rows-long o l (omega (arith, b, long)) b room put

  put-segs_same : SameSegs n (outlines_in rows) o
  put-segs_same = let b = counted.1 in put-rows-same o l (omega (arith, b, long)) b room put

  pub put_same : (i : ℕ) → silhouette_at ps (outlines_in rows) i ≡ silhouette_at ps o i
  unfolding silhouette_at
  put_same i = go (parts_over ps) refl
    where
      go : (t : Bool) → parts_over ps ≡ t → silhouette_at ps (outlines_in rows) i ≡ silhouette_at ps o i
      go true e =
          let none = and_no (ltb i ps.count) (ap not e) in
          cond_no _ _ none ∙ sym (cond_no _ _ none)
      go false e =
          let total : n ≡ start_of_part ps ps.count = counted.0 ∙ cond_no _ _ e in
          let b = counted.1 in
          let k = put-long in
          silhouette_same ps (outlines_in rows) o (subst (λ (j : ℕ). SameSegs j (outlines_in rows) o) total put-segs_same) (omega (arith, total, k, room)) (omega (arith, total, b, long)) i

-- ---- what the code asks for
module _ (rows : List (List Float)) (first n : ℕ) where
  pub left-none : length rows ≤ first → (0 ≡ length (outline_from (outlines_in rows) first n)) × (0 ≤ length rows - first)
  left-none h =
      let l = rows_long rows in
      let e = outline-rest (outlines_in rows) first n (omega arith) in
      (omega arith, omega arith)

  pub left-min : {r : ℕ} → r ≡ min n (length rows - first) → (r ≡ length (outline_from (outlines_in rows) first n)) × (r ≤ length rows - first)
  left-min {r} m = go (ltb n (length rows - first)) refl
    where
      go : (b : Bool) → ltb n (length rows - first) ≡ b → (r ≡ length (outline_from (outlines_in rows) first n)) × (r ≤ length rows - first)
      go true t =
          let h = ltb-true n (length rows - first) t in
          let l = rows_long rows in
          let e = outline-whole (outlines_in rows) first n (omega arith) in
          (omega arith, omega arith)
      go false t =
          let h = ltb-false n (length rows - first) t in
          let l = rows_long rows in
          let e = outline-rest (outlines_in rows) first n (omega arith) in
          (omega arith, omega arith)

-- n segments from row `first` on, all of them there
module _ (rows : List (List Float)) (first n k : ℕ) (h : n ≤ length rows - first) where
  abbrev outline : List Seg
  outline = outline_from (outlines_in rows) first n

  here-long : length outline ≡ n
  here-long = let l = rows_long rows in outline-whole (outlines_in rows) first n (omega (arith, h, l))

  pub plain_here : k < n → seg_at (outlines_in rows) (first + k) ≡ get_or outline k no_line
  plain_here b = let l = here-long in sym (outline-at (outlines_in rows) first n k (omega (arith, b, l)) b)

  pub chain_here : {s t r : Seg} → k + 1 < n → s ≡ seg_at (outlines_in rows) (first + k) → t ≡ cond (eqb k 0) (start_in s) s → r ≡ cond (eqb (k + 2) n) (end_in t) t → r ≡ get_or (chain_of outline) k no_line
  chain_here b e f g =
      let l = here-long in
      let x = e ∙ plain_here (omega (arith, b)) in
      g ∙ ap₂ (λ (m : ℕ) (y : Seg). cond (eqb (k + 2) m) (end_in y) y) (sym l) (f ∙ ap (λ (y : Seg). cond (eqb k 0) (start_in y) y) x)
      ∙ sym (chain_at outline k (omega (arith, b, l)) (omega (arith, b, l)))

  module _ (x : Float) where
    pub turned-first : {s r : Seg} → k < n - 1 → s ≡ get_or (chain_of outline) k no_line → r ≡ turned_seg x s → r ≡ get_or (revolved_of x (chain_of outline)) k no_line
    turned-first b e f = let l = here-long in f ∙ ap (turned_seg x) e ∙ sym (turned-there outline x k (omega (arith, b, l)))

    pub turned-second : {s t r : Seg} → n - 1 ≤ k → k - (n - 1) < n - 1 → s ≡ get_or (chain_of outline) (n - 1 - 1 - (k - (n - 1))) no_line → t ≡ about_axis s x (neg one_f) → r ≡ reversed_of t
        → r ≡ get_or (revolved_of x (chain_of outline)) k no_line
    turned-second b d e f g =
        let l = here-long in
        g ∙ ap reversed_of f ∙ ap (mirrored x) (e ∙ ap (λ (m : ℕ). get_or (chain_of outline) (m - 1 - 1 - (k - (m - 1))) no_line) (sym l)) ∙ sym (turned-back outline x k (omega (arith, b, l)) (omega (arith, d, l)))

    pub turned_none : n - 1 ≤ k → n - 1 ≤ k - (n - 1) → no_line ≡ get_or (revolved_of x (chain_of outline)) k no_line
    turned_none b d = let l = here-long in sym (turned-past outline x k (omega (arith, b, l)) (omega (arith, d, l)))

-- as many segments as there are
outline-counted : (o : Outlines) (first m : ℕ) {n : ℕ} → n ≡ length (outline_from o first m) → outline_from o first n ≡ outline_from o first m
outline-counted o first m {n} e = go (ltb m (length o.seg - first)) refl
  where
    go : (b : Bool) → ltb m (length o.seg - first) ≡ b → outline_from o first n ≡ outline_from o first m
    go true t = let h = ltb-true m (length o.seg - first) t in ap (outline_from o first) (e ∙ outline-whole o first m (omega (arith, h)))
    go false t =
        let h = ltb-false m (length o.seg - first) t in
        let d = length-drop first o.seg in
        let k = outline-rest o first m h in
        ap (map seg_of) (take_all n (drop first o.seg) (omega (arith, d, e, k)) ∙ sym (take_all m (drop first o.seg) (omega (arith, d, h))))

module _ (o : Outlines) (first : ℕ) (p : Part) (k : ℕ) {n : ℕ} {a : Option Float} (counted : n ≡ length (outline_from o first p.segs)) (about : a ≡ axis_of p.sweep) where
  pub seg-plain : a ≡ None → get_or (outline_from o first n) k no_line ≡ get_or (silhouette_from o first p) k no_line
  seg-plain e = ap (λ (l : List Seg). get_or l k no_line) (outline-counted o first p.segs counted ∙ sym (about-none p.sweep (outline_from o first p.segs) about e))

  pub seg-few : {x : Float} → a ≡ Some x → n < 2 → no_line ≡ get_or (silhouette_from o first p) k no_line
  seg-few e h = ap (λ (l : List Seg). get_or l k no_line) (sym (about-few p.sweep (outline_from o first p.segs) about e (omega (arith, counted, h))))

  pub seg-turned : {x : Float} → a ≡ Some x → 2 ≤ n → get_or (revolved_of x (chain_of (outline_from o first n))) k no_line ≡ get_or (silhouette_from o first p) k no_line
  seg-turned {x} e h =
      ap (λ (l : List Seg). get_or (revolved_of x (chain_of l)) k no_line) (outline-counted o first p.segs counted)
      ∙ ap (λ (l : List Seg). get_or l k no_line) (sym (about-some p.sweep (outline_from o first p.segs) about e (omega (arith, counted, h))))
