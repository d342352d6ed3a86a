-- Walks of an outline, forwards and backwards, its two ends changed, and lists of segments in arrays. Assumes nothing.
use Prim.Native.Nat.{ℕ, suc, ◌+◌, ◌-◌, ◌<◌, ◌≤◌}
use native.Mathlib.Omega.{arith}
use native.Mathlib.Numerals.{add-one}
use native.Mathlib.Nat.{zero-add}
use mathlib.Core.Path.{◌≡◌, refl, sym, ap, ap₂, subst, ◌∙◌}
use mathlib.Core.Bool.{Bool, false, not}
use mathlib.Core.List.{List, [], ◌∷◌, ◌++◌, map, reverse, map-append}
use lib.Ieee.{Float}
use lib.ListN.{length, take, drop, get_or, set, replicate, length-map, length-set, length-append, length-reverse, drop_of_length-le, get_or-map}
use lib.Seq.{sets, get_or-take, take-set-lt, take-take, length-take-le, drop-cons}
use borrow.Author.Tests.{lt-ltb, le-ltb, le-leb, lt-leb}
use Rattle.laws.specs.Fill.{filled}
use Rattle.laws.specs.Loops.{any_in, Writing}
use Rattle.laws.proofs.Choice.{and_yes, and_no, cond_yes, cond_no}
use Rattle.laws.proofs.Fill.{map-drop, reverse_take, map-set, map-take, map_back, take-filled}
use Rattle.laws.proofs.Lists.{get_d_any}
use Rattle.laws.proofs.Writing.{starts, ends, sets-append}
use Rattle.geometry.specs.declared.Seg.{Seg}
use Rattle.mechanism.specs.Description.{no_seg}
use Rattle.mechanism.specs.declared.part.OutlineSeg.{OutlineSeg}
use Rattle.mechanism.specs.declared.part.Sweep.{Sweep}
use Rattle.silhouette.specs.declared.SilhouetteSegs.{SilhouetteSegs}
use Rattle.silhouette.specs.Silhouette.{axis_of, seg_of, boxed, no_line, start_in, end_in, changed, chain_of, turned_seg, mirrored, revolved_of, silhouette_about, silhouette_of, joins_next, closed_of, outline_in, segs_in, as_outline, as_silhouette}
use Rattle.std.proofs.Common.{Option, Some, None}

-- ---- the segments that the first n places of an array hold
abbrev pub held : ℕ → List OutlineSeg → List Seg
held n segs = map seg_of (take n segs)

pub held-long : (n : ℕ) (segs : List OutlineSeg) → n ≤ length segs → length (held n segs) ≡ n
held-long n segs h = length-map (take n segs) seg_of ∙ length-take-le n segs h

pub held_at : (n : ℕ) (segs : List OutlineSeg) (i : ℕ) → n ≤ length segs → i < n → get_or (held n segs) i no_line ≡ seg_of (get_or segs i no_seg)
held_at n segs i l h =
    get_or-map seg_of (take n segs) i (boxed no_line)
    ∙ ap seg_of (get_or-take n segs i (boxed no_line) h ∙ get_d_any segs i (boxed no_line) no_seg (omega arith))

module _ (f : Seg → Seg) (segs : List OutlineSeg) (n i : ℕ) (g : Seg) (l : n ≤ length segs) (h : i < n) (e : g ≡ f (seg_of (get_or segs i no_seg))) where
  inside : i < length (held n segs)
  inside = let k = held-long n segs l in omega arith

  found : f (get_or (held n segs) i no_line) ≡ g
  found = ap f (held_at n segs i l h) ∙ sym e

  -- one segment forwards, and one backwards
  pub walk_up : map boxed (map f (drop i (held n segs))) ≡ boxed g ∷ map boxed (map f (drop (i + 1) (held n segs)))
  walk_up = ap (map boxed) (map-drop f (held n segs) i no_line inside) ∙ ap (λ (x : Seg). boxed x ∷ map boxed (map f (drop (i + 1) (held n segs)))) found

  pub walk-down : map boxed (map f (reverse (take (i + 1) (held n segs)))) ≡ boxed g ∷ map boxed (map f (reverse (take i (held n segs))))
  walk-down = ap (λ (m : List Seg). map boxed (map f m)) (reverse_take (held n segs) i no_line inside) ∙ ap (λ (x : Seg). boxed x ∷ map boxed (map f (reverse (take i (held n segs))))) found

-- forwards, the segments as they are
pub walk-on : (segs : List OutlineSeg) (n i : ℕ) → n ≤ length segs → i < n → map boxed (drop i (held n segs)) ≡ get_or segs i no_seg ∷ map boxed (drop (i + 1) (held n segs))
walk-on segs n i l h =
    let k = held-long n segs l in
    map-drop boxed (held n segs) i no_line (omega arith) ∙ ap (λ (x : Seg). boxed x ∷ map boxed (drop (i + 1) (held n segs))) (held_at n segs i l h)

-- forwards, the places as they are
pub drop-on : (segs : List OutlineSeg) (n i : ℕ) → n ≤ length segs → i < n → drop i (take n segs) ≡ get_or segs i no_seg ∷ drop (i + 1) (take n segs)
drop-on segs n i l h =
    let k : length (take n segs) ≡ n = length-take-le n segs l in
    drop-cons (take n segs) i no_seg (omega arith)
    ∙ ap (λ (x : OutlineSeg). x ∷ drop (suc i) (take n segs)) (get_or-take n segs i no_seg h)
    ∙ ap (λ (j : ℕ). get_or segs i no_seg ∷ drop j (take n segs)) (sym (add-one i))

-- nothing is left
pub up_done : {A : Type 0} (n i : ℕ) (l : List A) → length l ≡ n → n ≤ i → drop i l ≡ []
up_done n i l e h = let k : length l ≤ i = omega arith in drop_of_length-le l k

-- ---- the chain
-- one place changed
changed-at : (f : Seg → Seg) (segs : List OutlineSeg) (m i : ℕ) (g : Seg) → m ≤ length segs → i < m → g ≡ f (seg_of (get_or segs i no_seg)) → held m (set segs i (boxed g)) ≡ changed f i (held m segs)
changed-at f segs m i g l h e =
    ap (map seg_of) (take-set-lt m segs i (boxed g) h) ∙ map-set seg_of (take m segs) i (boxed g) ∙ ap (λ (x : Seg). set (held m segs) i x) (e ∙ ap f (sym (held_at m segs i l h)))

pub chain_law : (segs : List OutlineSeg) (n : ℕ) (g h : Seg) → 2 ≤ n → n ≤ length segs
    → g ≡ start_in (seg_of (get_or segs 0 no_seg)) → h ≡ end_in (seg_of (get_or (set segs 0 (boxed g)) (n - 1 - 1) no_seg))
    → held (n - 1) (set (set segs 0 (boxed g)) (n - 1 - 1) (boxed h)) ≡ chain_of (held n segs)
unfolding chain_of
chain_law segs n g h two l e d =
    let m : length (held n segs) ≡ n = held-long n segs l in
    let k = length-set segs 0 (boxed g) in
    changed-at end_in (set segs 0 (boxed g)) (n - 1) (n - 1 - 1) h (omega arith) (omega arith) d
    ∙ ap (changed end_in (n - 1 - 1)) (changed-at start_in segs (n - 1) 0 g (omega arith) (omega arith) e)
    ∙ ap (λ (s : List Seg). changed end_in (n - 1 - 1) (changed start_in 0 s)) (ap (map seg_of) (sym (take-take (n - 1) n segs (omega arith))) ∙ map-take seg_of (take n segs) (n - 1))
    ∙ ap (λ (k : ℕ). changed end_in (k - 1 - 1) (changed start_in 0 (take (k - 1) (held n segs)))) (sym m)

-- ---- an array of lines that is written
-- every place holds the same at first
pub starts-blank : (n : ℕ) {x d : OutlineSeg} {all : List OutlineSeg} → x ≡ d → Writing (replicate n d) 0 all (replicate n x) 0 all
starts-blank n {x} {d} {all} e = subst (λ (y : OutlineSeg). Writing (replicate n d) 0 all (replicate n y) 0 all) (sym e) (starts refl)

abbrev silhouette_made : ℕ → List OutlineSeg → SilhouetteSegs
silhouette_made k l = record { count = k; seg = l }

-- an array that nothing is written to
pub blank : {x : OutlineSeg} → x ≡ boxed no_line → record { count = 0; seg = replicate 94 x } ≡ as_silhouette []
blank e = ap (λ (x : OutlineSeg). silhouette_made 0 (replicate 94 x)) e

-- the array that a walk leaves, and how many segments it walked
pub silhouette_done : (l : List Seg) {out rest : List OutlineSeg} {m n : ℕ} → length l ≡ m → rest ≡ [] → Writing (replicate 94 (boxed no_line)) 0 (map boxed l) out n rest → record { count = m; seg = out } ≡ as_silhouette l
silhouette_done l k e w = ap₂ silhouette_made (sym k) (ends e w)

-- an outline that is written
pub outline-done : {all out rest : List OutlineSeg} {n i : ℕ} → length all ≡ n → n ≤ 48 → rest ≡ [] → Writing (replicate 48 (boxed no_line)) 0 all out i rest → held n out ≡ map seg_of all
outline-done {all} {out} {n = n} k h e w =
    ap (λ (m : ℕ). held m out) (sym k) ∙ ap (held (length all)) (ends e w) ∙ ap (map seg_of) (take-filled 48 (boxed no_line) all (subst (λ (m : ℕ). m ≤ 48) (sym k) h))

-- the chain, and behind it the mirror
pub revolved_law : (axis : Float) (l : List Seg) (n : ℕ) (t r : SilhouetteSegs) → n ≡ length l → t ≡ as_silhouette (map (turned_seg axis) l)
    → r.count ≡ t.count + n → r.seg ≡ sets t.seg t.count (map boxed (map (mirrored axis) (reverse l))) → r ≡ as_silhouette (revolved_of axis l)
revolved_law axis l n t r k e c s = ap₂ silhouette_made count seg
  where
    there : List Seg
    there = map (turned_seg axis) l

    back : List Seg
    back = map (mirrored axis) (reverse l)

    count : r.count ≡ length (there ++ back)
    count =
        c ∙ ap₂ (λ (a b : ℕ). a + b) (ap (λ (x : SilhouetteSegs). x.count) e) (k ∙ sym (length-map (reverse l) (mirrored axis) ∙ length-reverse l))
        ∙ sym (length-append there back)

    seg : r.seg ≡ filled 94 (boxed no_line) (map boxed (there ++ back))
    seg =
        s ∙ ap (λ (x : SilhouetteSegs). sets x.seg x.count (map boxed back)) e
        ∙ ap (λ (i : ℕ). sets (filled 94 (boxed no_line) (map boxed there)) i (map boxed back)) (sym (zero-add (length (map boxed there)) ∙ length-map there boxed))
        ∙ sym (sets-append (map boxed there) (map boxed back) (replicate 94 (boxed no_line)) 0)
        ∙ ap (filled 94 (boxed no_line)) (sym (map-append boxed there back))

-- ---- Part::silhouette, by the axis that the sweep has
module _ (sweep : Sweep) (l : List Seg) {a : Option Float} (e : a ≡ axis_of sweep) where
  about : silhouette_of sweep l ≡ silhouette_about a l
  unfolding silhouette_of
  about = ap (λ (b : Option Float). silhouette_about b l) (sym e)

  pub about-none : a ≡ None → silhouette_of sweep l ≡ l
  about-none f = about ∙ ap (λ (b : Option Float). silhouette_about b l) f

  pub about-few : {x : Float} → a ≡ Some x → length l < 2 → silhouette_of sweep l ≡ []
  about-few {x} f h = about ∙ ap (λ (b : Option Float). silhouette_about b l) f ∙ cond_yes _ _ (lt-ltb (length l) 2 h)

  pub about-some : {x : Float} → a ≡ Some x → 2 ≤ length l → silhouette_of sweep l ≡ revolved_of x (chain_of l)
  about-some {x} f h = about ∙ ap (λ (b : Option Float). silhouette_about b l) f ∙ cond_no _ _ (le-ltb (length l) 2 h)

-- ---- Part::is_closed
pub closed-few : (l : List Seg) → length l < 2 → closed_of l ≡ false
unfolding closed_of
closed-few l h = and_no _ (lt-leb 2 (length l) h)

-- whether a segment is not joined to the next, asked of the first n
pub closed_is : (l : List Seg) {n : ℕ} {b : Bool} → length l ≡ n → 2 ≤ n → any_in (λ i. not (joins_next l i)) n 0 ≡ b → closed_of l ≡ not b
unfolding closed_of
closed_is l {n} {b} k h e =
    let m : 2 ≤ length l = omega arith in
    and_yes _ (le-leb 2 (length l) m) ∙ ap (λ (j : ℕ). not (any_in (λ i. not (joins_next l i)) j 0)) k ∙ ap not e

-- ---- the segments of an array that holds a list
pub segs_in_lem : (l : List Seg) → length l ≤ 94 → segs_in (as_silhouette l) ≡ l
segs_in_lem l h =
    let k = length-map l boxed in
    ap (λ (n : ℕ). held n (filled 94 (boxed no_line) (map boxed l))) (sym k)
    ∙ ap (map seg_of) (take-filled 94 (boxed no_line) (map boxed l) (omega arith)) ∙ map_back seg_of boxed (λ b. refl) l

pub outline-in : (l : List Seg) → length l ≤ 48 → outline_in (as_outline l) ≡ l
outline-in l h =
    let k = length-map l boxed in
    ap (λ (n : ℕ). held n (filled 48 (boxed no_line) (map boxed l))) (sym k)
    ∙ ap (map seg_of) (take-filled 48 (boxed no_line) (map boxed l) (omega arith)) ∙ map_back seg_of boxed (λ b. refl) l
