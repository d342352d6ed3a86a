-- Refusal 7 refuses an outline exactly where a segment is not finite or it is not closed. Assumes nothing.
use Prim.Native.Nat.{ℕ, zero, suc, ◌+◌, ◌%◌, ◌<◌, ◌≤◌}
use native.Mathlib.Omega.{arith}
use native.Mathlib.Nat.{mod-lt}
use mathlib.Core.Path.{◌≡◌, refl, sym, ap, ap₂, ◌∙◌}
use mathlib.Core.Bool.{Bool, true, false, not, ◌&&◌, ◌||◌}
use mathlib.Core.List.{List}
use lib.Dec.{ltb}
use lib.ListN.{length, get_or}
use borrow.Author.Tests.{ltb-true, ltb-false}
use Rattle.laws.specs.Loops.{any_in}
use Rattle.geometry.specs.Geometry.{start_of, end_of}
use Rattle.geometry.specs.declared.Seg.{Seg}
use Rattle.mechanism.specs.Check.{same_point, seg_open, outline_open}
use Rattle.mechanism.specs.Description.{seg_at}
use Rattle.mechanism.specs.declared.Outlines.{Outlines}
use Rattle.silhouette.specs.Silhouette.{no_line, joins_next, closed_of, outline_from, seg_finite, ClosedAs7}
use Rattle.silhouette.proofs.Walks.{closed-few, closed_is}
use Rattle.silhouette.proofs.BySegment.{outline-at, outline-whole}

-- ---- two tests of the same indexes
mix : (a b c d : Bool) → ((a || b) || (c || d)) ≡ ((a || c) || (b || d))
mix true b c d = refl
mix false true true d = refl
mix false true false d = refl
mix false false c d = refl

any-either : (p q r : ℕ → Bool) (k j : ℕ) → ((i : ℕ) → i < j + k → p i ≡ (q i || r i)) → any_in p k j ≡ (any_in q k j || any_in r k j)
unfolding any_in
any-either p q r zero j e = refl
any-either p q r (suc k) j e =
    ap₂ (λ (a b : Bool). a || b) (e j (omega arith)) (any-either p q r k (suc j) (λ i h. e i (omega (arith, h))))
    ∙ mix (q j) (r j) (any_in q k (suc j)) (any_in r k (suc j))

not_both : (a b : Bool) → not (a && b) ≡ (not a || not b)
not_both true b = refl
not_both false b = refl

-- ---- n segments that are all there
module _ (o : Outlines) (first n : ℕ) (there : first + n ≤ length o.seg) where
  abbrev outline : List Seg
  outline = outline_from o first n

  abbrev loose : ℕ → Bool
  loose i = not (seg_finite (seg_at o (first + i)))

  abbrev apart : ℕ → Bool
  apart i = not (joins_next outline i)

  long : length outline ≡ n
  long = outline-whole o first n (omega arith)

  at : (i : ℕ) → i < n → seg_at o (first + i) ≡ get_or outline i no_line
  at i h = let l = long in sym (outline-at o first n i (omega arith) h)

  joined : (i : ℕ) → i < n → same_point (end_of (seg_at o (first + i))) (start_of (seg_at o (first + (i + 1) % n))) ≡ joins_next outline i
  joined i h =
      let m = mod-lt (i + 1) {m = n} (omega (arith, h)) in
      ap₂ (λ (s t : Seg). same_point (end_of s) (start_of t)) (at i h) (at ((i + 1) % n) m)
      ∙ ap (λ (k : ℕ). same_point (end_of (get_or outline i no_line)) (start_of (get_or outline ((i + 1) % k) no_line))) (sym long)

  one-open : (i : ℕ) → i < n → seg_open (seg_at o (first + i)) (seg_at o (first + (i + 1) % n)) ≡ (loose i || apart i)
  one-open i h =
      not_both (seg_finite (seg_at o (first + i))) (same_point (end_of (seg_at o (first + i))) (start_of (seg_at o (first + (i + 1) % n))))
      ∙ ap (λ (b : Bool). loose i || not b) (joined i h)

  by_length : (b : Bool) → ltb n 2 ≡ b → (b || (any_in loose n 0 || any_in apart n 0)) ≡ (any_in loose n 0 || not (closed_of outline))
  by_length true e =
      let h = ltb-true n 2 e in
      let l = long in
      sym (ap (λ (c : Bool). any_in loose n 0 || not c) (closed-few outline (omega arith)) ∙ yes_last (any_in loose n 0))
    where
      yes_last : (a : Bool) → (a || true) ≡ true
      yes_last true = refl
      yes_last false = refl
  by_length false e = sym (ap (λ (c : Bool). any_in loose n 0 || not c) (closed_is outline long (ltb-false n 2 e) refl) ∙ twice (any_in loose n 0) (any_in apart n 0))
    where
      twice : (a b : Bool) → (a || not (not b)) ≡ (a || b)
      twice a true = refl
      twice a false = refl

  open_is : outline_open o first n ≡ (any_in loose n 0 || not (closed_of outline))
  unfolding outline_open
  open_is = ap (λ (b : Bool). ltb n 2 || b) (any-either _ loose apart n 0 (λ i h. one-open i (omega (arith, h)))) ∙ by_length (ltb n 2) refl

pub closed-as_7 : ClosedAs7
closed-as_7 = record { refused = open_is }
