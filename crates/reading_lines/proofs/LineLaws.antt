-- What is written after what was written. Assumes nothing.
use Prim.Native.Nat.{ℕ, ◌+◌, ◌<◌, ◌≤◌}
use native.Mathlib.Numerals.{add-one}
use native.Mathlib.Omega.{arith}
use mathlib.Core.Path.{◌≡◌, refl, sym, ap, ap₂, subst, subst₂, ◌∙◌}
use mathlib.Core.List.{List, [], ◌++◌}
use lib.ListN.{length, get_or, drop, length-append, drop_of_length-le}
use lib.Seq.{sets, length-sets, drop-cons}
use lib.Ieee.{Float}
use Rattle.laws.specs.Loops.{Writing}
use Rattle.laws.proofs.Writing.{sets-append, starts, appends, ends, ends-count}
use Rattle.reading_lines.proofs.ReadBack.{length-pattern}
use Rattle.reading_lines.specs.Lines.{Room, Wrote, float_field, float_fields}

pub wrote_then : (xs ys : List ℕ) {l m o : List ℕ} {at k n : ℕ} → Wrote l at xs k m → Wrote m k ys n o → Wrote l at (xs ++ ys) n o
wrote_then xs ys {l} {m} {o} {at} w v = record {
  behind = omega (arith, w.behind, v.behind, length-append xs ys);
  there = v.there ∙ ap₂ (λ (u : List ℕ) (j : ℕ). sets u j ys) w.there w.behind ∙ sym (sets-append xs ys l at);
}

pub wrote_length : {xs l m : List ℕ} {at k : ℕ} → Wrote l at xs k m → length m ≡ length l
wrote_length {xs} {l} {m} {at} w = ap length w.there ∙ length-sets l at xs

pub ruleset writing = (length-append, length-pattern, wrote_length, sets-append)

pub room-first : (xs ys : List ℕ) {l : List ℕ} {at : ℕ} → Room l at (xs ++ ys) → Room l at xs
room-first xs ys h = record { inside = omega (arith, h.inside, length-append xs ys) }

pub room-rest : (xs ys : List ℕ) {l m : List ℕ} {at k : ℕ} → Room l at (xs ++ ys) → Wrote l at xs k m → Room m k ys
room-rest xs ys h w = record { inside = omega (arith, h.inside, w.behind, wrote_length w, length-append xs ys) }

-- the same bytes, said otherwise
pub room_as : {xs ys l : List ℕ} {at : ℕ} → xs ≡ ys → Room l at xs → Room l at ys
room_as {xs} {ys} {l} {at} e = subst (λ (zs : List ℕ). Room l at zs) e

pub wrote_as : {xs ys l m : List ℕ} {at k : ℕ} → ys ≡ xs → Wrote l at xs k m → Wrote l at ys k m
wrote_as {xs} {ys} {l} {m} {at} {k} e = subst (λ (zs : List ℕ). Wrote l at zs k m) (sym e)

-- ---- a float field for each of xs: those from i on are to come
pub record Fields (l : List ℕ) (at : ℕ) (xs : List Float) (out : List ℕ) (k i : ℕ) : Type 0 where
  pub bound : i ≤ length xs
  pub room : Room out k (float_fields (drop i xs))
  pub rest : Writing l at (float_fields xs) out k (float_fields (drop i xs))

pub fields-start : (l : List ℕ) (at : ℕ) (xs : List Float) → Room l at (float_fields xs) → Fields l at xs l at 0
fields-start l at xs h = record { bound = omega arith; room = h; rest = starts refl }

next : (xs : List Float) (i : ℕ) (d : Float) → i < length xs → float_fields (drop i xs) ≡ float_field (get_or xs i d) ++ float_fields (drop (i + 1) xs)
unfolding float_fields
next xs i d h = ap float_fields (drop-cons xs i d h) ∙ ap (λ (j : ℕ). float_field (get_or xs i d) ++ float_fields (drop j xs)) (sym (add-one i))

pub fields-room : (d : Float) {l : List ℕ} {at : ℕ} {xs : List Float} {out : List ℕ} {k i : ℕ} → Fields l at xs out k i → i < length xs → Room out k (float_field (get_or xs i d))
fields-room d {xs} {i} f h = room-first _ _ (room_as (next xs i d h) f.room)

pub fields-more : (d : Float) {l : List ℕ} {at : ℕ} {xs : List Float} {out m : List ℕ} {k n i : ℕ}
    → Fields l at xs out k i → i < length xs → Wrote out k (float_field (get_or xs i d)) n m → Fields l at xs m n (i + 1)
fields-more d {l} {at} {xs} {i} f h w = record {
  bound = omega arith;
  room = room-rest _ _ (room_as (next xs i d h) f.room) w;
  rest = subst₂ (λ (o : List ℕ) (j : ℕ). Writing l at (float_fields xs) o j (float_fields (drop (i + 1) xs))) (sym w.there) (sym w.behind)
      (appends (float_field (get_or xs i d)) (next xs i d h) f.rest);
}

none : (xs : List Float) (i : ℕ) → length xs ≤ i → float_fields (drop i xs) ≡ []
unfolding float_fields
none xs i h = ap float_fields (drop_of_length-le xs h)

pub fields-end : {l : List ℕ} {at : ℕ} {xs : List Float} {out : List ℕ} {k i : ℕ} → Fields l at xs out k i → length xs ≤ i → Wrote l at (float_fields xs) k out
fields-end {xs} {i} f h = record { behind = ends-count (none xs i h) f.rest; there = ends (none xs i h) f.rest }
