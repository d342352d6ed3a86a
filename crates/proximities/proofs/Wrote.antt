-- Candidates written into a lent array: nothing, one after the other, and the loops that write those of a list's elements in turn. Assumes nothing.
use Prim.Native.Nat.{ℕ, ◌+◌, ◌*◌, ◌<◌, ◌≤◌}
use native.Mathlib.Omega.{arith}
use native.Mathlib.Numerals.{add-one}
use native.Mathlib.Nat.{add-zero, add_assoc, mul-le-mul, add-mul}
use mathlib.Core.Path.{◌≡◌, refl, sym, ap, subst, ◌∙◌}
use mathlib.Core.Bool.{cond}
use mathlib.Core.List.{List, [], ◌∷◌, ◌++◌, append-nil}
use lib.Dec.{ltb}
use lib.ListN.{length, take, get_or, length-append, length-take}
use lib.Seq.{sets, length-sets, take-suc, take_all}
use borrow.Author.Tests.{lt-ltb}
use Rattle.laws.specs.Lists.{flat}
use Rattle.laws.proofs.Choice.{cond_yes}
use Rattle.laws.proofs.Lists.{flat_append, flat-short}
use Rattle.laws.proofs.Writing.{sets-append}
use Rattle.geometry.specs.Signed.{disc_on_face, disc_on_disc, center_on_face, on_a, on_b}
use Rattle.geometry.specs.declared.Point.{Point}
use Rattle.geometry.specs.declared.signed.Proximity.{Proximity}
use Rattle.mechanism.specs.declared.features.Piece.{Piece}
use Rattle.material.specs.Material.{Material}
use Rattle.sides.specs.declared.PlacedDisc.{PlacedDisc}
use Rattle.sides.specs.declared.PlacedFace.{PlacedFace}
use Rattle.proximities.specs.declared.Candidate.{Candidate}
use Rattle.proximities.specs.Proximities.{reading, kept_if, exchanged, real_of, center_real, read_ab, read_ba, read_discs, read_center, each, Written}
use Rattle.std.proofs.Common.{Option, Some, None}

pub wrote_nothing : (at : ℕ) (out : List Candidate) → Written [] at at out out
wrote_nothing at out = record { end = sym (add-zero at); written = refl }

-- of the same candidates
pub wrote_same : {l m : List Candidate} {at r : ℕ} {before after : List Candidate} → l ≡ m → Written l at r before after → Written m at r before after
wrote_same {at = at} {r} {before} {after} e w = subst (λ (x : List Candidate). Written x at r before after) e w

module _ {x : List Candidate} {at i : ℕ} {before mid : List Candidate} where
  -- one after the other
  pub wrote_both : {y : List Candidate} {r : ℕ} {after : List Candidate} → Written x at i before mid → Written y i r mid after → Written (x ++ y) at r before after
  wrote_both {y} v w = record {
    end = w.end ∙ ap (λ (k : ℕ). k + length y) v.end ∙ add_assoc at (length x) (length y) ∙ ap (λ (k : ℕ). at + k) (sym (length-append x y));
    written =
        w.written ∙ ap (λ (l : List Candidate). sets l i y) v.written ∙ ap (λ (k : ℕ). sets (sets before at x) k y) v.end
        ∙ sym (sets-append x y before at);
  }

  -- the array keeps its length
  pub wrote_length : Written x at i before mid → length mid ≡ length before
  wrote_length w = ap length w.written ∙ length-sets before at x

-- what is written where the array has room, in an array that has it
pub wrote_read : {l : List Candidate} {at r : ℕ} {before after : List Candidate} → at < length before → Written (cond (ltb at (length before)) l []) at r before after → Written l at r before after
wrote_read {l} {at} {before = before} h w = wrote_same (cond_yes l [] (lt-ltb at (length before) h)) w

reading-short : (a b : Piece) (who : ℕ) (found : Option Proximity) → length (reading a b who found) ≤ 1
reading-short a b who None = omega arith
reading-short a b who (Some x) = omega arith

pub ab_short : (m : Material) (d : PlacedDisc) (f : PlacedFace) → length (read_ab m d f) ≤ 1
unfolding read_ab
ab_short m d f = reading-short d.piece f.piece 1 (kept_if (λ x. real_of m x.gap (on_a x)) (disc_on_face d.disc f.face))

pub ba_short : (m : Material) (d : PlacedDisc) (f : PlacedFace) → length (read_ba m d f) ≤ 1
unfolding read_ba
ba_short m d f = reading-short f.piece d.piece 2 (kept_if (λ x. real_of m x.gap (on_b x)) (exchanged (disc_on_face d.disc f.face)))

pub discs_short : (d e : PlacedDisc) → length (read_discs d e) ≤ 1
unfolding read_discs
discs_short d e = reading-short d.piece e.piece 0 (disc_on_disc d.disc e.disc)

pub center_short : (m : Material) (piece : Piece) (c : Point) (f : PlacedFace) → length (read_center m piece c f) ≤ 1
unfolding read_center
center_short m piece c f = reading-short f.piece piece 2 (kept_if (λ x. center_real m c x.gap) (center_on_face c f.face))

-- a reading that is written, by its name
module _ {found : Option Proximity} {at r : ℕ} {before after : List Candidate} where
  pub wrote_ab : (m : Material) (d : PlacedDisc) (f : PlacedFace) → found ≡ kept_if (λ x. real_of m x.gap (on_a x)) (disc_on_face d.disc f.face)
      → Written (reading d.piece f.piece 1 found) at r before after → Written (read_ab m d f) at r before after
  unfolding read_ab
  wrote_ab m d f e w = wrote_same (ap (reading d.piece f.piece 1) e) w

  pub wrote_ba : (m : Material) (d : PlacedDisc) (f : PlacedFace) → found ≡ kept_if (λ x. real_of m x.gap (on_b x)) (exchanged (disc_on_face d.disc f.face))
      → Written (reading f.piece d.piece 2 found) at r before after → Written (read_ba m d f) at r before after
  unfolding read_ba
  wrote_ba m d f e w = wrote_same (ap (reading f.piece d.piece 2) e) w

  pub wrote_discs : (d e : PlacedDisc) → found ≡ disc_on_disc d.disc e.disc → Written (reading d.piece e.piece 0 found) at r before after → Written (read_discs d e) at r before after
  unfolding read_discs
  wrote_discs d e h w = wrote_same (ap (reading d.piece e.piece 0) h) w

  pub wrote_center : (m : Material) (piece : Piece) (c : Point) (f : PlacedFace) → found ≡ kept_if (λ x. center_real m c x.gap) (center_on_face c f.face)
      → Written (reading f.piece piece 2 found) at r before after → Written (read_center m piece c f) at r before after
  unfolding read_center
  wrote_center m piece c f e w = wrote_same (ap (reading f.piece piece 2) e) w

-- those of the first n elements of an array
flat-first-few : {A : Type 0} (f : A → List Candidate) (b : ℕ) → ((x : A) → length (f x) ≤ b) → (l : List A) (n : ℕ) → length (flat f (take n l)) ≤ n * b
flat-first-few f b h l n =
    let s = flat-short f b h (take n l) in
    let t : length (take n l) ≤ n = let e = length-take n l in omega arith in
    let m : length (take n l) * b ≤ n * b = mul-le-mul t (let z : b ≤ b = omega arith in z) in
    omega (arith, s, m)

pub first-few : {A : Type 0} (f : A → List Candidate) → ((x : A) → length (f x) ≤ 1) → (l : List A) (n : ℕ) → length (flat f (take n l)) ≤ n
first-few f h l n = let s = flat-first-few f 1 h l n in omega arith

-- each of the first n elements of an array with each of the first m of another
pub each-few : {A B : Type 0} (f : A → B → List Candidate) → ((x : A) (y : B) → length (f x y) ≤ 1) → (l : List A) (n : ℕ) (r : List B) (m : ℕ) → length (each f (take n l) (take m r)) ≤ n * m
each-few f h l n r m = flat-first-few (λ x. flat (f x) (take m r)) m (λ x. first-few (f x) (h x) r m) l n

-- i of n turns of b each, and one more
pub one_more : (i n b : ℕ) → i < n → i * b + b ≤ n * b
one_more i n b h =
    let m : (i + 1) * b ≤ n * b = mul-le-mul (omega arith) (let z : b ≤ b = omega arith in z) in
    let e = add-mul i 1 b in
    omega arith

-- ---- a loop over the elements of l: those of the first i are written from `at` up to `to`
pub record Wrote {A : Type 0} (f : A → List Candidate) (l : List A) (at to i : ℕ) (before after : List Candidate) : Type 0 where
  pub done : Written (flat f (take i l)) at to before after

pub wrote_start : {A : Type 0} (f : A → List Candidate) (l : List A) (at : ℕ) (out : List Candidate) → Wrote f l at at 0 out out
unfolding flat
wrote_start f l at out = record { done = wrote_nothing at out }

flat-next : {A : Type 0} (f : A → List Candidate) (l : List A) (i : ℕ) (d : A) → i < length l → flat f (take (i + 1) l) ≡ flat f (take i l) ++ f (get_or l i d)
unfolding flat
flat-next {A} f l i d h =
    ap (λ (k : ℕ). flat f (take k l)) (add-one i) ∙ ap (flat f) (take-suc l i d h) ∙ flat_append f (take i l) (get_or l i d ∷ [])
    ∙ ap (λ (m : List Candidate). flat f (take i l) ++ m) (append-nil (f (get_or l i d)))

module _ {A : Type 0} {f : A → List Candidate} {l : List A} {at to i : ℕ} {before mid : List Candidate} (w : Wrote f l at to i before mid) where
  pub wrote_more : {to' : ℕ} {after : List Candidate} (d : A) → i < length l → Written (f (get_or l i d)) to to' mid after → Wrote f l at to' (i + 1) before after
  wrote_more d h v = record { done = wrote_same (sym (flat-next f l i d h)) (wrote_both w.done v) }

  pub wrote_end : length l ≤ i → Written (flat f l) at to before mid
  wrote_end h = wrote_same (ap (flat f) (take_all i l h)) w.done

  -- room for one more turn, where an element gives at most b
  pub wrote_room : (b n : ℕ) → ((x : A) → length (f x) ≤ b) → i < n → at + n * b ≤ length before → to + b ≤ length mid
  wrote_room b n h k p =
      let e = w.done.end in
      let s = flat-first-few f b h l i in
      let o = one_more i n b k in
      let x = wrote_length w.done in
      omega (arith, e, s, o, p, x)

  -- and where an element gives at most one
  pub wrote_one : (n : ℕ) → ((x : A) → length (f x) ≤ 1) → i < n → at + n ≤ length before → to < length mid
  wrote_one n h k p =
      let e = w.done.end in
      let s = flat-first-few f 1 h l i in
      let x = wrote_length w.done in
      omega (arith, e, s, k, p, x)
