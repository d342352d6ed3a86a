-- The two halves of a turned part's silhouette meet on the axis, at both ends, where the end segments are lines. Assumes nothing.
use Prim.Native.Nat.{ℕ, ◌+◌, ◌-◌, ◌*◌, ◌%◌, ◌<◌}
use native.Mathlib.Nat.{mod-eq_of_lt, mod_self}
use native.Mathlib.Omega.{arith}
use mathlib.Core.Path.{◌≡◌, refl, sym, ap, ◌∙◌}
use mathlib.Core.Bool.{Bool, true, false, false≢true, cond}
use mathlib.Core.List.{List}
use lib.Dec.{eqb}
use lib.ListN.{length, get_or}
use lib.Ieee.{Float, binary64, neg, mul, of_bits, to_bits}
use borrow.Author.Tests.{eq-eqb}
use Rattle.laws.proofs.Choice.{cond_yes, and_yes}
use Rattle.ieee.specs.Consts.{zero_f, one_f}
use Rattle.ieee.specs.Num.{plain_zero}
use Rattle.ieee.specs.Operators.{◌⊕◌, ◌⊗◌}
use Rattle.ieee.proofs.Zeros.{plain-zeros}
use Rattle.geometry.specs.Geometry.{start_of, end_of}
use Rattle.geometry.specs.declared.Point.{Point}
use Rattle.geometry.specs.declared.Seg.{Seg}
use Rattle.geometry.specs.declared.Seg.TheVariants.{Line, Arc}
use Rattle.mechanism.specs.Check.{same_point}
use Rattle.mechanism.specs.declared.part.Sweep.TheVariants.{Revolved}
use Rattle.silhouette.specs.Silhouette.{no_line, shifted_of, sided, about_axis, start_in, end_in, chain_of, turned_seg, mirrored, revolved_of, silhouette_of, joins_next, is_line, HalvesMeet}
use Rattle.silhouette.proofs.Lengths.{silhouette_length_lem}
use Rattle.silhouette.proofs.Walks.{about-some}
use Rattle.silhouette.proofs.BySegment.{chain_at, turned-there, turned-back}

same_point_lem : {p q : Point} → p ≡ q → same_point p q ≡ true
same_point_lem e = and_yes _ (eq-eqb _ _ (ap (λ (r : Point). to_bits binary64 r.x) e)) ∙ eq-eqb _ _ (ap (λ (r : Point). to_bits binary64 r.y) e)

-- ---- a point on the axis, in the chain and in its mirror
module _ (x : Float) where
  abbrev axis : Float
  axis = plain_zero x

  one-zero : one_f ⊗ zero_f ≡ zero_f
  unfolding mul of_bits
  one-zero = refl

  minus-one-zero : neg one_f ⊗ zero_f ≡ neg zero_f
  unfolding mul neg of_bits
  minus-one-zero = refl

  on_axis_lem : (y : Float) → shifted_of (sided one_f (record { x = zero_f; y = y })) axis ≡ shifted_of (sided (neg one_f) (record { x = zero_f; y = y })) axis
  on_axis_lem y =
      ap (λ (a : Float). record { x = a; y = y })
      (ap (λ (z : Float). axis ⊕ z) one-zero ∙ plain-zeros x ∙ ap (λ (z : Float). axis ⊕ z) (sym minus-one-zero))

  far : (c : Bool) (s : Seg) → is_line s ≡ true → end_of (turned_seg axis (end_in (cond c (start_in s) s))) ≡ start_of (mirrored axis (end_in (cond c (start_in s) s)))
  unfolding about_axis
  far true (Line a b) h = on_axis_lem b.y
  far false (Line a b) h = on_axis_lem b.y
  far c (Arc o r from to) h = absurd (false≢true h)

  near : (c : Bool) (s : Seg) → is_line s ≡ true → end_of (mirrored axis (cond c (end_in (start_in s)) (start_in s))) ≡ start_of (turned_seg axis (cond c (end_in (start_in s)) (start_in s)))
  unfolding about_axis
  near true (Line a b) h = sym (on_axis_lem a.y)
  near false (Line a b) h = sym (on_axis_lem a.y)
  near c (Arc o r from to) h = absurd (false≢true h)

  -- ---- an outline of k + 2 segments
  module _ (l : List Seg) (k : ℕ) (e : length l ≡ k + 2) where
    abbrev sil : List Seg
    sil = silhouette_of (Revolved x) l

    sil-is : sil ≡ revolved_of axis (chain_of l)
    sil-is = about-some (Revolved x) l refl refl (omega arith)

    sil-long : length sil ≡ k + 1 + (k + 1)
    sil-long = let n = silhouette_length_lem (Revolved x) l in omega arith

    there : (i : ℕ) → i < k + 1 → get_or sil i no_line ≡ turned_seg axis (get_or (chain_of l) i no_line)
    there i h = ap (λ (m : List Seg). get_or m i no_line) sil-is ∙ turned-there l axis i (omega arith)

    back : (i j : ℕ) → i + j ≡ k → get_or sil (k + 1 + i) no_line ≡ mirrored axis (get_or (chain_of l) j no_line)
    back i j h =
        let n : length l - 1 - 1 - (k + 1 + i - (length l - 1)) ≡ j = omega arith in
        ap (λ (m : List Seg). get_or m (k + 1 + i) no_line) sil-is ∙ turned-back l axis (k + 1 + i) (omega arith) (omega arith)
        ∙ ap (λ (m : ℕ). mirrored axis (get_or (chain_of l) m no_line)) n

    far-meets : is_line (get_or l k no_line) ≡ true → joins_next sil k ≡ true
    far-meets h =
        let n = sil-long in
        let next : (k + 1) % length sil ≡ k + 1 + 0 = mod-eq_of_lt (omega arith) ∙ omega arith in
        let last = chain_at l k (omega arith) (omega arith) ∙ cond_yes _ _ (eq-eqb (k + 2) (length l) (sym e)) in
        same_point_lem
        (ap end_of (there k (omega arith) ∙ ap (turned_seg axis) last) ∙ far (eqb k 0) (get_or l k no_line) h
        ∙ ap start_of (sym (ap (λ (m : ℕ). get_or sil m no_line) next ∙ back 0 k (omega arith) ∙ ap (mirrored axis) last)))

    near-meets : is_line (get_or l 0 no_line) ≡ true → joins_next sil (k + 1 + k) ≡ true
    near-meets h =
        let n = sil-long in
        let next : (k + 1 + k + 1) % length sil ≡ 0 = ap (λ (m : ℕ). m % length sil) (omega arith) ∙ mod_self (length sil) in
        let first = chain_at l 0 (omega arith) (omega arith) in
        same_point_lem
        (ap end_of (back k 0 (omega arith) ∙ ap (mirrored axis) first) ∙ near (eqb 2 (length l)) (get_or l 0 no_line) h
        ∙ ap start_of (sym (ap (λ (m : ℕ). get_or sil m no_line) next ∙ there 0 (omega arith) ∙ ap (turned_seg axis) first)))

pub halves-meet : HalvesMeet
halves-meet = record {
  far_end = λ x l two h. far-meets x l (length l - 2) (omega arith) h;
  near_end = λ x l two h.
      let i : length l - 2 + 1 + (length l - 2) ≡ 2 * (length l - 1) - 1 = omega arith in
      ap (λ (j : ℕ). joins_next (silhouette_of (Revolved x) l) j) (sym i) ∙ near-meets x l (length l - 2) (omega arith) h;
}
