-- A loop over the elements of a list, the ends of a piece, the first face with it, and the ends written into a lent array. Assumes nothing.
use Prim.Native.Nat.{ℕ, ◌+◌, ◌*◌, ◌<◌, ◌≤◌}
use native.Mathlib.Omega.{arith}
use native.Mathlib.Numerals.{add-one}
use mathlib.Core.Path.{◌≡◌, refl, sym, ap, ap₂, subst, ◌∙◌}
use mathlib.Core.Bool.{true, false}
use mathlib.Core.List.{List, [], ◌∷◌, ◌++◌, map}
use lib.Ieee.{Float}
use lib.ListN.{length, drop, get_or, set, drop_of_length-le, length-map}
use lib.Seq.{sets, drop-cons}
use Rattle.laws.specs.Lists.{flat}
use Rattle.laws.specs.Loops.{Writing}
use Rattle.laws.proofs.Choice.{cond_yes, cond_no}
use Rattle.laws.proofs.Writing.{starts, goes_on, puts, ends-count, ends}
use Rattle.geometry.specs.declared.Point.{Point}
use Rattle.mechanism.specs.Piece.{same_piece}
use Rattle.mechanism.specs.declared.features.Piece.{Piece}
use Rattle.sides.specs.Features.{no_disc, no_face}
use Rattle.sides.specs.declared.PlacedDisc.{PlacedDisc}
use Rattle.sides.specs.declared.PlacedFace.{PlacedFace}
use Rattle.bearings.specs.Bearing.{start_of_disc, end_of_disc, ends_if, ends_of, first_of, face_named, spot_of}
use Rattle.std.proofs.Common.{Some, None}

-- ---- a loop over the n elements of a list: x is element i as the code reads it; and the end
module _ {A : Type 0} (l : List A) (i : ℕ) {n : ℕ} (all : n ≡ length l) where
  pub next_of : (d : A) {x : A} → i < n → x ≡ get_or l i d → drop i l ≡ x ∷ drop (i + 1) l
  next_of d h e =
      drop-cons l i d (omega arith) ∙ ap (λ (j : ℕ). get_or l i d ∷ drop j l) (sym (add-one i))
      ∙ ap (λ (y : A). y ∷ drop (i + 1) l) (sym e)

  pub none_of : n ≤ i → drop i l ≡ []
  none_of h = drop_of_length-le l (omega arith)

-- ---- the first face with the piece
module _ (piece : Piece) (l : List PlacedFace) (i : ℕ) {n : ℕ} (all : n ≡ length l) where
  module _ {x : PlacedFace} (h : i < n) (r : x ≡ get_or l i no_face) where
    pub named-yes : same_piece x.piece piece ≡ true → face_named piece (drop i l) ≡ Some x.face
    unfolding face_named
    named-yes e = ap (face_named piece) (next_of l i all no_face h r) ∙ cond_yes _ _ e

    pub named-no : same_piece x.piece piece ≡ false → face_named piece (drop i l) ≡ face_named piece (drop (i + 1) l)
    unfolding face_named
    named-no e = ap (face_named piece) (next_of l i all no_face h r) ∙ cond_no _ _ e

  pub named_none : n ≤ i → face_named piece (drop i l) ≡ None
  unfolding face_named
  named_none h = ap (face_named piece) (none_of l i all h)

-- ---- the ends of the discs with the piece
module _ (piece : Piece) (l : List PlacedDisc) (i : ℕ) {n : ℕ} (all : n ≡ length l) where
  module _ {x : PlacedDisc} (h : i < n) (r : x ≡ get_or l i no_disc) where
    abbrev rest : List Point
    rest = flat (ends_if piece) (drop (i + 1) l)

    ends-yes : same_piece x.piece piece ≡ true → ends_of piece (drop i l) ≡ start_of_disc x.disc ∷ end_of_disc x.disc ∷ ends_of piece (drop (i + 1) l)
    unfolding ends_of flat
    ends-yes e =
        ap (flat (ends_if piece)) (next_of l i all no_disc h r)
        ∙ ap (λ (y : List Point). y ++ rest) (cond_yes (start_of_disc x.disc ∷ end_of_disc x.disc ∷ []) [] e)

    ends-no : same_piece x.piece piece ≡ false → ends_of piece (drop i l) ≡ ends_of piece (drop (i + 1) l)
    unfolding ends_of flat
    ends-no e =
        ap (flat (ends_if piece)) (next_of l i all no_disc h r)
        ∙ ap (λ (y : List Point). y ++ rest) (cond_no (start_of_disc x.disc ∷ end_of_disc x.disc ∷ []) [] e)

    -- the first one
    pub first-yes : {a : Point} → same_piece x.piece piece ≡ true → a ≡ start_of_disc x.disc → first_of (ends_of piece (drop i l)) ≡ Some a
    first-yes e f = ap first_of (ends-yes e) ∙ ap Some (sym f)

    pub first-no : same_piece x.piece piece ≡ false → first_of (ends_of piece (drop i l)) ≡ first_of (ends_of piece (drop (i + 1) l))
    first-no e = ap first_of (ends-no e)

  ends-none : n ≤ i → ends_of piece (drop i l) ≡ []
  unfolding ends_of flat
  ends-none h = ap (flat (ends_if piece)) (none_of l i all h)

  pub first-none : n ≤ i → first_of (ends_of piece (drop i l)) ≡ None
  first-none h = ap first_of (ends-none h)

-- ---- The ends of the first i discs are written from the front up to `at`.
pub record Put (piece : Piece) (l : List PlacedDisc) (out₀ out : List (List Float)) (at i : ℕ) : Type 0 where
  pub few : at ≤ 2 * i
  pub writes : Writing out₀ 0 (map spot_of (ends_of piece l)) out at (map spot_of (ends_of piece (drop i l)))

pub put-start : (piece : Piece) (l : List PlacedDisc) (out : List (List Float)) → Put piece l out out 0 0
put-start piece l out = record { few = omega arith; writes = starts refl }

module _ {piece : Piece} {l : List PlacedDisc} {out₀ out : List (List Float)} {at i : ℕ} (w : Put piece l out₀ out at i) where
  pub put-long : length out ≡ length out₀
  put-long = w.writes.long

  module _ {n : ℕ} (all : n ≡ length l) where
    -- disc i has the piece: a and b are its ends
    pub put_two : {x : PlacedDisc} {a b : Point} → i < n → x ≡ get_or l i no_disc → same_piece x.piece piece ≡ true → a ≡ start_of_disc x.disc → b ≡ end_of_disc x.disc
        → Put piece l out₀ (set (set out at (spot_of a)) (at + 1) (spot_of b)) (at + 2) (i + 1)
    put_two {x} {a} {b} h r e f g =
        let k = w.few in
        let z : at + 1 + 1 ≡ at + 2 = omega arith in
        record {
          few = omega arith;
          writes = subst (λ (j : ℕ). Writing out₀ 0 (map spot_of (ends_of piece l)) both j rest) z (puts refl (puts two w.writes));
        }
      where
        rest : List (List Float)
        rest = map spot_of (ends_of piece (drop (i + 1) l))

        both : List (List Float)
        both = set (set out at (spot_of a)) (at + 1) (spot_of b)

        two : map spot_of (ends_of piece (drop i l)) ≡ spot_of a ∷ spot_of b ∷ rest
        two = ap (map spot_of) (ends-yes piece l i all h r e) ∙ ap₂ (λ (y : Point) (z : Point). spot_of y ∷ spot_of z ∷ rest) (sym f) (sym g)

    -- it has not
    pub put-no : {x : PlacedDisc} → i < n → x ≡ get_or l i no_disc → same_piece x.piece piece ≡ false → Put piece l out₀ out at (i + 1)
    put-no h r e =
        let k = w.few in
        record { few = omega arith; writes = goes_on (ap (map spot_of) (ends-no piece l i all h r e)) w.writes }

    pub put-done : n ≤ 28 → i ≤ n → n ≤ i → (at ≡ length (ends_of piece l)) × (at ≤ 56) × (out ≡ sets out₀ 0 (map spot_of (ends_of piece l)))
    put-done few far h =
        let k = w.few in
        let z : map spot_of (ends_of piece (drop i l)) ≡ [] = ap (map spot_of) (ends-none piece l i all h) in
        let every = ends_of piece l in
        let c = ends-count z w.writes in
        let m = length-map every spot_of in
        (omega (arith, c, m), omega arith, ends z w.writes)
