-- What demand 3 needs to know of deciding pieces, and that each choice gives at most one candidate. Assumes nothing.
use Prim.Native.Nat.{ℕ, ◌≤◌}
use native.Mathlib.Omega.{arith}
use mathlib.Core.Path.{sym, ◌∙◌}
use mathlib.Core.Bool.{◌&&◌}
use mathlib.Core.List.{List}
use lib.Dec.{T, eqb, eqb→eq}
use lib.ListN.{length}
use lib.Ieee.Fits.{and_l, and_r, and_i, eq→eqb}
use Rattle.geometry.specs.Signed.{disc_on_face, disc_on_disc, center_on_face, on_a, on_b}
use Rattle.mechanism.specs.Piece.{letter_of, part_of, seg_of, same_piece}
use Rattle.mechanism.specs.declared.features.Piece.{Piece}
use Rattle.showing.specs.Showing.{Alike}
use Rattle.proximities.specs.Proximities.{reading, kept_if, exchanged, real_of, center_real, read_ab, read_ba, read_discs, read_center}
use Rattle.proximities.specs.declared.Candidate.{Candidate}
use Rattle.pair_rows.specs.PairRows.{candidate_at, decides, deciding, alike}
use Rattle.demand3.specs.Demand3.{AtMostOne}
use Rattle.std.proofs.Common.{Option, Some, None}
use Rattle.geometry.specs.declared.signed.Proximity.{Proximity}

-- ---- agreeing is symmetric and transitive
same-sym : (a b : ℕ) → T (eqb a b) → T (eqb b a)
same-sym a b h = eq→eqb (sym (eqb→eq a b h))

same-trans : (a b c : ℕ) → T (eqb a b) → T (eqb b c) → T (eqb a c)
same-trans a b c h k = eq→eqb (eqb→eq a b h ∙ eqb→eq b c k)

-- two pieces agree, in words
record Same (p r : Piece) : Type 0 where
  letter : T (eqb (letter_of p) (letter_of r))
  part : T (eqb (part_of p) (part_of r))
  seg : T (eqb (seg_of p) (seg_of r))

told : (p r : Piece) → T (same_piece p r) → Same p r
told p r h =
    let t = and_r (eqb (letter_of p) (letter_of r)) (eqb (part_of p) (part_of r) && eqb (seg_of p) (seg_of r)) h in
    record {
      letter = and_l (eqb (letter_of p) (letter_of r)) (eqb (part_of p) (part_of r) && eqb (seg_of p) (seg_of r)) h;
      part = and_l (eqb (part_of p) (part_of r)) (eqb (seg_of p) (seg_of r)) t;
      seg = and_r (eqb (part_of p) (part_of r)) (eqb (seg_of p) (seg_of r)) t;
    }

tells : (p r : Piece) → Same p r → T (same_piece p r)
tells p r s =
    and_i (eqb (letter_of p) (letter_of r)) (eqb (part_of p) (part_of r) && eqb (seg_of p) (seg_of r)) s.letter
    (and_i (eqb (part_of p) (part_of r)) (eqb (seg_of p) (seg_of r)) s.part s.seg)

piece-sym : (p r : Piece) → T (same_piece p r) → T (same_piece r p)
piece-sym p r h =
    let s = told p r h in
    tells r p (record { letter = same-sym (letter_of p) (letter_of r) s.letter; part = same-sym (part_of p) (part_of r) s.part; seg = same-sym (seg_of p) (seg_of r) s.seg })

piece-trans : (p r s : Piece) → T (same_piece p r) → T (same_piece r s) → T (same_piece p s)
piece-trans p r s h k =
    let a = told p r h in
    let b = told r s k in
    tells p s (record {
      letter = same-trans (letter_of p) (letter_of r) (letter_of s) a.letter b.letter;
      part = same-trans (part_of p) (part_of r) (part_of s) a.part b.part;
      seg = same-trans (seg_of p) (seg_of r) (seg_of s) a.seg b.seg;
    })

-- ---- two candidates have one deciding piece, in words
record One (c d : Candidate) : Type 0 where
  first : T (decides c)
  second : T (decides d)
  same : T (same_piece (deciding c) (deciding d))

one_told : (c d : Candidate) → T (alike c d) → One c d
one_told c d h =
    let b = and_l (decides c && decides d) (same_piece (deciding c) (deciding d)) h in
    record {
      first = and_l (decides c) (decides d) b;
      second = and_r (decides c) (decides d) b;
      same = and_r (decides c && decides d) (same_piece (deciding c) (deciding d)) h;
    }

one-tells : (c d : Candidate) → One c d → T (alike c d)
one-tells c d o =
    and_i (decides c && decides d) (same_piece (deciding c) (deciding d)) (and_i (decides c) (decides d) o.first o.second) o.same

pub pieces_agree : (cs : List Candidate) → Alike (λ i. decides (candidate_at cs i)) (λ i j. alike (candidate_at cs i) (candidate_at cs j))
pieces_agree cs = record {
  decided = λ i j h. (one_told (candidate_at cs i) (candidate_at cs j) h).first;
  symmetric = λ i j h.
      let o = one_told (candidate_at cs i) (candidate_at cs j) h in
      one-tells (candidate_at cs j) (candidate_at cs i) (record { first = o.second; second = o.first; same = piece-sym (deciding (candidate_at cs i)) (deciding (candidate_at cs j)) o.same });
  transitive = λ i j k g h.
      let a = one_told (candidate_at cs i) (candidate_at cs j) g in
      let b = one_told (candidate_at cs j) (candidate_at cs k) h in
      one-tells (candidate_at cs i) (candidate_at cs k) (record {
        first = a.first;
        second = b.second;
        same = piece-trans (deciding (candidate_at cs i)) (deciding (candidate_at cs j)) (deciding (candidate_at cs k)) a.same b.same;
      });
}

-- ---- at most one candidate a choice
reading-one : (a b : Piece) (who : ℕ) (found : Option Proximity) → length (reading a b who found) ≤ 1
reading-one a b who (Some x) = omega arith
reading-one a b who None = omega arith

pub at_most_one : AtMostOne
unfolding read_ab read_ba read_discs read_center
at_most_one = record {
  disc_of_a = λ s d f. reading-one d.piece f.piece 1 (kept_if (λ x. real_of s x.gap (on_a x)) (disc_on_face d.disc f.face));
  disc_of_b = λ s d f. reading-one f.piece d.piece 2 (kept_if (λ x. real_of s x.gap (on_b x)) (exchanged (disc_on_face d.disc f.face)));
  discs = λ d e. reading-one d.piece e.piece 0 (disc_on_disc d.disc e.disc);
  center = λ s p c f. reading-one f.piece p 2 (kept_if (λ x. center_real s c x.gap) (center_on_face c f.face));
}
