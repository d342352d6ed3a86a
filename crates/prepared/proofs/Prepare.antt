-- After `prepare` of an accepted description the lent arrays hold its tables, and what is read over them is what the description gives. Assumes nothing.
use Prim.Native.Nat.{ℕ, ◌*◌, ◌≤◌}
use native.Mathlib.Omega.{arith}
use native.Mathlib.Nat.{le_of_eq, mul-le-mul_left, mul-le-mul_right}
use mathlib.Core.Path.{◌≡◌, refl, sym, ap, subst}
use mathlib.Core.List.{List, map}
use lib.Ieee.{Float}
use lib.ListN.{length, take, length-map}
use lib.Seq.{sets}
use Rattle.laws.specs.Lists.{flat}
use Rattle.laws.proofs.Lists.{flat-short, list_length}
use Rattle.laws.proofs.Writing.{sets-taken}
use Rattle.geometry.specs.declared.Point.{Point}
use Rattle.mechanism.specs.Check.{check_of, Few}
use Rattle.mechanism.specs.Description.{pair_at, segs_of}
use Rattle.mechanism.specs.declared.Mechanism.{Mechanism}
use Rattle.mechanism.proofs.Checks.{accepted-few}
use Rattle.drawing.specs.Drawing.{row_of}
use Rattle.tables.specs.Tables.{of_pair, lent_rows, prepared_over}
use Rattle.drawing.specs.Points.{up_to, Agrees, drawn_of, sampled_of, part_table}
use Rattle.tables.specs.Tables.{pair_faces, pair_face_names, pair_discs, pair_disc_names, pair_sides, pair_centers, pair_choices}
use Rattle.tables.specs.declared.Arrays.{Arrays}
use Rattle.tables.proofs.Known.{pair-faces, pair-face-names, pair-discs, pair-disc_names}
use Rattle.drawing.proofs.Puts.{up-within, drawn-each, sampled_each}
use Rattle.drawing.proofs.ReadBack.{sets-agrees, table_long}
use Rattle.prepared.specs.Prepared.{Holds, Lent, PrepareReads}
use Rattle.prepared.proofs.Whole.{prepared_reads}
use Rattle.std.proofs.Common.{Ok}
use Rattle.bodies.specs.Check.{Checked}

module _ (m : Mechanism) (few : Few m) where
  -- a table of c rows a pair, with room
  of-pairs : {A : Type 0} (f : ℕ → List (List A)) (c : ℕ) → ((i : ℕ) → length (f i) ≡ c) → (l : List (List A)) → length l ≡ 16 * c
      → Agrees (sets l 0 (flat f (up_to m.pairs.count))) (flat f (up_to m.pairs.count))
  of-pairs f c long l x =
      let n = m.pairs.count in
      let a = flat-short f c (λ i. le_of_eq (long i)) (up_to n) in
      let b = ap (λ (k : ℕ). k * c) (list_length (λ i. i) n 0) in
      let d = mul-le-mul_right c few.pairs.count in
      sets-agrees l (flat f (up_to n)) (omega (arith, a, b, d, x))

  -- a table of the parts' points, at most c for a segment
  of_parts : (f : ℕ → List Point) (c : ℕ) → ((i : ℕ) → length (f i) ≤ c * segs_of m.parts i) → (l : List (List Float)) → length l ≡ c * 384
      → Agrees (sets l 0 (map row_of (flat f (up_to m.parts.count)))) (map row_of (flat f (up_to m.parts.count)))
  of_parts f c short l x =
      let n = m.parts.count in
      let a = length-map (flat f (up_to n)) row_of in
      let b = up-within f c (segs_of m.parts) short n in
      let d = mul-le-mul_left c few.parts.total in
      sets-agrees l (map row_of (flat f (up_to n))) (omega (arith, a, b, d, x))

  -- the rows of the parts, taken out again
  parts-taken : (l : List (List ℕ)) → length l ≡ 32 → take m.parts.count (sets l 0 (part_table m.parts m.outlines)) ≡ part_table m.parts m.outlines
  parts-taken l x =
      let a = table_long m.parts m.outlines in
      let b = few.parts.count in
      sets-taken (part_table m.parts m.outlines) l m.parts.count a (omega (arith, x, a, b))

  held_written : (a : Arrays) → Lent a → Holds m (lent_rows (prepared_over (Ok tt) a m) m.parts.count)
  held_written a l =
      let ps = m.parts in
      let o = m.outlines in
      let p = pair_at m.pairs in
      record {
        faces = of-pairs (of_pair m pair_faces) 24 (λ i. pair-faces ps o (p i)) a.faces l.faces;
        fnames = of-pairs (of_pair m pair_face_names) 24 (λ i. pair-face-names ps o (p i)) a.fnames l.fnames;
        discs = of-pairs (of_pair m pair_discs) 56 (λ i. pair-discs ps o (p i)) a.discs l.discs;
        dnames = of-pairs (of_pair m pair_disc_names) 56 (λ i. pair-disc_names ps o (p i)) a.dnames l.dnames;
        sides = of-pairs (λ i. pair_sides ps o (p i) i) 2 (λ i. refl) a.sides l.sides;
        centers = of-pairs (of_pair m pair_centers) 2 (λ i. refl) a.centers l.centers;
        choices = of-pairs (λ i. pair_choices ps (p i)) 4 (λ i. refl) a.choices l.choices;
        drawn = of_parts (drawn_of ps o) 16 (drawn-each ps o) a.drawn l.drawn;
        sampled = of_parts (sampled_of ps o) 34 (sampled_each ps o) a.sampled l.sampled;
        parts = parts-taken a.parts l.parts;
      }

pub prepare_reads : (m : Mechanism) → PrepareReads m
prepare_reads m a l e =
    let h : Holds m (lent_rows (prepared_over (check_of m) a m) m.parts.count) =
    subst (λ (c : Checked). Holds m (lent_rows (prepared_over c a m) m.parts.count)) (sym e) (held_written m (accepted-few m e) a l) in
    (h, prepared_reads m e h)
