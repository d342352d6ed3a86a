-- The laws of a reading that has come to a line. Assumes nothing.
use Prim.Native.Nat.{ℕ, ◌+◌, ◌-◌, ◌<◌, ◌≤◌}
use native.Mathlib.Omega.{arith}
use native.Mathlib.Numerals.{add-one}
use Prim.Native.Char.{code}
use mathlib.Core.Path.{◌≡◌, refl, sym, ap, ◌∙◌}
use mathlib.Core.Bool.{Bool, true, false, false≢true, ◌&&◌, cond}
use mathlib.Core.List.{List, [], ◌∷◌}
use borrow.Author.Tests.{eq-eqb, ne_eqb}
use lib.ListN.{length, take, drop, set}
use lib.Seq.{sets}
use Rattle.laws.proofs.Choice.{cond_yes, cond_no}
use Rattle.mechanism.specs.declared.part.OutlineSeg.{OutlineSeg}
use Rattle.geometry.specs.declared.Seg.{Seg}
use Rattle.bodies.specs.declared.Problem.{Problem}
use Rattle.bodies.specs.declared.Problem.TheVariants.{LineNotRead, LimitPassed}
use Rattle.text.specs.Lists.{fold_of}
use Rattle.text.specs.Pieces.{split, piece_end}
use Rattle.text.proofs.Pieces.{Piece, piece, at_least_one}
use Rattle.text.specs.declared.records.Record.{Record}
use Rattle.text.specs.declared.records.Record.TheVariants.{Coords, Joined, Drawn, Edge, Paired, OnA, OnB, Margin, Turned, Malformed}
use Rattle.sheet.specs.declared.Sheet.{Sheet}
use Rattle.sheet.specs.declared.grammar.Standing.{Standing}
use Rattle.sheet.specs.declared.limits.Tally.{Tally}
use Rattle.sheet.specs.declared.draft.Draft.{Draft}
use Rattle.sheet.specs.Grammar.{kind_of, no_line, after, follows, may_end}
use Rattle.sheet.specs.Limits.{Bounds, no_tally, counted, within_limits}
use Rattle.sheet.specs.Draft.{no_outlines, no_draft, put, edge_of}
use Rattle.sheet.specs.Read.{Lines, stuck, whole, then, line_of, lines, all_within, drafted, edges, accepted, ended, judged, sheet_of_lines}
use Rattle.sheet.proofs.Counting.{bounds, no_tally-bounds}
use Rattle.std.proofs.Common.{Result, Ok, Err}

abbrev L : ℕ
L = code "L"

-- what is left to read, judged from a tally, a description and its segments on; `good` says whether all lines so far kept within the limits
abbrev judged_from : Bool → Tally → Draft → List OutlineSeg → Lines → Result Sheet Problem
judged_from good t d l (stuck n) = Err (LineNotRead n)
judged_from good t d l (whole rs) = cond (good && all_within t rs) (Ok (accepted (fold_of counted t rs) (drafted t d rs) (sets l t.segs (edges rs)))) (Err LimitPassed)

pub record Reading (text : List ℕ) (seg : List OutlineSeg) (made : Draft) (tally : Tally) (good : Bool) (stands : Standing) (n at : ℕ) : Type 0 where
  pub inside : at ≤ length text
  pub numbered : n ≤ at + 1
  pub bounded : good ≡ true → Bounds tally
  pub same : judged_from good tally made seg (lines stands n (split 10 (drop at text))) ≡ sheet_of_lines text

pub reading-starts : (text : List ℕ) {d : Draft} {t : Tally} {l : List OutlineSeg} {s : Standing}
    → d ≡ no_draft → t ≡ no_tally → l ≡ no_outlines → s ≡ no_line → Reading text l d t true s 1 0
unfolding sheet_of_lines
reading-starts text e f g h = record {
  inside = omega arith;
  numbered = omega arith;
  bounded = λ _. rw f no_tally-bounds;
  same = rw (e, f, g, h) (all (lines no_line 1 (split 10 text)));
}
  where
    all : (w : Lines) → judged_from true no_tally no_draft no_outlines w ≡ judged w
    all (stuck n) = refl
    all (whole rs) = refl

-- ---- one record more
-- after a limit was passed nothing else counts
passed : (t t' : Tally) (d d' : Draft) (l l' : List OutlineSeg) (r : Record) (w : Lines) → judged_from false t d l (then r w) ≡ judged_from false t' d' l' w
passed t t' d d' l l' r (stuck n) = refl
passed t t' d d' l l' r (whole rs) = refl

module _ (t : Tally) (d : Draft) (l : List OutlineSeg) (r : Record) where
  -- a line that passes a limit
  passes : (t' : Tally) (d' : Draft) (l' : List OutlineSeg) → within_limits (counted t r) ≡ false → (w : Lines) → judged_from true t d l (then r w) ≡ judged_from false t' d' l' w
  unfolding all_within
  passes t' d' l' e (stuck n) = refl
  passes t' d' l' e (whole rs) = cond_no _ _ (ap (λ (b : Bool). b && all_within (counted t r) rs) e)

  -- a line that keeps within the limits
  keeps : (l' : List OutlineSeg) → within_limits (counted t r) ≡ true → ((rs : List Record) → sets l' (counted t r).segs (edges rs) ≡ sets l t.segs (edges (r ∷ rs)))
      → (w : Lines) → judged_from true t d l (then r w) ≡ judged_from true (counted t r) (put t d r) l' w
  unfolding all_within drafted fold_of
  keeps l' e s (stuck n) = refl
  keeps l' e s (whole rs) =
      ap (λ (b : Bool). cond (b && all_within (counted t r) rs)
      (Ok (accepted (fold_of counted (counted t r) rs) (drafted (counted t r) (put t d r) rs) (sets l t.segs (edges (r ∷ rs))))) (Err LimitPassed)) e
      ∙ ap (λ (x : List OutlineSeg). cond (all_within (counted t r) rs) (Ok (accepted (fold_of counted (counted t r) rs) (drafted (counted t r) (put t d r) rs) x)) (Err LimitPassed)) (sym (s rs))

-- the segments stay where the line is no L or A, and else have one more
no_edge : (t : Tally) (r : Record) → (kind_of r ≡ L → ⊥) → (counted t r).segs ≡ t.segs
unfolding counted
no_edge t (Coords n) e = refl
no_edge t (Joined b) e = refl
no_edge t (Drawn b r w) e = refl
no_edge t (Edge g) e = absurd (e refl)
no_edge t (Paired g) e = refl
no_edge t (OnA x) e = refl
no_edge t (OnB x) e = refl
no_edge t (Margin m) e = refl
no_edge t (Turned x) e = refl
no_edge t Malformed e = refl

pub not-edge : (r : Record) → ((g : Seg) → r ≡ Edge g → ⊥) → kind_of r ≡ L → ⊥
not-edge (Coords n) h e = omega arith
not-edge (Joined b) h e = omega arith
not-edge (Drawn b r w) h e = omega arith
not-edge (Edge g) h e = h g refl
not-edge (Paired g) h e = omega arith
not-edge (OnA x) h e = omega arith
not-edge (OnB x) h e = omega arith
not-edge (Margin m) h e = omega arith
not-edge (Turned x) h e = omega arith
not-edge Malformed h e = omega arith

pub one-edge : (t : Tally) (r : Record) → kind_of r ≡ L → (counted t r).segs ≡ t.segs + 1
unfolding counted
one-edge t (Coords n) e = absurd (omega arith)
one-edge t (Joined b) e = absurd (omega arith)
one-edge t (Drawn b r w) e = absurd (omega arith)
one-edge t (Edge g) e = refl
one-edge t (Paired g) e = absurd (omega arith)
one-edge t (OnA x) e = absurd (omega arith)
one-edge t (OnB x) e = absurd (omega arith)
one-edge t (Margin m) e = absurd (omega arith)
one-edge t (Turned x) e = absurd (omega arith)
one-edge t Malformed e = absurd (omega arith)

module _ (t : Tally) (l : List OutlineSeg) (r : Record) where
  put-none : (kind_of r ≡ L → ⊥) → (rs : List Record) → sets l (counted t r).segs (edges rs) ≡ sets l t.segs (edges (r ∷ rs))
  unfolding edges
  put-none e rs =
      ap (λ (k : ℕ). sets l k (edges rs)) (no_edge t r e)
      ∙ ap (sets l t.segs) (sym (cond_no (edge_of r ∷ edges rs) (edges rs) (ne_eqb (kind_of r) L e)))

  put-edge : kind_of r ≡ L → (rs : List Record) → sets (set l t.segs (edge_of r)) (counted t r).segs (edges rs) ≡ sets l t.segs (edges (r ∷ rs))
  unfolding edges
  put-edge e rs =
      ap (λ (k : ℕ). sets (set l t.segs (edge_of r)) k (edges rs)) (one-edge t r e ∙ add-one t.segs)
      ∙ ap (sets l t.segs) (sym (cond_yes (edge_of r ∷ edges rs) (edges rs) (eq-eqb (kind_of r) L e)))

-- a line that others follow
line-then : (s : Standing) (n : ℕ) (l : List ℕ) (c : ℕ) (t : List ℕ)
    → lines s n (l ∷ split c t) ≡ cond (follows s (line_of l)) (then (line_of l) (lines (after s (line_of l)) (n + 1) (split c t))) (stuck n)
unfolding lines
line-then s n l c t =
    at_least_one
    (λ (ps : List (List ℕ)). lines s n (l ∷ ps) ≡ cond (follows s (line_of l)) (then (line_of l) (lines (after s (line_of l)) (n + 1) ps)) (stuck n))
    (λ p ps. refl) c t

module _ {text : List ℕ} {seg : List OutlineSeg} {made : Draft} {tally : Tally} {good : Bool} {stands : Standing} {n at e : ℕ}
    (w : Reading text seg made tally good stands n at) (q : e ≡ piece_end 10 text at) where
  pub line-piece : Piece text 10 at e
  line-piece = piece text 10 at e w.inside q

  -- the last piece
  pub at-end : e ≡ length text → {b : Bool} → b ≡ may_end (length (take (e - at) (drop at text))) stands
      → {x : Result Sheet Problem} → x ≡ ended b n good (accepted tally made seg) → x ≡ sheet_of_lines text
  unfolding lines all_within drafted edges fold_of
  at-end h {b} y z =
      z
      ∙ go b good
      ∙ ap (λ (x : Bool). judged_from good tally made seg (cond x (whole []) (stuck n))) y
      ∙ sym (ap (λ (ps : List (List ℕ)). judged_from good tally made seg (lines stands n ps)) (line-piece.last (omega arith)))
      ∙ w.same
    where
      go : (x g : Bool) → ended x n g (accepted tally made seg) ≡ judged_from g tally made seg (cond x (whole []) (stuck n))
      go true true = refl
      go true false = refl
      go false g = refl

  -- a line
  module _ (h : e ≡ length text → ⊥) {r : Record} (f : r ≡ line_of (take (e - at) (drop at text))) where
    abbrev rest : Lines
    rest = lines (after stands r) (n + 1) (split 10 (drop (e + 1) text))

    line-judged : judged_from good tally made seg (cond (follows stands r) (then r rest) (stuck n)) ≡ sheet_of_lines text
    line-judged =
        let l : e < length text = omega (arith, line-piece.within) in
        ap (λ (x : Record). judged_from good tally made seg (cond (follows stands x) (then x (lines (after stands x) (n + 1) (split 10 (drop (e + 1) text)))) (stuck n))) f
        ∙ sym (ap (judged_from good tally made seg) (line-then stands n (take (e - at) (drop at text)) 10 (drop (e + 1) text)))
        ∙ sym (ap (λ (ps : List (List ℕ)). judged_from good tally made seg (lines stands n ps)) (line-piece.more l))
        ∙ w.same

    pub out_of_order : follows stands r ≡ false → Err (LineNotRead n) ≡ sheet_of_lines text
    out_of_order g = sym (ap (judged_from good tally made seg) (cond_no _ (stuck n) g)) ∙ line-judged

    -- the next line, from what this one leaves
    module _ (g : follows stands r ≡ true) {s : Standing} (es : s ≡ after stands r) where
      next : (seg' : List OutlineSeg) (made' : Draft) (tally' : Tally) (good' : Bool) → (good' ≡ true → Bounds tally')
          → ((v : Lines) → judged_from good tally made seg (then r v) ≡ judged_from good' tally' made' seg' v)
          → Reading text seg' made' tally' good' s (n + 1) (e + 1)
      next seg' made' tally' good' b turn = record {
        inside = omega (arith, line-piece.within);
        numbered = omega (arith, w.numbered, line-piece.from);
        bounded = b;
        same = rw es (sym (turn rest) ∙ sym (ap (judged_from good tally made seg) (cond_yes _ (stuck n) g)) ∙ line-judged);
      }

      pub reads-past : good ≡ false → Reading text seg made tally good s (n + 1) (e + 1)
      reads-past o = next seg made tally good (λ y. absurd (false≢true (sym o ∙ y))) (λ v.
          ap (λ (b : Bool). judged_from b tally made seg (then r v)) o
          ∙ passed tally tally made made seg seg r v
          ∙ ap (λ (b : Bool). judged_from b tally made seg v) (sym o))

      module _ (o : good ≡ true) {tally' : Tally} {good' : Bool} (et : tally' ≡ counted tally r) (eg : good' ≡ within_limits tally') where
        pub reads_over : good' ≡ false → Reading text seg made tally' good' s (n + 1) (e + 1)
        reads_over o' = next seg made tally' good' (λ y. absurd (false≢true (sym o' ∙ y))) (λ v.
            ap (λ (b : Bool). judged_from b tally made seg (then r v)) o
            ∙ passes tally made seg r tally' made seg (ap within_limits (sym et) ∙ sym eg ∙ o') v
            ∙ ap (λ (b : Bool). judged_from b tally' made seg v) (sym o'))

        module _ (o' : good' ≡ true) {made' : Draft} (ed : made' ≡ put tally made r) where
          goes : (seg' : List OutlineSeg) → ((rs : List Record) → sets seg' (counted tally r).segs (edges rs) ≡ sets seg tally.segs (edges (r ∷ rs)))
              → Reading text seg' made' tally' good' s (n + 1) (e + 1)
          goes seg' p = next seg' made' tally' good' (λ _. bounds tally' (sym eg ∙ o')) (λ v.
              ap (λ (b : Bool). judged_from b tally made seg (then r v)) o
              ∙ keeps tally made seg r seg' (ap within_limits (sym et) ∙ sym eg ∙ o') p v
              ∙ ap (λ (x : Draft). judged_from true (counted tally r) x seg' v) (sym ed)
              ∙ ap (λ (x : Tally). judged_from true x made' seg' v) (sym et)
              ∙ ap (λ (b : Bool). judged_from b tally' made' seg' v) (sym o'))

          pub reads_on : (kind_of r ≡ L → ⊥) → Reading text seg made' tally' good' s (n + 1) (e + 1)
          reads_on z = goes seg (put-none tally seg r z)

          pub reads-edge : {g : Seg} → r ≡ Edge g → Reading text (set seg tally.segs (record { seg = g })) made' tally' good' s (n + 1) (e + 1)
          reads-edge {g} q = goes (set seg tally.segs (record { seg = g })) (rw q (put-edge tally seg (Edge g) refl))
