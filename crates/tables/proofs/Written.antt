-- Rows that loops write: those of an array, and those of all pairs, one pair behind the other. Assumes nothing.
use Prim.Native.Nat.{ℕ, suc, ◌+◌, ◌-◌, ◌<◌, ◌≤◌}
use native.Mathlib.Omega.{arith}
use native.Mathlib.Nat.{sub-zero}
use native.Mathlib.Numerals.{add-one}
use mathlib.Core.Path.{◌≡◌, refl, sym, ap, ap₂, subst₂, ◌∙◌}
use mathlib.Core.Bool.{Bool, true, false, ◌&&◌, cond}
use mir.Val.{bool_byte}
use mathlib.Core.List.{List, [], ◌∷◌, ◌++◌, map}
use lib.Ieee.{Float}
use lib.ListN.{length, drop, get_or, set, length-map, drop_of_length-le}
use lib.Seq.{sets, take_all}
use Rattle.laws.specs.Fill.{Filling}
use Rattle.laws.specs.Lists.{list_in, flat}
use Rattle.laws.specs.Loops.{Writing}
use Rattle.laws.proofs.Choice.{cond_no}
use Rattle.laws.proofs.Fill.{fill_end, map-drop}
use Rattle.laws.proofs.Lists.{list_turn, list_done}
use Rattle.laws.proofs.Writing.{starts, appends, ends, sets-append}
use Rattle.mechanism.specs.Check.{parts_over}
use Rattle.mechanism.specs.Description.{part_at}
use Rattle.mechanism.specs.declared.Outlines.{Outlines}
use Rattle.mechanism.specs.declared.Parts.{Parts}
use Rattle.mechanism.specs.declared.pair.Surface.{Surface}
use Rattle.drawing.specs.Drawing.{is_own, is_sampled}
use Rattle.drawing.proofs.Segments.{first-row, next_row}
use Rattle.sides.specs.declared.SideFeatures.{SideFeatures}
use Rattle.sides.specs.declared.contacts.PairFeatures.{PairFeatures}
use Rattle.drawing.specs.Points.{up_to, drawn_table, sampled_table, part_table}
use Rattle.tables.specs.Tables.{with_parts}
use Rattle.tables.specs.declared.Arrays.{Arrays}

-- ---- The rows of an array of n elements, written from `at` on: those of the first i are there.
pub record RowsPut {A B : Type 0} (n : ℕ) (g : B → A) (l : List B) (out₀ : List A) (at : ℕ) (out : List A) (i : ℕ) : Type 0 where
  pub all : length l ≡ n
  pub rows : Writing out₀ at (map g l) out (at + i) (map g (drop i l))

module _ {A B : Type 0} {n : ℕ} {g : B → A} {l : List B} {out₀ : List A} {at : ℕ} where
  pub rows_start : length l ≡ n → RowsPut n g l out₀ at out₀ 0
  rows_start e = record { all = e; rows = first-row refl }

  pub rows_next : {out : List A} {i : ℕ} {v : A} (d : B) → i < n → v ≡ g (get_or l i d) → RowsPut n g l out₀ at out i → RowsPut n g l out₀ at (set out (at + i) v) (i + 1)
  rows_next {i = i} d h e w =
      let a = w.all in
      let k : i < length l = omega (arith, a, h) in
      record { all = a; rows = next_row at i (map-drop g l i d k ∙ ap (λ (x : A). x ∷ map g (drop (i + 1) l)) (sym e)) w.rows }

  pub rows_end : {out : List A} {i : ℕ} → n ≤ i → RowsPut n g l out₀ at out i → out ≡ sets out₀ at (map g l)
  rows_end {i = i} h w =
      let a = w.all in
      let k : length l ≤ i = omega (arith, a, h) in
      ends (ap (map g) (drop_of_length-le l k)) w.rows

-- ---- an array that is filled to its end
pub filled-whole : {A : Type 0} {n i : ℕ} {all l rest : List A} → n ≤ i → rest ≡ [] → Filling n all l i rest → l ≡ all
filled-whole {i = i} {l = l} h e f = let k = f.long in sym (take_all i l (omega (arith, k, h))) ∙ fill_end e f

-- one element of a list made by an index, known by another name
pub turn-as : {A : Type 0} (f : ℕ → A) (n i : ℕ) {v : A} → i < n → v ≡ f i → list_in f (n - i) i ≡ v ∷ list_in f (n - (i + 1)) (i + 1)
turn-as {A} f n i h e = list_turn f n i h ∙ ap (λ (x : A). x ∷ list_in f (n - (i + 1)) (i + 1)) (sym e)

-- whether a part is sampled for a side, from what the code found
abbrev pub sampled_at : Parts → Surface → ℕ → ℕ
sampled_at ps u i = cond (is_own u i) (cond (is_sampled (part_at ps i)) 1 0) 0

sampled_by : (own sampled : Bool) → bool_byte (own && sampled) ≡ cond own (cond sampled 1 0) 0
sampled_by true true = refl
sampled_by true false = refl
sampled_by false b = refl

pub sampled_at_lem : (ps : Parts) (u : Surface) (i : ℕ) {t : ℕ} {own sampled : Bool} → t ≡ bool_byte (own && sampled) → own ≡ is_own u i → sampled ≡ is_sampled (part_at ps i) → t ≡ sampled_at ps u i
sampled_at_lem ps u i e p q = e ∙ ap₂ (λ (a b : Bool). bool_byte (a && b)) p q ∙ sampled_by (is_own u i) (is_sampled (part_at ps i))

-- ---- stores one after the other
module _ {A : Type 0} (l : List A) (k : ℕ) where
  pub set-two : {a b x y : A} → a ≡ x → b ≡ y → set (set l k a) (k + 1) b ≡ sets l k (x ∷ y ∷ [])
  set-two {x = x} {y} p q =
      ap₂ (λ (v w : A). set (set l k v) (k + 1) w) p q ∙ ap (λ (i : ℕ). set (set l k x) i y) (add-one k)

  pub set-four : {a b c d x y z w : A} → a ≡ x → b ≡ y → c ≡ z → d ≡ w → set (set (set (set l k a) (k + 1) b) (k + 2) c) (k + 3) d ≡ sets l k (x ∷ y ∷ z ∷ w ∷ [])
  set-four {c = c} {d} {x} {y} {z} {w} p q r s =
      let two : k + 2 ≡ suc (suc k) = omega arith in
      let three : k + 3 ≡ suc (suc (suc k)) = omega arith in
      ap₂ (λ (m : List A) (v : A). set (set m (k + 2) v) (k + 3) d) (set-two p q) r
      ∙ ap₂ (λ (i j : ℕ). set (set (sets l k (x ∷ y ∷ [])) i z) j d) two three
      ∙ ap (λ (v : A). set (set (sets l k (x ∷ y ∷ [])) (suc (suc k)) z) (suc (suc (suc k))) v) s

-- the rows of two sides, one behind the other
pub sides-join : {A : Type 0} (l : List A) {m r : List A} {at a b : ℕ} (x y : List A) → m ≡ sets l a x → r ≡ sets m b y → a ≡ at → b ≡ at + length x → r ≡ sets l at (x ++ y)
sides-join {A} l {m} {r} {at} {a} {b} x y p q e f =
    q
    ∙ ap₂ (λ (n : List A) (i : ℕ). sets n i y) (p ∙ ap (λ (i : ℕ). sets l i x) e) f
    ∙ sym (sets-append x y l at)

-- ---- The rows of n pairs, those of the first i written; `at` is the next place.
abbrev pub TablePut : {A : Type 0} → (ℕ → List A) → ℕ → List A → List A → ℕ → ℕ → Type 0
TablePut f n out₀ out at i = Writing out₀ 0 (flat f (up_to n)) out at (flat f (list_in (λ j. j) (n - i) i))

module _ {A : Type 0} (f : ℕ → List A) (n : ℕ) {out₀ : List A} where
  pub table_start : TablePut f n out₀ out₀ 0 0
  table_start = starts (ap (λ (k : ℕ). flat f (list_in (λ j. j) k 0)) (sub-zero n))

  pub table_next : {out out' : List A} {at at' i : ℕ} → i < n → out' ≡ sets out at (f i) → at + length (f i) ≡ at' → TablePut f n out₀ out at i → TablePut f n out₀ out' at' (i + 1)
  unfolding flat
  table_next {i = i} h o e w =
      subst₂ (λ (x : List A) (k : ℕ). Writing out₀ 0 (flat f (up_to n)) x k (flat f (list_in (λ j. j) (n - (i + 1)) (i + 1)))) (sym o) e
      (appends (f i) (ap (flat f) (list_turn (λ j. j) n i h)) w)

  pub table_end : {out : List A} {at i : ℕ} → n ≤ i → TablePut f n out₀ out at i → out ≡ sets out₀ 0 (flat f (up_to n))
  unfolding flat
  table_end {i = i} h w = ends (ap (flat f) (list_done (λ j. j) n i h)) w

-- the rows of both sides of a pair, of one of their arrays; f is what the code found
pub pair-join : {A B : Type 0} (g : B → A) (part : SideFeatures → List B) {f h : PairFeatures} (l : List A) {m r : List A} {at a b : ℕ} → f ≡ h
    → m ≡ sets l a (map g (part f.a)) → r ≡ sets m b (map g (part f.b)) → a ≡ at → b ≡ at + length (part h.a) → r ≡ sets l at (map g (part h.a) ++ map g (part h.b))
pair-join g part {f} {h} l {m} {r} {at} {a} {b} e p q x y =
    sides-join l (map g (part h.a)) (map g (part h.b))
    (p ∙ ap (λ (k : PairFeatures). sets l a (map g (part k.a))) e)
    (q ∙ ap (λ (k : PairFeatures). sets m b (map g (part k.b))) e)
    x
    (y ∙ ap (λ (k : ℕ). at + k) (sym (length-map (part h.a) g)))

-- ---- arrays that hold the same, field by field
pub same_arrays : {a b : Arrays} → a.drawn ≡ b.drawn → a.sampled ≡ b.sampled → a.parts ≡ b.parts → a.faces ≡ b.faces → a.fnames ≡ b.fnames → a.discs ≡ b.discs → a.dnames ≡ b.dnames
    → a.sides ≡ b.sides → a.centers ≡ b.centers → a.choices ≡ b.choices → a ≡ b
same_arrays {a} {b} p₁ p₂ p₃ p₄ p₅ p₆ p₇ p₈ p₉ p₀ =
    let e : record {
      drawn = a.drawn;
      sampled = a.sampled;
      parts = a.parts;
      faces = a.faces;
      fnames = a.fnames;
      discs = a.discs;
      dnames = a.dnames;
      sides = a.sides;
      centers = a.centers;
      choices = a.choices;
    } ≡ record {
      drawn = b.drawn;
      sampled = b.sampled;
      parts = b.parts;
      faces = b.faces;
      fnames = b.fnames;
      discs = b.discs;
      dnames = b.dnames;
      sides = b.sides;
      centers = b.centers;
      choices = b.choices;
    } = cc in
    e

-- ---- the tables of points and parts are written where no limit is passed
pub points-put : (a : Arrays) (ps : Parts) (o : Outlines) {d s : List (List Float)} {p : List (List ℕ)} → parts_over ps ≡ false
    → d ≡ cond (parts_over ps) a.drawn (sets a.drawn 0 (drawn_table ps o))
    → s ≡ cond (parts_over ps) a.sampled (sets a.sampled 0 (sampled_table ps o))
    → p ≡ cond (parts_over ps) a.parts (sets a.parts 0 (part_table ps o))
    → record a { drawn = d; sampled = s; parts = p } ≡ with_parts a ps o
points-put a ps o {p = p} few e f g =
    ap₂ (λ (x y : List (List Float)). record a { drawn = x; sampled = y; parts = p }) (e ∙ cond_no _ _ few) (f ∙ cond_no _ _ few)
    ∙ ap (λ (x : List (List ℕ)). record a { drawn = sets a.drawn 0 (drawn_table ps o); sampled = sets a.sampled 0 (sampled_table ps o); parts = x }) (g ∙ cond_no _ _ few)
