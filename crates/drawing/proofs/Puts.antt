-- Laws of points that are written as they are, and of the points of all parts, one part behind the other. Assumes nothing.
use Prim.Native.Nat.{ℕ, zero, suc, ◌+◌, ◌*◌, ◌-◌, ◌<◌, ◌≤◌}
use native.Mathlib.Omega.{arith}
use native.Mathlib.Numerals.{add-one}
use native.Mathlib.Nat.{zero-add, add-zero, add-suc, suc-add}
use mathlib.Core.Path.{◌≡◌, refl, sym, ap, ap₂, subst, ◌∙◌}
use mathlib.Core.Bool.{Bool, true, false, cond}
use mathlib.Core.List.{List, [], ◌∷◌, ◌++◌, map, map-append, append-nil}
use lib.Ieee.{Float}
use lib.ListN.{length, set, length-map, length-append}
use lib.Seq.{sets}
use Rattle.laws.specs.Lists.{list_in, flat}
use Rattle.laws.proofs.Choice.{cond_yes, cond_no}
use Rattle.laws.proofs.Lists.{list_turn, flat_append, flat-short, list_length}
use Rattle.laws.proofs.Sums.{sum_more}
use Rattle.laws.proofs.Writing.{sets-append}
use Rattle.geometry.specs.declared.Point.{Point}
use Rattle.geometry.specs.declared.Seg.{Seg}
use Rattle.mechanism.specs.Check.{FewParts}
use Rattle.mechanism.specs.Description.{sum_in, part_at, segs_of, start_of_part}
use Rattle.mechanism.specs.Segments.{outlines_in}
use Rattle.mechanism.proofs.SegRows.{rows_long}
use Rattle.mechanism.specs.declared.Outlines.{Outlines}
use Rattle.mechanism.specs.declared.Parts.{Parts}
use Rattle.silhouette.specs.Silhouette.{silhouette_at, silhouette_from, silhouette_count}
use Rattle.material.specs.Material.{Edge}
use Rattle.drawing.specs.Drawing.{is_sampled, drawn_points, row_of}
use Rattle.drawing.specs.Samples.{mouths_of, samples_of}
use Rattle.drawing.proofs.Segments.{drawn-short, silhouette_short, silhouette_94, from-part, part-within, part-counted}
use Rattle.drawing.proofs.Mouths.{samples_short}
use Rattle.drawing.specs.Points.{up_to, drawn_of, sampled_of, drawn_up_to, sampled_up_to, part_row, drawn_table, sampled_table, part_table}
use Rattle.drawing.specs.declared.points.Next.{Next}

-- ---- points that are placed nowhere
abbrev pub self : Point → Point
self p = p

pub map-self : (l : List Point) → map self l ≡ l
map-self [] = refl
map-self (p ∷ l) = ap (λ (m : List Point). p ∷ m) (map-self l)

-- ---- lists made by an index, in two parts
pub list_split : {A : Type 0} (f : ℕ → A) (a b j : ℕ) → list_in f (a + b) j ≡ list_in f a j ++ list_in f b (j + a)
unfolding list_in
list_split f zero b j = ap₂ (λ (k m : ℕ). list_in f k m) (zero-add b) (sym (add-zero j))
list_split {A} f (suc a) b j =
    ap (λ (k : ℕ). list_in f k j) (suc-add a b)
    ∙ ap (λ (l : List A). f j ∷ l) (list_split f a b (suc j) ∙ ap (λ (m : ℕ). list_in f a (suc j) ++ list_in f b m) (suc-add j a ∙ sym (add-suc j a)))

pub list_more : {A : Type 0} (f : ℕ → A) (n : ℕ) → list_in f (n + 1) 0 ≡ list_in f n 0 ++ (f n ∷ [])
unfolding list_in
list_more {A} f n = list_split f n 1 0 ∙ ap (λ (k : ℕ). list_in f n 0 ++ (f k ∷ [])) (zero-add n)

-- ---- the lists of the first n numbers
module _ {A : Type 0} (f : ℕ → List A) where
  pub flat-none-up : flat f (up_to 0) ≡ []
  unfolding flat list_in
  flat-none-up = refl

  pub flat_up : (n : ℕ) → flat f (up_to (n + 1)) ≡ flat f (up_to n) ++ f n
  unfolding flat
  flat_up n = ap (flat f) (list_more (λ i. i) n) ∙ flat_append f (up_to n) (n ∷ []) ∙ ap (λ (l : List A). flat f (up_to n) ++ l) (append-nil (f n))

  pub length_up : (n : ℕ) → length (flat f (up_to (n + 1))) ≡ length (flat f (up_to n)) + length (f n)
  length_up n = ap length (flat_up n) ∙ length-append (flat f (up_to n)) (f n)

  -- those before i, those of i, and the others
  pub flat-parts : (i n : ℕ) → i < n → flat f (up_to n) ≡ flat f (up_to i) ++ (f i ++ flat f (list_in (λ k. k) (n - (i + 1)) (i + 1)))
  unfolding flat
  flat-parts i n h =
      let e : n ≡ i + (n - i) = omega arith in
      ap (λ (k : ℕ). flat f (up_to k)) e ∙ ap (flat f) (list_split (λ k. k) i (n - i) 0) ∙ flat_append f (up_to i) (list_in (λ k. k) (n - i) (0 + i))
      ∙ ap (λ (l : List ℕ). flat f (up_to i) ++ flat f l) (ap (list_in (λ k. k) (n - i)) (zero-add i) ∙ list_turn (λ k. k) n i h)

  pub up-within : (m : ℕ) (g : ℕ → ℕ) → ((i : ℕ) → length (f i) ≤ m * g i) → (n : ℕ) → length (flat f (up_to n)) ≤ m * sum_in g n 0
  up-within m g h zero = let e = ap length flat-none-up in omega (arith, e)
  up-within m g h (suc n) = subst (λ (k : ℕ). length (flat f (up_to k)) ≤ m * sum_in g k 0) (add-one n)
      (let l = length_up n in let s = ap (λ (k : ℕ). m * k) (sum_more g n) in let r = up-within m g h n in let b = h n in omega (arith, l, s, r, b))

-- ---- how many points a part has, and all parts have
module _ (ps : Parts) (o : Outlines) where
  pub drawn-each : (i : ℕ) → length (drawn_of ps o i) ≤ 16 * segs_of ps i
  unfolding drawn_of
  drawn-each i =
      let f = flat-short drawn_points 8 drawn-short (silhouette_at ps o i) in
      let s = silhouette_short ps o i in
      omega (arith, f, s)

  pub drawn-752 : (i : ℕ) → length (drawn_of ps o i) ≤ 752
  unfolding drawn_of
  drawn-752 i =
      let f = flat-short drawn_points 8 drawn-short (silhouette_at ps o i) in
      let s = silhouette_94 ps o i in
      omega (arith, f, s)

  pub sampled_each : (i : ℕ) → length (sampled_of ps o i) ≤ 34 * segs_of ps i
  unfolding sampled_of
  sampled_each i = go (is_sampled (part_at ps i))
    where
      go : (b : Bool) → length (cond b (flat (samples_of (mouths_of ps o)) (silhouette_at ps o i)) []) ≤ 34 * segs_of ps i
      go true =
          let f = flat-short (samples_of (mouths_of ps o)) 17 (samples_short (mouths_of ps o)) (silhouette_at ps o i) in
          let s = silhouette_short ps o i in
          omega (arith, f, s)
      go false = omega arith

  pub sampled_1598 : (i : ℕ) → length (sampled_of ps o i) ≤ 1598
  unfolding sampled_of
  sampled_1598 i = go (is_sampled (part_at ps i))
    where
      go : (b : Bool) → length (cond b (flat (samples_of (mouths_of ps o)) (silhouette_at ps o i)) []) ≤ 1598
      go true =
          let f = flat-short (samples_of (mouths_of ps o)) 17 (samples_short (mouths_of ps o)) (silhouette_at ps o i) in
          let s = silhouette_94 ps o i in
          omega (arith, f, s)
      go false = omega arith

  module _ (few : FewParts ps) (i : ℕ) (h : i < ps.count) where
    -- the numbers of the part's row are small
    pub drawn-start : length (drawn_up_to ps o i) ≤ 6144
    drawn-start =
        let w = up-within (drawn_of ps o) 16 (segs_of ps) drawn-each i in
        let t = few.all i h in
        omega (arith, w, t)

    pub sampled_start : length (sampled_up_to ps o i) ≤ 13056
    sampled_start =
        let w = up-within (sampled_of ps o) 34 (segs_of ps) sampled_each i in
        let t = few.all i h in
        omega (arith, w, t)

  -- ---- what is written of a silhouette, said of its part
  module _ (i at : ℕ) (out₀ : List (List Float)) {sil : List Seg} (e : sil ≡ silhouette_at ps o i) {r : ℕ} {out : List (List Float)} where
    pub of-drawn : r ≡ at + length (flat drawn_points sil) → out ≡ sets out₀ at (map row_of (map self (flat drawn_points sil)))
        → (r ≡ at + length (drawn_of ps o i)) × (out ≡ sets out₀ at (map row_of (drawn_of ps o i)))
    unfolding drawn_of
    of-drawn n w = (
      n ∙ ap (λ (l : List Seg). at + length (flat drawn_points l)) e,
      w ∙ ap (λ (l : List Point). sets out₀ at (map row_of l)) (map-self (flat drawn_points sil) ∙ ap (flat drawn_points) e),
    )

    pub of-sampled : {t : Bool} (mouths : List Edge) → mouths ≡ mouths_of ps o → t ≡ is_sampled (part_at ps i) → t ≡ true
        → (r ≡ at + length (flat (samples_of mouths) sil)) × (out ≡ sets out₀ at (map row_of (flat (samples_of mouths) sil)))
        → (r ≡ at + length (sampled_of ps o i)) × (out ≡ sets out₀ at (map row_of (sampled_of ps o i)))
    unfolding sampled_of
    of-sampled mouths m t y w =
        let k : flat (samples_of mouths) sil ≡ cond (is_sampled (part_at ps i)) (flat (samples_of (mouths_of ps o)) (silhouette_at ps o i)) [] =
        ap₂ (λ (x : List Edge) (l : List Seg). flat (samples_of x) l) m e ∙ sym (cond_yes _ _ (sym t ∙ y)) in
        (w.0 ∙ ap (λ (l : List Point). at + length l) k, w.1 ∙ ap (λ (l : List Point). sets out₀ at (map row_of l)) k)

  pub of_none : (i at : ℕ) (out : List (List Float)) {t : Bool}
      → t ≡ is_sampled (part_at ps i) → t ≡ false → (at ≡ at + length (sampled_of ps o i)) × (out ≡ sets out at (map row_of (sampled_of ps o i)))
  unfolding sampled_of
  of_none i at out t n =
      let k : [] ≡ cond (is_sampled (part_at ps i)) (flat (samples_of (mouths_of ps o)) (silhouette_at ps o i)) [] = sym (cond_no _ _ (sym t ∙ n)) in
      (sym (add-zero at) ∙ ap (λ (l : List Point). at + length l) k, ap (λ (l : List Point). sets out at (map row_of l)) k)

-- ---- what the code asks of part i, whose segments start in row `first`
module _ (rows : List (List Float)) (ps : Parts) {i first : ℕ} (few : FewParts ps) (h : i < ps.count) (e : first ≡ start_of_part ps i) (long : start_of_part ps ps.count ≤ length rows) where
  in_rows : start_of_part ps ps.count ≤ length (outlines_in rows).seg
  in_rows = let l = rows_long rows in omega (arith, long, l)

  within-rows : first + segs_of ps i ≤ length rows
  within-rows = let l = rows_long rows in let w = part-within ps (outlines_in rows) i few h e in_rows in omega (arith, w, l)

  pub asks_drawn : {at n : ℕ} → at ≡ length (drawn_up_to ps (outlines_in rows) i) → 6144 ≤ n
      → (segs_of ps i ≤ 48) × (first + segs_of ps i ≤ length rows) × (at + length (flat drawn_points (silhouette_from (outlines_in rows) first (part_at ps i))) ≤ n)
  unfolding drawn_of
  asks_drawn a l =
      let d : length (flat drawn_points (silhouette_from (outlines_in rows) first (part_at ps i))) ≤ 16 * segs_of ps i =
      subst (λ (x : List Seg). length (flat drawn_points x) ≤ 16 * segs_of ps i) (sym (from-part ps (outlines_in rows) i few h e)) (drawn-each ps (outlines_in rows) i) in
      let w = up-within (drawn_of ps (outlines_in rows)) 16 (segs_of ps) (drawn-each ps (outlines_in rows)) i in
      let t = few.all i h in
      (few.each i h, within-rows, omega (arith, d, w, t, a, l))

  pub asks_sampled : {at n : ℕ} → at ≡ length (sampled_up_to ps (outlines_in rows) i) → 13056 ≤ n
      → (segs_of ps i ≤ 48) × (first + segs_of ps i ≤ length rows) × (at + 17 * silhouette_count (part_at ps i) ≤ n)
  asks_sampled a l =
      let b = part-counted ps (outlines_in rows) i few h e in_rows in
      let w = up-within (sampled_of ps (outlines_in rows)) 34 (segs_of ps) (sampled_each ps (outlines_in rows)) i in
      let t = few.all i h in
      (few.each i h, within-rows, omega (arith, b, w, t, a, l))

-- ---- more behind what is written from the front on
pub behind : {A : Type 0} (l xs ys : List A) (n : ℕ) → n ≡ length xs → sets (sets l 0 xs) n ys ≡ sets l 0 (xs ++ ys)
behind l xs ys n e = ap (λ (k : ℕ). sets (sets l 0 xs) k ys) (e ∙ sym (zero-add (length xs))) ∙ sym (sets-append xs ys l 0)

pub rows_behind : (f : ℕ → List Point) (i : ℕ) (l : List (List Float)) {n : ℕ} {m m' : List (List Float)}
    → n ≡ length (flat f (up_to i)) → m ≡ sets l 0 (map row_of (flat f (up_to i))) → m' ≡ sets m n (map row_of (f i))
    → m' ≡ sets l 0 (map row_of (flat f (up_to (i + 1))))
rows_behind f i l {n} e a b =
    b ∙ ap (λ (k : List (List Float)). sets k n (map row_of (f i))) a
    ∙ behind l (map row_of (flat f (up_to i))) (map row_of (f i)) n (e ∙ sym (length-map (flat f (up_to i)) row_of))
    ∙ ap (sets l 0) (sym (ap (map row_of) (flat_up f i) ∙ map-append row_of (flat f (up_to i)) (f i)))

pub row-behind : (f : ℕ → List ℕ) (i : ℕ) (l : List (List ℕ)) {m : List (List ℕ)} {row : List ℕ} → m ≡ sets l 0 (list_in f i 0) → row ≡ f i → set m i row ≡ sets l 0 (list_in f (i + 1) 0)
row-behind f i l a e =
    ap₂ (λ (k : List (List ℕ)) (r : List ℕ). set k i r) a e ∙ behind l (list_in f i 0) (f i ∷ []) i (sym (list_length f i 0)) ∙ ap (sets l 0) (sym (list_more f i))

-- ---- the points and the row of each part that a loop writes: those of the first i parts are there
module _ (ps : Parts) (o : Outlines) (drawn₀ sampled₀ : List (List Float)) (parts₀ : List (List ℕ)) where
  pub record Puts (drawn sampled : List (List Float)) (parts : List (List ℕ)) (at : Next) (i : ℕ) : Type 0 where
    pub far : i ≤ ps.count
    pub at_drawn : at.drawn ≡ length (drawn_up_to ps o i)
    pub at_sampled : at.sampled ≡ length (sampled_up_to ps o i)
    pub points : drawn ≡ sets drawn₀ 0 (map row_of (drawn_up_to ps o i))
    pub samples : sampled ≡ sets sampled₀ 0 (map row_of (sampled_up_to ps o i))
    pub rows : parts ≡ sets parts₀ 0 (list_in (part_row ps o) i 0)

  pub puts-start : Puts drawn₀ sampled₀ parts₀ (record { drawn = 0; sampled = 0 }) 0
  unfolding flat list_in
  puts-start = record { far = omega arith; at_drawn = refl; at_sampled = refl; points = refl; samples = refl; rows = refl }

  module _ {drawn sampled : List (List Float)} {parts : List (List ℕ)} {at : Next} {i : ℕ} (p : Puts drawn sampled parts at i) where
    pub puts-more : {drawn' sampled' : List (List Float)} {to : Next} → i < ps.count
        → (to.drawn ≡ at.drawn + length (drawn_of ps o i)) × (drawn' ≡ sets drawn at.drawn (map row_of (drawn_of ps o i)))
        → (to.sampled ≡ at.sampled + length (sampled_of ps o i)) × (sampled' ≡ sets sampled at.sampled (map row_of (sampled_of ps o i)))
        → Puts drawn' sampled' (set parts i ((part_at ps i).body ∷ at.drawn ∷ (to.drawn - at.drawn) ∷ at.sampled ∷ (to.sampled - at.sampled) ∷ [])) to (i + 1)
    puts-more {to = to} h w q =
        let n = p.at_drawn in
        let m = p.at_sampled in
        let c = w.0 in
        let d = q.0 in
        let e = length_up (drawn_of ps o) i in
        let f = length_up (sampled_of ps o) i in
        let g : to.drawn - at.drawn ≡ length (drawn_of ps o i) = omega (arith, c) in
        let k : to.sampled - at.sampled ≡ length (sampled_of ps o i) = omega (arith, d) in
        record {
          far = omega arith;
          at_drawn = omega (arith, n, c, e);
          at_sampled = omega (arith, m, d, f);
          points = rows_behind (drawn_of ps o) i drawn₀ n p.points w.1;
          samples = rows_behind (sampled_of ps o) i sampled₀ m p.samples q.1;
          rows =
              row-behind (part_row ps o) i parts₀ p.rows
              (ap₂ (λ (x y : ℕ). (part_at ps i).body ∷ x ∷ y ∷ at.sampled ∷ (to.sampled - at.sampled) ∷ []) n g
              ∙ ap₂ (λ (x y : ℕ). (part_at ps i).body ∷ length (drawn_up_to ps o i) ∷ length (drawn_of ps o i) ∷ x ∷ y ∷ []) m k);
        }

    pub puts-end : ps.count ≤ i
        → (drawn ≡ sets drawn₀ 0 (drawn_table ps o)) × (sampled ≡ sets sampled₀ 0 (sampled_table ps o)) × (parts ≡ sets parts₀ 0 (part_table ps o))
    puts-end h =
        let f = p.far in
        let e : i ≡ ps.count = omega (arith, f, h) in (
          p.points ∙ ap (λ (k : ℕ). sets drawn₀ 0 (map row_of (drawn_up_to ps o k))) e,
          p.samples ∙ ap (λ (k : ℕ). sets sampled₀ 0 (map row_of (sampled_up_to ps o k))) e,
          p.rows ∙ ap (λ (k : ℕ). sets parts₀ 0 (list_in (part_row ps o) k 0)) e,
        )
