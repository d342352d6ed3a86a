-- What a reader finds in the tables of features: the sides of each pair, its features and its choices, as the description has them. Assumes nothing.
use Prim.Native.Nat.{ℕ, zero, suc, ◌+◌, ◌*◌, ◌<◌, ◌≤◌}
use native.Mathlib.Omega.{arith}
use native.Mathlib.Nat.{add-zero, add-suc, suc-add, mul-zero, mul-suc, mul-add, add-mul, mul-le-mul_left}
use mathlib.Core.Path.{◌≡◌, refl, sym, ap, ap₂, ◌∙◌}
use mathlib.Core.Bool.{Bool, false}
use mathlib.Core.List.{List, [], ◌∷◌, ◌++◌, map}
use lib.ListN.{length, get_or, length-append, length-map, get_or-append, replicate}
use lib.Seq.{take-length, get_or-append-add}
use Rattle.laws.specs.Fill.{filled}
use Rattle.laws.specs.Lists.{list_in, flat}
use Rattle.laws.proofs.Fill.{length-filled, get_d_filled}
use Rattle.laws.proofs.Lists.{list_as}
use Rattle.geometry.specs.declared.Point.{Point}
use Rattle.mechanism.specs.Check.{check_of}
use Rattle.mechanism.specs.Description.{pair_at}
use Rattle.mechanism.specs.Piece.{part_of}
use Rattle.mechanism.specs.declared.Mechanism.{Mechanism}
use Rattle.mechanism.specs.declared.Outlines.{Outlines}
use Rattle.mechanism.specs.declared.Parts.{Parts}
use Rattle.mechanism.specs.declared.features.Piece.TheVariants as Piece
use Rattle.mechanism.specs.declared.pair.PairGeometry.{PairGeometry}
use Rattle.mechanism.specs.declared.pair.Surface.{Surface}
use Rattle.mechanism.proofs.Checks.{accepted-few}
use Rattle.drawing.specs.Drawing.{side_chosen}
use Rattle.drawing.specs.Prepared.{choice_at}
use Rattle.sides.specs.Contacts.{center_of_b, pair_features}
use Rattle.sides.specs.Features.{no_face, no_disc, side_from, side_of, traversals_of, faces_of, discs_of}
use Rattle.sides.specs.declared.PlacedDisc.{PlacedDisc}
use Rattle.sides.specs.declared.PlacedFace.{PlacedFace}
use Rattle.sides.specs.declared.SideFeatures.{SideFeatures}
use Rattle.sides.specs.declared.contacts.PairFeatures.{PairFeatures}
use Rattle.sides.specs.Sizes.{FewOnSide}
use Rattle.sides.proofs.Few.{accepted-few-features}
use Rattle.strips.specs.Strips.{TableRows, at_most, facts_from, face_from, disc_from, piece_from, point_from, center_at, features_by, face_row}
use Rattle.strips.specs.Strips.{disc_row, piece_row, side_at, side_in, pair_in, row_a, row_b, row_of_material, row_of_sampled}
use Rattle.strips.specs.declared.SideFacts.{SideFacts}
use Rattle.strips.proofs.Rows.{piece_back}
use Rattle.tables.specs.Tables.{face_rows, face_names, disc_rows, disc_names, geometry_of, less_cuts, side_row, sampled_row}
use Rattle.drawing.specs.Points.{up_to, Agrees}
use Rattle.tables.specs.Tables.{pair_sides, pair_centers, pair_choices, face_table, face_name_table, disc_table, disc_name_table, side_table, center_table, choice_table}
use Rattle.tables.proofs.Known.{faces_a, faces_b, discs_a, discs_b, rows_both}
use Rattle.drawing.proofs.ReadBack.{at-most_is}
use Rattle.std.proofs.Common.{Ok}

-- ---- a row of a table
map_get : {A B : Type 0} (g : A → B) (l : List A) (i : ℕ) (d : A) (e : B) → i < length l → get_or (map g l) i e ≡ g (get_or l i d)
map_get g [] i d e h = absurd (omega arith)
map_get g (x ∷ l) zero d e h = refl
map_get g (x ∷ l) (suc i) d e h = map_get g l i d e (omega arith)

-- lists of c each, one after the other
module _ {A : Type 0} (f : ℕ → List A) (c : ℕ) (long : (k : ℕ) → length (f k) ≡ c) where
  flat-length : (k s : ℕ) → length (flat f (list_in (λ x. x) k s)) ≡ c * k
  unfolding flat list_in
  flat-length zero s = sym (mul-zero c)
  flat-length (suc k) s =
      let r = flat-length k (suc s) in
      let a = length-append (f s) (flat f (list_in (λ x. x) k (suc s))) in
      omega (arith, r, a, long s, mul-suc c k)

  flat-get : (d : A) (k s i j : ℕ) → i < k → j < c → get_or (flat f (list_in (λ x. x) k s)) (c * i + j) d ≡ get_or (f (s + i)) j d
  unfolding flat list_in
  flat-get d zero s i j h g = absurd (omega arith)
  flat-get d (suc k) s zero j h g =
      let rest = flat f (list_in (λ x. x) k (suc s)) in
      let e : c * 0 + j ≡ j = omega (arith, mul-zero c) in
      ap (λ (n : ℕ). get_or (f s ++ rest) n d) e ∙ get_or-append (f s) rest d j (omega (arith, g, long s)) ∙ ap (λ (n : ℕ). get_or (f n) j d) (sym (add-zero s))
  flat-get d (suc k) s (suc i) j h g =
      let rest = flat f (list_in (λ x. x) k (suc s)) in
      let e : c * suc i + j ≡ length (f s) + (c * i + j) = omega (arith, mul-suc c i, long s) in
      ap (λ (n : ℕ). get_or (f s ++ rest) n d) e ∙ get_or-append-add (f s) rest (c * i + j) d
      ∙ flat-get d k (suc s) i j (omega arith) g ∙ ap (λ (n : ℕ). get_or (f n) j d) (suc-add s i ∙ sym (add-suc s i))

-- row j of the i-th of n parts of c rows each
pub row_read : {A : Type 0} (f : ℕ → List (List A)) (c n : ℕ) → ((k : ℕ) → length (f k) ≡ c)
    → (l : List (List A)) → Agrees l (flat f (up_to n)) → (i j : ℕ) → i < n → j < c → get_or l (c * i + j) [] ≡ get_or (f i) j []
row_read {A} f c n long l e i j h g =
    let m : c * suc i ≤ c * n = mul-le-mul_left c (let z : suc i ≤ n = omega arith in z) in
    let z : 0 + i ≡ i = omega arith in
    e (c * i + j) (omega (arith, m, mul-suc c i, g, flat-length f c long n 0)) ∙ flat-get f c long [] n 0 i j h g ∙ ap (λ (k : ℕ). get_or (f k) j []) z

-- row j of side A and of side B of the i-th of n pairs, of an array of c elements that each side has
module _ {A B : Type 0} (g : B → List A) (part : SideFeatures → List B) (f : ℕ → PairFeatures) (c n : ℕ) (la : (k : ℕ) → length (part (f k).a) ≡ c) (lb : (k : ℕ) → length (part (f k).b) ≡ c)
    (l : List (List A)) (e : Agrees l (flat (λ k. map g (part (f k).a) ++ map g (part (f k).b)) (up_to n))) (i j : ℕ) (h : i < n) (few : j < c) where
  abbrev rows : ℕ → List (List A)
  rows k = map g (part (f k).a) ++ map g (part (f k).b)

  rows_long : (k : ℕ) → length (rows k) ≡ c + c
  rows_long k = rows_both g c (part (f k).a) (part (f k).b) (la k) (lb k)

  pub row-a : get_or l (c * (2 * i) + j) [] ≡ get_or (map g (part (f i).a)) j []
  row-a =
      let d : c * (2 * i) ≡ c * (i + i) = ap (λ (k : ℕ). c * k) (let z : 2 * i ≡ i + i = omega arith in z) in
      let p : c * (2 * i) + j ≡ (c + c) * i + j = omega (arith, d, mul-add c i i, add-mul c c i) in
      ap (λ (k : ℕ). get_or l k []) p ∙ row_read rows (c + c) n rows_long l e i j h (omega arith)
      ∙ get_or-append (map g (part (f i).a)) (map g (part (f i).b)) [] j (omega (arith, few, la i, length-map (part (f i).a) g))

  pub row-b : get_or l (c * (2 * i + 1) + j) [] ≡ get_or (map g (part (f i).b)) j []
  row-b =
      let d : c * (2 * i + 1) ≡ c * (i + i) + c * 1 = ap (λ (k : ℕ). c * k) (let z : 2 * i + 1 ≡ i + i + 1 = omega arith in z) ∙ mul-add c (i + i) 1 in
      let p : c * (2 * i + 1) + j ≡ (c + c) * i + (c + j) = omega (arith, d, mul-add c i i, add-mul c c i) in
      let q : c + j ≡ length (map g (part (f i).a)) + j = omega (arith, la i, length-map (part (f i).a) g) in
      ap (λ (k : ℕ). get_or l k []) p ∙ row_read rows (c + c) n rows_long l e i (c + j) h (omega arith)
      ∙ ap (λ (k : ℕ). get_or (rows i) k []) q ∙ get_or-append-add (map g (part (f i).a)) (map g (part (f i).b)) j []

-- a row that is there, whatever the default
pub row-there : {A : Type 0} (l : List (List A)) (i : ℕ) (d r : List A) → 0 < length r → get_or l i [] ≡ r → get_or l i d ≡ r
row-there [] i d r h e = let z = ap length e in absurd (omega arith)
row-there (x ∷ l) zero d r h e = e
row-there (x ∷ l) (suc i) d r h e = row-there l i d r h e

pub row-a-is : (i : ℕ) → i ≤ 16 → row_a i ≡ 2 * i
row-a-is i h = ap (λ (k : ℕ). 2 * k) (at-most_is i 16 h)

pub row-b-is : (i : ℕ) → i ≤ 16 → row_b i ≡ 2 * i + 1
row-b-is i h = ap (λ (k : ℕ). 2 * k + 1) (at-most_is i 16 h)

-- ---- what is known of a side, number k of all
abbrev pub facts_of : ℕ → PairGeometry → SideFeatures → SideFacts
facts_of k g s = record { body = s.body; face = 12 * k; faces = s.faces; disc = 28 * k; discs = s.discs; part = part_of s.center.piece; geometry = geometry_of g }

pub facts_back : (k : ℕ) (g : PairGeometry) (s : SideFeatures) → k ≤ 32 → s.faces ≤ 12 → s.discs ≤ 28 → facts_from (side_row k g s) ≡ facts_of k g s
facts_back k g s h x y =
    ap₂ (λ (a b : ℕ). record { body = s.body; face = a; faces = b; disc = at_most (28 * k) 65535; discs = at_most s.discs 28; part = part_of s.center.piece; geometry = geometry_of g })
    (at-most_is (12 * k) 65535 (omega arith)) (at-most_is s.faces 12 x)
    ∙ ap₂ (λ (a b : ℕ). record { body = s.body; face = 12 * k; faces = s.faces; disc = a; discs = b; part = part_of s.center.piece; geometry = geometry_of g })
    (at-most_is (28 * k) 65535 (omega arith)) (at-most_is s.discs 28 y)

-- a list from place k on
list_from : {A : Type 0} (f : ℕ → A) (n k j : ℕ) → list_in f n (k + j) ≡ list_in (λ i. f (k + i)) n j
unfolding list_in
list_from f zero k j = refl
list_from {A} f (suc n) k j = ap (λ (l : List A). f (k + j) ∷ l) (ap (list_in f n) (sym (add-suc k j)) ∙ list_from f n k (suc j))

-- ---- an array of `cap` places that holds xs from its front, written as two tables and read back
module _ {A B C : Type 0} (cap : ℕ) (d : A) (xs : List A) (few : length xs ≤ cap) (g : A → List B) (h : A → List C) (back : List B → List C → A) (same : (x : A) → back (g x) (h x) ≡ x) where
  held : {D : Type 0} (f : A → List D) (i : ℕ) → i < length xs → get_or (map f (filled cap d xs)) i [] ≡ f (get_or xs i d)
  held f i l = map_get f (filled cap d xs) i d [] (omega (arith, l, few, length-filled cap d xs)) ∙ ap f (get_d_filled cap d xs i d few l)

  array_back : (rows : List (List B)) (names : List (List C)) (k : ℕ)
      → ((i : ℕ) → i < cap → get_or rows (k + i) [] ≡ get_or (map g (filled cap d xs)) i [])
      → ((i : ℕ) → i < cap → get_or names (k + i) [] ≡ get_or (map h (filled cap d xs)) i [])
      → list_in (λ i. back (get_or rows i []) (get_or names i [])) (length xs) k ≡ xs
  array_back rows names k er en =
      ap (list_in (λ i. back (get_or rows i []) (get_or names i [])) (length xs)) (sym (add-zero k))
      ∙ list_from (λ i. back (get_or rows i []) (get_or names i [])) (length xs) k 0
      ∙ list_as (λ i. back (get_or rows (k + i) []) (get_or names (k + i) [])) xs d
      (λ i l. ap₂ back (er i (omega (arith, l, few)) ∙ held g i l) (en i (omega (arith, l, few)) ∙ held h i l) ∙ same (get_or xs i d))
      (length xs) 0 (omega arith)
      ∙ take-length xs

-- ---- a side read back
-- the rows of side k in the tables are those of s
record SideRows (t : TableRows) (k : ℕ) (s : SideFeatures) : Type 0 where
  face : (i : ℕ) → i < 12 → get_or t.faces (12 * k + i) [] ≡ get_or (face_rows s) i []
  fname : (i : ℕ) → i < 12 → get_or t.fnames (12 * k + i) [] ≡ get_or (face_names s) i []
  disc : (i : ℕ) → i < 28 → get_or t.discs (28 * k + i) [] ≡ get_or (disc_rows s) i []
  dname : (i : ℕ) → i < 28 → get_or t.dnames (28 * k + i) [] ≡ get_or (disc_names s) i []

module _ (t : TableRows) (r k : ℕ) (g : PairGeometry) where
  from_back : (body part : ℕ) (fs : List PlacedFace) (ds : List PlacedDisc) (c : Point) → length fs ≤ 12 → length ds ≤ 28 → SideRows t k (side_from body fs ds (Piece.Center part) c)
      → side_at t r ≡ facts_of k g (side_from body fs ds (Piece.Center part) c) → center_at t r ≡ c → side_in t r ≡ side_from body fs ds (Piece.Center part) c
  from_back body part fs ds c few-f few-d w e p =
      let x = array_back 12 no_face fs few-f (λ q. face_row q.face) (λ q. piece_row q.piece) (λ a b. record { piece = piece_from b; face = face_from a })
      (λ q. ap (λ n. record { piece = n; face = q.face }) (piece_back q.piece))
      t.faces t.fnames (12 * k) w.face w.fname in
      let y = array_back 28 no_disc ds few-d (λ q. disc_row q.disc) (λ q. piece_row q.piece) (λ a b. record { piece = piece_from b; disc = disc_from a })
      (λ q. ap (λ n. record { piece = n; disc = q.disc }) (piece_back q.piece))
      t.discs t.dnames (28 * k) w.disc w.dname in
      ap (λ (s : SideFacts). features_by t s (center_at t r)) e
      ∙ ap₂ (λ (l : List PlacedFace) (m : List PlacedDisc). side_from body l m (Piece.Center part) (center_at t r)) x y
      ∙ ap (λ (q : Point). side_from body fs ds (Piece.Center part) q) p

  side-back : (ps : Parts) (o : Outlines) (u : Surface) (wanted : Bool) → FewOnSide (side_of ps o u wanted) → SideRows t k (side_of ps o u wanted)
      → side_at t r ≡ facts_of k g (side_of ps o u wanted) → center_at t r ≡ (side_of ps o u wanted).center.point → side_in t r ≡ side_of ps o u wanted
  unfolding side_of
  side-back ps o u wanted few w e p = from_back _ _ (faces_of (traversals_of ps o u)) (discs_of (traversals_of ps o u)) _ few.faces few.discs w e p

-- ---- pair i of an accepted description
abbrev pub features_of : Mechanism → ℕ → PairFeatures
features_of m i = pair_features m.parts m.outlines (pair_at m.pairs i)

abbrev pub cuts_of : Mechanism → ℕ → Bool
cuts_of m i = less_cuts (pair_at m.pairs i).geometry

-- how many faces and discs the sides of each pair hold
module _ (m : Mechanism) where
  faces-long-a : (k : ℕ) → length (features_of m k).a.face ≡ 12
  faces-long-a k = faces_a m.parts m.outlines (pair_at m.pairs k)

  faces-long-b : (k : ℕ) → length (features_of m k).b.face ≡ 12
  faces-long-b k = faces_b m.parts m.outlines (pair_at m.pairs k)

  discs-long-a : (k : ℕ) → length (features_of m k).a.disc ≡ 28
  discs-long-a k = discs_a m.parts m.outlines (pair_at m.pairs k)

  discs-long-b : (k : ℕ) → length (features_of m k).b.disc ≡ 28
  discs-long-b k = discs_b m.parts m.outlines (pair_at m.pairs k)

module _ (m : Mechanism) (e : check_of m ≡ Ok tt) (i : ℕ) (h : i < m.pairs.count) where
  i_small : i < 16
  i_small = let f = (accepted-few m e).pairs.count in omega (arith, f, h)

  few-a : FewOnSide (features_of m i).a
  few-a = (accepted-few-features m e i h).a

  few-b : FewOnSide (features_of m i).b
  few-b = (accepted-few-features m e i h).b

  module _ (t : TableRows) (agree : Agrees t.sides (side_table m)) where
    side-row : (j : ℕ) → j < 2 → get_or t.sides (2 * i + j) [] ≡ get_or (pair_sides m.parts m.outlines (pair_at m.pairs i) i) j []
    side-row j l = row_read (λ k. pair_sides m.parts m.outlines (pair_at m.pairs k) k) 2 m.pairs.count (λ k. refl) t.sides agree i j h l

    pub side-a : side_at t (row_a i) ≡ facts_of (2 * i) (pair_at m.pairs i).geometry (features_of m i).a
    side-a =
        let l = i_small in
        let x = few-a.faces in
        let y = few-a.discs in
        let z : row_a i ≡ 2 * i + 0 = row-a-is i (omega (arith, l)) ∙ sym (add-zero (2 * i)) in
        ap facts_from (ap (λ (k : ℕ). get_or t.sides k []) z ∙ side-row 0 (omega arith)) ∙ facts_back (2 * i) (pair_at m.pairs i).geometry (features_of m i).a (omega (arith, l)) x (omega (arith, y))

    pub side-b : side_at t (row_b i) ≡ facts_of (2 * i + 1) (pair_at m.pairs i).geometry (features_of m i).b
    side-b =
        let l = i_small in
        let x = few-b.faces in
        let y = few-b.discs in
        ap facts_from (ap (λ (k : ℕ). get_or t.sides k []) (row-b-is i (omega (arith, l))) ∙ side-row 1 (omega arith))
        ∙ facts_back (2 * i + 1) (pair_at m.pairs i).geometry (features_of m i).b (omega (arith, l)) x (omega (arith, y))

    pub geometry_a : (side_at t (row_a i)).geometry ≡ geometry_of (pair_at m.pairs i).geometry
    geometry_a = ap (λ (s : SideFacts). s.geometry) side-a

  module _ (t : TableRows) (agree : Agrees t.centers (center_table m)) where
    center_row : (j : ℕ) → j < 2 → get_or t.centers (2 * i + j) [] ≡ get_or (pair_centers m.parts m.outlines (pair_at m.pairs i)) j []
    center_row j l = row_read (λ k. pair_centers m.parts m.outlines (pair_at m.pairs k)) 2 m.pairs.count (λ k. refl) t.centers agree i j h l

    pub center_a : center_at t (row_a i) ≡ (features_of m i).a.center.point
    center_a =
        let l = i_small in
        let z : row_a i ≡ 2 * i + 0 = row-a-is i (omega (arith, l)) ∙ sym (add-zero (2 * i)) in
        ap point_from (ap (λ (k : ℕ). get_or t.centers k []) z ∙ center_row 0 (omega arith))

    pub center_b : center_at t (row_b i) ≡ (features_of m i).b.center.point
    center_b =
        let l = i_small in
        ap point_from (ap (λ (k : ℕ). get_or t.centers k []) (row-b-is i (omega (arith, l))) ∙ center_row 1 (omega arith))

  module _ (t : TableRows) (agree-f : Agrees t.faces (face_table m)) (agree-n : Agrees t.fnames (face_name_table m))
      (agree-d : Agrees t.discs (disc_table m)) (agree-m : Agrees t.dnames (disc_name_table m)) where
    rows-a : SideRows t (2 * i) (features_of m i).a
    rows-a = record {
      face = λ j l. row-a (λ q. face_row q.face) (λ s. s.face) (features_of m) 12 m.pairs.count (faces-long-a m) (faces-long-b m) t.faces agree-f i j h l;
      fname = λ j l. row-a (λ q. piece_row q.piece) (λ s. s.face) (features_of m) 12 m.pairs.count (faces-long-a m) (faces-long-b m) t.fnames agree-n i j h l;
      disc = λ j l. row-a (λ q. disc_row q.disc) (λ s. s.disc) (features_of m) 28 m.pairs.count (discs-long-a m) (discs-long-b m) t.discs agree-d i j h l;
      dname = λ j l. row-a (λ q. piece_row q.piece) (λ s. s.disc) (features_of m) 28 m.pairs.count (discs-long-a m) (discs-long-b m) t.dnames agree-m i j h l;
    }

    rows-b : SideRows t (2 * i + 1) (features_of m i).b
    rows-b = record {
      face = λ j l. row-b (λ q. face_row q.face) (λ s. s.face) (features_of m) 12 m.pairs.count (faces-long-a m) (faces-long-b m) t.faces agree-f i j h l;
      fname = λ j l. row-b (λ q. piece_row q.piece) (λ s. s.face) (features_of m) 12 m.pairs.count (faces-long-a m) (faces-long-b m) t.fnames agree-n i j h l;
      disc = λ j l. row-b (λ q. disc_row q.disc) (λ s. s.disc) (features_of m) 28 m.pairs.count (discs-long-a m) (discs-long-b m) t.discs agree-d i j h l;
      dname = λ j l. row-b (λ q. piece_row q.piece) (λ s. s.disc) (features_of m) 28 m.pairs.count (discs-long-a m) (discs-long-b m) t.dnames agree-m i j h l;
    }

    module _ (agree-s : Agrees t.sides (side_table m)) (agree-c : Agrees t.centers (center_table m)) where
      pub side-in_a : side_in t (row_a i) ≡ (features_of m i).a
      unfolding pair_features
      side-in_a = side-back t (row_a i) (2 * i) (pair_at m.pairs i).geometry m.parts m.outlines (pair_at m.pairs i).a false few-a rows-a (side-a t agree-s) (center_a t agree-c)

      pub side-in_b : side_in t (row_b i) ≡ (features_of m i).b
      unfolding pair_features
      side-in_b = side-back t (row_b i) (2 * i + 1) (pair_at m.pairs i).geometry m.parts m.outlines (pair_at m.pairs i).b (center_of_b (pair_at m.pairs i).geometry)
          few-b rows-b (side-b t agree-s) (center_b t agree-c)

      -- the features of a pair, read from the tables
      pub pair-in : pair_in t i ≡ features_of m i
      unfolding pair_in
      pair-in = ap₂ (λ (a b : SideFeatures). record { a = a; b = b }) side-in_a side-in_b

  module _ (t : TableRows) (agree : Agrees t.choices (choice_table m)) where
    choice_row : (j n : ℕ) → j < 4 → n ≡ 4 * i + j → (r : List ℕ) → get_or (pair_choices m.parts (pair_at m.pairs i)) j [] ≡ r → 0 < length r → choice_at t n ≡ record { what = r }
    choice_row j n l z r q s =
        ap (λ (x : List ℕ). record { what = x })
        (row-there t.choices n (replicate 32 0) r s
        (ap (λ (k : ℕ). get_or t.choices k []) z ∙ row_read (λ k. pair_choices m.parts (pair_at m.pairs k)) 4 m.pairs.count (λ k. refl) t.choices agree i j h l ∙ q))

    material_row : (k n : ℕ) → n ≡ k → k ≤ 33 → row_of_material n ≡ 2 * k
    material_row k n p q = ap (λ (x : ℕ). 2 * at_most x 33) p ∙ ap (λ (x : ℕ). 2 * x) (at-most_is k 33 q)

    chosen-long : (u : Surface) → 0 < length (side_chosen m.parts u (cuts_of m i)).what
    unfolding side_chosen list_in
    chosen-long u = omega arith

    sampled_long : (u : Surface) → 0 < length (sampled_row m.parts u)
    unfolding list_in
    sampled_long u = omega arith

    at_a : row_of_material (row_a i) ≡ 4 * i
    at_a = let l = i_small in omega (arith, material_row (2 * i) (row_a i) (row-a-is i (omega (arith, l))) (omega (arith, l)))

    at_b : row_of_material (row_b i) ≡ 4 * i + 2
    at_b = let l = i_small in omega (arith, material_row (2 * i + 1) (row_b i) (row-b-is i (omega (arith, l))) (omega (arith, l)))

    pub material_a : choice_at t (row_of_material (row_a i)) ≡ side_chosen m.parts (pair_at m.pairs i).a (cuts_of m i)
    material_a = choice_row 0 (row_of_material (row_a i)) (omega arith) (omega (arith, at_a)) (side_chosen m.parts (pair_at m.pairs i).a (cuts_of m i)).what refl (chosen-long (pair_at m.pairs i).a)

    pub material_b : choice_at t (row_of_material (row_b i)) ≡ side_chosen m.parts (pair_at m.pairs i).b (cuts_of m i)
    material_b = choice_row 2 (row_of_material (row_b i)) (omega arith) at_b (side_chosen m.parts (pair_at m.pairs i).b (cuts_of m i)).what refl (chosen-long (pair_at m.pairs i).b)

    pub sampled_a : choice_at t (row_of_sampled (row_a i)) ≡ record { what = sampled_row m.parts (pair_at m.pairs i).a }
    sampled_a = choice_row 1 (row_of_sampled (row_a i)) (omega arith) (omega (arith, at_a)) (sampled_row m.parts (pair_at m.pairs i).a) refl (sampled_long (pair_at m.pairs i).a)

    pub sampled_b : choice_at t (row_of_sampled (row_b i)) ≡ record { what = sampled_row m.parts (pair_at m.pairs i).b }
    sampled_b = choice_row 3 (row_of_sampled (row_b i)) (omega arith) (omega (arith, at_b)) (sampled_row m.parts (pair_at m.pairs i).b) refl (sampled_long (pair_at m.pairs i).b)
