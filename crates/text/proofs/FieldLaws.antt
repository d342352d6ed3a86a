-- Laws of the loops that read fields: each record says how far a loop has come. Assumes nothing.
use Prim.Native.Nat.{ℕ, suc, ◌+◌, ◌*◌, ◌-◌, ◌^◌, ◌<◌, ◌≤◌}
use mathlib.Core.Path.{◌≡◌, refl, sym, ap, ap₂, ◌∙◌}
use mathlib.Core.Bool.{Bool, true, false, cond, ◌&&◌, ◌||◌}
use mathlib.Core.List.{List, [], ◌∷◌}
use native.Mathlib.Omega.{arith}
use native.Mathlib.Numerals.{add-one}
use native.Mathlib.Nat.{mul-add}
use lib.Dec.{ltb, leb, eqb}
use lib.ListN.{get_or, length, take, drop, drop_of_length-le}
use lib.Seq.{drop-cons}
use lib.Pow.{pow_mono, pow-add}
use lib.Ieee.{Float, of_bits, binary64}
use borrow.Author.Tests.{ltb-true, ltb-false, le-leb, lt-leb, leb-true, eq-eqb, ne_eqb}
use Rattle.laws.proofs.Choice.{cond_yes, cond_no, and_yes, and_no, no_and, both}
use Rattle.text.specs.Lists.{all_of, fold_of}
use Rattle.text.specs.Pieces.{split}
use Rattle.text.proofs.Lists.{all_yes, all-no, all_done, fold_turn, fold_done}
use Rattle.text.proofs.Pieces.{Piece, at_least_one}
use Rattle.text.specs.Fields.{is_digit, written, tens, decimal, number_of, is_hex, hex_of, sixteens, pattern, float_of, is_kind, fits_form, field_at}
use Rattle.std.proofs.Common.{Option, Some, None, unwrap_or}

-- a number only grows with more digits
pub decimal-grows : (ds : List ℕ) (v : ℕ) → v ≤ fold_of tens v ds
unfolding fold_of
decimal-grows [] v = native.Mathlib.Nat.le_refl v
decimal-grows (b ∷ bs) v = omega (arith, decimal-grows bs (v * 10 + (b - 48)))

pub digit-range : (b : ℕ) → is_digit b ≡ true → (48 ≤ b) × (b ≤ 57)
digit-range b e = (leb-true 48 b (both (leb 48 b) (leb b 57) e).0, leb-true b 57 (both (leb 48 b) (leb b 57) e).1)

-- ---- hexadecimal digits
module _ (b : ℕ) where
  -- the value that a byte has, if any
  abbrev pub hex_or : Option ℕ
  hex_or = cond (is_hex b) (Some (hex_of b)) None

  hex_less : is_hex b ≡ true → hex_of b < 16
  hex_less e = go (is_digit b) refl
    where
      go : (t : Bool) → is_digit b ≡ t → hex_of b < 16
      go true d = let q : hex_of b ≡ b - 48 = cond_yes _ _ d in omega (arith, digit-range b d)
      go false d =
          let g : (leb 97 b && leb b 102) ≡ true = ap (λ (x : Bool). x || (leb 97 b && leb b 102)) (sym d) ∙ e in
          let q : hex_of b ≡ b - 97 + 10 = cond_no _ _ d in
          omega (arith, leb-true b 102 (both (leb 97 b) (leb b 102) g).1)

  no-value : None ≡ hex_or → is_hex b ≡ false
  no-value e = go (is_hex b) refl
    where
      go : (t : Bool) → is_hex b ≡ t → is_hex b ≡ false
      go true h = let q : hex_or ≡ Some (hex_of b) = cond_yes _ _ h in cc
      go false h = h

  a-value : {x : ℕ} → Some x ≡ hex_or → (is_hex b ≡ true) × (x ≡ hex_of b) × (x < 16)
  a-value {x} e = go (is_hex b) refl
    where
      go : (t : Bool) → is_hex b ≡ t → (is_hex b ≡ true) × (x ≡ hex_of b) × (x < 16)
      go true h =
          let q : hex_or ≡ Some (hex_of b) = cond_yes _ _ h in
          let p : x ≡ hex_of b = cc in
          (h, p, omega (arith, hex_less h))
      go false h = let q : hex_or ≡ None = cond_no _ _ h in cc

pub hex_more : (v d k : ℕ) → v < 2 ^ (4 * k) → d < 16 → v * 16 + d < 2 ^ (4 * (k + 1))
hex_more v d k h l = rw (mul-add 4 k 1, pow-add 2 (4 * k) 4) (omega arith)

pub hex_room : (v k : ℕ) → v < 2 ^ (4 * k) → k < 16 → v < 2 ^ 60
hex_room v k h l = native.Mathlib.Nat.lt_of_lt_of_le h (pow_mono {i = 4 * k} {j = 60} (omega arith))

-- ---- a number that has been read up to i, and is v so far
pub record Digits (f : List ℕ) (i v : ℕ) : Type 0 where
  pub far : i ≤ length f
  pub good : written f ≡ true
  pub small : v ≤ 65535
  pub all : all_of is_digit (drop i f) ≡ all_of is_digit f
  pub value : fold_of tens v (drop i f) ≡ decimal f

pub not_written : (f : List ℕ) → written f ≡ false → None ≡ number_of f
unfolding number_of
not_written f e = sym (cond_no _ _ (and_no _ e))

module _ (f : List ℕ) where
  pub digits-start : written f ≡ true → Digits f 0 0
  unfolding decimal
  digits-start e = record { far = omega arith; good = e; small = omega arith; all = refl; value = refl }

module _ {f : List ℕ} {i v : ℕ} (h : i < length f) (d : Digits f i v) where
  pub not_digit : is_digit (get_or f i 0) ≡ false → None ≡ number_of f
  unfolding number_of
  not_digit e = sym (cond_no _ _ (no_and (written f) (and_no _ (sym d.all ∙ all-no is_digit f i h e))))

  grown : fold_of tens (tens v (get_or f i 0)) (drop (i + 1) f) ≡ decimal f
  grown = sym (fold_turn tens v f i h) ∙ d.value

  pub too_large : 65535 < tens v (get_or f i 0) → None ≡ number_of f
  unfolding number_of
  too_large l =
      let g : 65535 < decimal f = omega (arith, decimal-grows (drop (i + 1) f) (tens v (get_or f i 0)), grown) in
      sym (cond_no _ _ (no_and (written f) (no_and (all_of is_digit f) (lt-leb (decimal f) 65535 g))))

  pub digits_more : is_digit (get_or f i 0) ≡ true → tens v (get_or f i 0) ≤ 65535 → Digits f (i + 1) (tens v (get_or f i 0))
  digits_more e l = record { far = omega arith; good = d.good; small = l; all = sym (all_yes is_digit f i h e) ∙ d.all; value = grown }

pub digits-end : {f : List ℕ} {i v : ℕ} → length f ≤ i → Digits f i v → Some v ≡ number_of f
unfolding number_of
digits-end {f} {i} {v} h d =
    let a : all_of is_digit f ≡ true = sym d.all ∙ all_done is_digit f i h in
    let e : v ≡ decimal f = sym (fold_done tens v f i h) ∙ d.value in
    let s : leb (decimal f) 65535 ≡ true = ap (λ (n : ℕ). leb n 65535) (sym e) ∙ le-leb v 65535 d.small in
    ap Some e ∙ sym (cond_yes _ _ (and_yes _ d.good ∙ and_yes _ a ∙ s))

-- a whole number is at most 65,535
pub number_small : (f : List ℕ) → unwrap_or (number_of f) 0 ≤ 65535
unfolding number_of
number_small f = go (written f && (all_of is_digit f && leb (decimal f) 65535)) refl
  where
    go : (t : Bool) → (written f && (all_of is_digit f && leb (decimal f) 65535)) ≡ t → unwrap_or (number_of f) 0 ≤ 65535
    go true e =
        let h = both (all_of is_digit f) (leb (decimal f) 65535) (both (written f) _ e).1 in
        let q : number_of f ≡ Some (decimal f) = cond_yes _ _ e in
        omega (arith, leb-true (decimal f) 65535 h.1, ap (λ (w : Option ℕ). unwrap_or w 0) q)
    go false e =
        let q : number_of f ≡ None = cond_no _ _ e in
        omega (arith, ap (λ (w : Option ℕ). unwrap_or w 0) q)

-- ---- a float that has been read up to k, and whose pattern is v so far
pub record Hexes (f : List ℕ) (k v : ℕ) : Type 0 where
  pub far : k ≤ length f
  pub long : length f ≡ 16
  pub small : v < 2 ^ (4 * k)
  pub all : all_of is_hex (drop k f) ≡ all_of is_hex f
  pub value : fold_of sixteens v (drop k f) ≡ pattern f

pub not_sixteen : (f : List ℕ) → (length f ≡ 16 → ⊥) → None ≡ float_of f
unfolding float_of
not_sixteen f e = sym (cond_no _ _ (and_no _ (ne_eqb (length f) 16 e)))

pub hexes_start : (f : List ℕ) → length f ≡ 16 → Hexes f 0 0
unfolding pattern
hexes_start f e = record { far = omega arith; long = e; small = omega arith; all = refl; value = refl }

module _ {f : List ℕ} {k v : ℕ} (h : k < length f) (d : Hexes f k v) where
  pub not_hex : None ≡ hex_or (get_or f k 0) → None ≡ float_of f
  unfolding float_of
  not_hex e = sym (cond_no _ _ (no_and (eqb (length f) 16) (sym d.all ∙ all-no is_hex f k h (no-value (get_or f k 0) e))))

  pub hexes_more : {x : ℕ} → Some x ≡ hex_or (get_or f k 0) → Hexes f (k + 1) (v * 16 + x)
  hexes_more {x} e =
      let b = a-value (get_or f k 0) e in
      record {
        far = omega arith;
        long = d.long;
        small = hex_more v x k d.small b.2;
        all = sym (all_yes is_hex f k h b.0) ∙ d.all;
        value = ap (λ (n : ℕ). fold_of sixteens (v * 16 + n) (drop (k + 1) f)) b.1 ∙ sym (fold_turn sixteens v f k h) ∙ d.value;
      }

  pub hexes_room : v < 2 ^ 60
  hexes_room = hex_room v k d.small (omega (arith, d.long))

-- sixteen digits fit 64 bits
pub hexes_small : {f : List ℕ} {k v : ℕ} → Hexes f k v → v < 2 ^ 64
hexes_small {f} {k} {v} d = native.Mathlib.Nat.lt_of_lt_of_le d.small (pow_mono {i = 4 * k} {j = 64} (omega (arith, d.far, d.long)))

pub hexes_end : {f : List ℕ} {k v : ℕ} {x : Float} → length f ≤ k → Hexes f k v → x ≡ of_bits binary64 v → Some x ≡ float_of f
unfolding float_of
hexes_end {f} {k} {v} h d o =
    let a : all_of is_hex f ≡ true = sym d.all ∙ all_done is_hex f k h in
    let e : v ≡ pattern f = sym (fold_done sixteens v f k h) ∙ d.value in
    ap Some (o ∙ ap (of_bits binary64) e) ∙ sym (cond_yes _ _ (and_yes _ (eq-eqb (length f) 16 d.long) ∙ a))

-- ---- a line of which j fields fit, the next starting at `at`
pub record Fitting (line form : List ℕ) (at j : ℕ) : Type 0 where
  pub within : at ≤ length line
  pub same : fits_form (drop j form) (split 44 (drop at line)) ≡ fits_form form (split 44 line)

-- a form that is used up fits no more fields
used : (form : List ℕ) (j : ℕ) → j ≤ length form → fits_form (drop j form) [] ≡ eqb j (length form)
unfolding fits_form
used form j h = go (ltb j (length form)) refl
  where
    go : (t : Bool) → ltb j (length form) ≡ t → fits_form (drop j form) [] ≡ eqb j (length form)
    go true e =
        ap (λ (l : List ℕ). fits_form l []) (drop-cons form j 0 (ltb-true j (length form) e))
        ∙ sym (ne_eqb j (length form) (λ q. omega (arith, ltb-true j (length form) e)))
    go false e =
        let l : length form ≤ j = ltb-false j (length form) e in
        ap (λ (x : List ℕ). fits_form x []) (drop_of_length-le form l) ∙ sym (eq-eqb j (length form) (omega arith))

module _ {line form : List ℕ} {at j e : ℕ} (h : j < length form) (w : Fitting line form at j) (p : Piece line 44 at e) where
  turn : (rest : List (List ℕ)) → split 44 (drop at line) ≡ take (e - at) (drop at line) ∷ rest
      → (is_kind (get_or form j 0) (take (e - at) (drop at line)) && fits_form (drop (j + 1) form) rest) ≡ fits_form form (split 44 line)
  unfolding fits_form
  turn rest q =
      ap (λ (i : ℕ). is_kind (get_or form j 0) (take (e - at) (drop at line)) && fits_form (drop i form) rest) (add-one j)
      ∙ sym (ap₂ fits_form (drop-cons form j 0 h) q)
      ∙ w.same

  pub fits-no : is_kind (get_or form j 0) (take (e - at) (drop at line)) ≡ false → false ≡ fits_form form (split 44 line)
  fits-no k = go (ltb e (length line)) refl
    where
      go : (t : Bool) → ltb e (length line) ≡ t → false ≡ fits_form form (split 44 line)
      go true q = sym (and_no _ k) ∙ turn (split 44 (drop (e + 1) line)) (p.more (ltb-true e (length line) q))
      go false q = sym (and_no _ k) ∙ turn [] (p.last (ltb-false e (length line) q))

  pub fits_last : is_kind (get_or form j 0) (take (e - at) (drop at line)) ≡ true → e ≡ length line → eqb (j + 1) (length form) ≡ fits_form form (split 44 line)
  fits_last k q = sym (used form (j + 1) (omega arith)) ∙ sym (and_yes _ k) ∙ turn [] (p.last (omega arith))

  pub fits_more : is_kind (get_or form j 0) (take (e - at) (drop at line)) ≡ true → (e ≡ length line → ⊥) → Fitting line form (e + 1) (j + 1)
  fits_more k q =
      let l : e < length line = omega (arith, p.within) in
      record { within = omega arith; same = sym (and_yes _ k) ∙ turn (split 44 (drop (e + 1) line)) (p.more l) }

pub fits-done : {line form : List ℕ} {at j : ℕ} → length form ≤ j → Fitting line form at j → false ≡ fits_form form (split 44 line)
unfolding fits_form
fits-done {line} {form} {at} {j} h w =
    sym (ap (λ (x : List ℕ). fits_form x (split 44 (drop at line))) (drop_of_length-le form h)
    ∙ at_least_one (λ (l : List (List ℕ)). fits_form [] l ≡ false) (λ f fs. refl) 44 (drop at line))
    ∙ w.same

-- ---- a line of which i fields are passed, the next starting at `at`
pub record Passing (line : List ℕ) (j at i : ℕ) : Type 0 where
  pub within : at ≤ length line
  pub far : i ≤ j
  pub same : field_at (split 44 (drop at line)) (j - i) ≡ field_at (split 44 line) j

nothing : (n : ℕ) (l : List ℕ) → n ≡ 0 → take n l ≡ []
nothing n l e = ap (λ (k : ℕ). take k l) e

module _ {line : List ℕ} {j at i e : ℕ} (w : Passing line j at i) (p : Piece line 44 at e) where
  pub passes-end : i < j → e ≡ length line → take (length line - e) (drop e line) ≡ field_at (split 44 line) j
  passes-end h q =
      let one : j - i ≡ suc (j - i - 1) = omega arith in
      nothing (length line - e) (drop e line) (omega arith)
      ∙ sym (ap₂ field_at (p.last (omega arith)) one)
      ∙ w.same

  pub passes : i < j → (e ≡ length line → ⊥) → Passing line j (e + 1) (i + 1)
  passes h q =
      let l : e < length line = omega (arith, p.within) in
      let one : j - i ≡ suc (j - (i + 1)) = omega arith in
      record { within = omega arith; far = omega arith; same = sym (ap₂ field_at (p.more l) one) ∙ w.same }

  pub passed : j ≤ i → take (e - at) (drop at line) ≡ field_at (split 44 line) j
  passed h = go (ltb e (length line)) refl
    where
      zero_left : j - i ≡ 0
      zero_left = omega (arith, w.far)

      go : (t : Bool) → ltb e (length line) ≡ t → take (e - at) (drop at line) ≡ field_at (split 44 line) j
      go true q = sym (ap₂ field_at (p.more (ltb-true e (length line) q)) zero_left) ∙ w.same
      go false q = sym (ap₂ field_at (p.last (ltb-false e (length line) q)) zero_left) ∙ w.same
