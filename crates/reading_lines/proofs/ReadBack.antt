-- What is written is read back: a whole number by `number_of`, a float by `float_of`. Assumes nothing.
use Prim.Native.Nat.{ℕ, zero, suc, ◌+◌, ◌*◌, ◌-◌, ◌/◌, ◌%◌, ◌^◌, ◌<◌, ◌≤◌}
use native.Mathlib.Omega.{arith}
use native.Mathlib.Numerals.{add-one}
use native.Mathlib.Nat.{pow-suc, pow-zero, mod-lt, mod-eq_of_lt, div-add-mod', div-lt_iff_lt-mul}
use mathlib.Core.Path.{◌≡◌, refl, sym, ap, ap₂, subst, ◌∙◌}
use mathlib.Core.Bool.{Bool, true, false, not, ◌&&◌}
use mathlib.Core.List.{List, [], ◌∷◌, ◌++◌}
use lib.Dec.{T, ltb, leb}
use lib.ListN.{length, get_or, get_or-append}
use lib.Ieee.{Float, binary64, fits, of_bits, to_bits}
use lib.Ieee.Bits.{of_bits-to_bits, to_bits-lt}
use borrow.Author.Tests.{ltb-true, ltb-false, lt-ltb, le-leb, lt-leb, eq-eqb, ne_eqb}
use Rattle.laws.proofs.Choice.{cond_yes, cond_no, and_yes, no_and, or_yes, or_no, both}
use Rattle.text.specs.Lists.{all_of, fold_of}
use Rattle.text.specs.Fields.{is_digit, written, decimal, number_of, is_hex, hex_of, pattern, float_of}
use Rattle.reading_lines.specs.Digits.{digit_of, last_digits, digit_count, decimal_of, pattern_of}
use Rattle.reading_lines.proofs.DigitLaws.{digit_low, digit-high, length_last, length-decimal, count-one, count-more}
use Rattle.std.proofs.Common.{Some}

-- ---- the list of one digit more
module _ {A : Type 0} (f : A → ℕ → A) where
  fold_last : (a : A) (xs : List ℕ) (b : ℕ) → fold_of f a (xs ++ (b ∷ [])) ≡ f (fold_of f a xs) b
  unfolding fold_of
  fold_last a [] b = refl
  fold_last a (x ∷ xs) b = fold_last (f a x) xs b

all-last : (p : ℕ → Bool) (xs : List ℕ) (b : ℕ) → all_of p xs ≡ true → p b ≡ true → all_of p (xs ++ (b ∷ [])) ≡ true
unfolding all_of
all-last p [] b e q = and_yes _ q
all-last p (x ∷ xs) b e q =
    let h = both (p x) (all_of p xs) e in
    and_yes _ h.0 ∙ all-last p xs b h.1 q

-- ---- the digits of a base: each is good, and they are read back to the number
module _ (base : ℕ) (some : 0 < base) where
  pub good_last : (good : ℕ → Bool) → ((d : ℕ) → d < base → good (digit_of d) ≡ true) → (n v : ℕ) → all_of good (last_digits base n v) ≡ true
  unfolding last_digits all_of
  good_last good is zero v = refl
  good_last good is (suc n) v = all-last good (last_digits base n (v / base)) (digit_of (v % base)) (good_last good is n (v / base)) (is (v % base) (mod-lt v some))

  pub read_last : (value : ℕ → ℕ) → ((d : ℕ) → d < base → value (digit_of d) ≡ d) → (n v : ℕ) → v < base ^ n
      → fold_of (λ (a b : ℕ). a * base + value b) 0 (last_digits base n v) ≡ v
  unfolding last_digits fold_of
  read_last value back zero v h = let l : v < 1 = subst (λ (k : ℕ). v < k) (pow-zero base) h in omega (arith, l)
  read_last value back (suc n) v h =
      let l : v / base < base ^ n = (div-lt_iff_lt-mul some).1 (subst (λ (k : ℕ). v < k) (pow-suc base n) h) in
      fold_last (λ (a b : ℕ). a * base + value b) 0 (last_digits base n (v / base)) (digit_of (v % base))
      ∙ ap₂ (λ (a b : ℕ). a * base + b) (read_last value back n (v / base) l) (back (v % base) (mod-lt v some))
      ∙ div-add-mod' v base

-- ---- decimal digits
digit-is : (d : ℕ) → d < 10 → is_digit (digit_of d) ≡ true
digit-is d h =
    ap is_digit (digit_low d h) ∙ and_yes _ (le-leb 48 (48 + d) (omega arith)) ∙ le-leb (48 + d) 57 (omega arith)

digit-back : (d : ℕ) → d < 10 → digit_of d - 48 ≡ d
digit-back d h = omega (arith, digit_low d h)

-- ---- hexadecimal digits
letter_no_digit : (d : ℕ) → 10 ≤ d → is_digit (digit_of d) ≡ false
letter_no_digit d h = ap is_digit (digit-high d h) ∙ no_and (leb 48 (97 + (d - 10))) (lt-leb (97 + (d - 10)) 57 (omega arith))

hex_is : (d : ℕ) → d < 16 → is_hex (digit_of d) ≡ true
hex_is d h = go (ltb d 10) refl
  where
    go : (t : Bool) → ltb d 10 ≡ t → is_hex (digit_of d) ≡ true
    go true e = or_yes _ (digit-is d (ltb-true d 10 e))
    go false e =
        let l : 10 ≤ d = ltb-false d 10 e in
        let a : (leb 97 (digit_of d) && leb (digit_of d) 102) ≡ true =
        ap (λ (b : ℕ). leb 97 b && leb b 102) (digit-high d l) ∙ and_yes _ (le-leb 97 (97 + (d - 10)) (omega arith)) ∙ le-leb (97 + (d - 10)) 102 (omega arith) in
        or_no _ (letter_no_digit d l) ∙ a

hex_back : (d : ℕ) → d < 16 → hex_of (digit_of d) ≡ d
hex_back d h = go (ltb d 10) refl
  where
    go : (t : Bool) → ltb d 10 ≡ t → hex_of (digit_of d) ≡ d
    go true e =
        let l : d < 10 = ltb-true d 10 e in
        cond_yes _ _ (digit-is d l) ∙ digit-back d l
    go false e =
        let l : 10 ≤ d = ltb-false d 10 e in
        let q : digit_of d - 97 + 10 ≡ d = omega (arith, digit-high d l) in
        cond_no _ _ (letter_no_digit d l) ∙ q

-- ---- as many decimal digits as a number needs, and no more
pub count-some : (k v : ℕ) → 1 ≤ digit_count k v
unfolding digit_count
count-some zero v = omega arith
count-some (suc k) v = go (ltb v 10) refl
  where
    go : (t : Bool) → ltb v 10 ≡ t → 1 ≤ digit_count (suc k) v
    go true e = omega (arith, count-one (suc k) v (ltb-true v 10 e))
    go false e = omega (arith, count-more k v (ltb-false v 10 e))

shorter : (k v : ℕ) → v < 10 ^ (suc k + 1) → v / 10 < 10 ^ (k + 1)
shorter k v h =
    let e : suc k + 1 ≡ suc (k + 1) = omega arith in
    let l : v < 10 ^ (k + 1) * 10 = subst (λ (p : ℕ). v < p) (ap (λ (n : ℕ). 10 ^ n) e ∙ pow-suc 10 (k + 1)) h in
    omega (arith, l)

longer : (n v : ℕ) → v / 10 < 10 ^ n → v < 10 ^ (n + 1)
longer n v h = subst (λ (p : ℕ). v < p) (sym (ap (λ (k : ℕ). 10 ^ k) (add-one n) ∙ pow-suc 10 n)) (omega arith)

pub count-enough : (k v : ℕ) → v < 10 ^ (k + 1) → v < 10 ^ digit_count k v
unfolding digit_count
count-enough zero v h = h
count-enough (suc k) v h = go (count-enough k (v / 10) (shorter k v h)) (ltb v 10) refl
  where
    go : v / 10 < 10 ^ digit_count k (v / 10) → (t : Bool) → ltb v 10 ≡ t → v < 10 ^ digit_count (suc k) v
    go more true e =
        let l : v < 10 = ltb-true v 10 e in
        subst (λ (n : ℕ). v < 10 ^ n) (sym (count-one (suc k) v l)) l
    go more false e = subst (λ (n : ℕ). v < 10 ^ n) (sym (count-more k v (ltb-false v 10 e))) (longer (digit_count k (v / 10)) v more)

-- ---- the first digit of a number above 0 is above 0
first-of-one : (v : ℕ) → 0 < v → v < 10 → 48 < get_or (last_digits 10 1 v) 0 0
unfolding last_digits
first-of-one v p h = omega (arith, ap digit_of (mod-eq_of_lt h) ∙ digit_low v h)

first-of-more : (n v : ℕ) → 1 ≤ n → get_or (last_digits 10 (n + 1) v) 0 0 ≡ get_or (last_digits 10 n (v / 10)) 0 0
unfolding last_digits
first-of-more n v h =
    ap (λ (k : ℕ). get_or (last_digits 10 k v) 0 0) (add-one n)
    ∙ get_or-append (last_digits 10 n (v / 10)) (digit_of (v % 10) ∷ []) 0 0 (omega (arith, length_last 10 n (v / 10)))

pub first-digit : (k v : ℕ) → 0 < v → v < 10 ^ (k + 1) → 48 < get_or (last_digits 10 (digit_count k v) v) 0 0
unfolding digit_count
first-digit zero v p h = first-of-one v p h
first-digit (suc k) v p h = go (λ l. first-digit k (v / 10) (omega arith) (shorter k v h)) (ltb v 10) refl
  where
    go : (10 ≤ v → 48 < get_or (last_digits 10 (digit_count k (v / 10)) (v / 10)) 0 0) → (t : Bool) → ltb v 10 ≡ t → 48 < get_or (last_digits 10 (digit_count (suc k) v) v) 0 0
    go more true e =
        let l : v < 10 = ltb-true v 10 e in
        subst (λ (n : ℕ). 48 < get_or (last_digits 10 n v) 0 0) (sym (count-one (suc k) v l)) (first-of-one v p l)
    go more false e =
        let l : 10 ≤ v = ltb-false v 10 e in
        subst (λ (n : ℕ). 48 < get_or (last_digits 10 n v) 0 0) (sym (count-more k v l))
        (subst (λ (b : ℕ). 48 < b) (sym (first-of-more (digit_count k (v / 10)) v (count-some k (v / 10)))) (more l))

-- ---- a whole number
zero_written : written (decimal_of 0) ≡ true
unfolding decimal_of digit_count last_digits written
zero_written = refl

pub decimal-written : (v : ℕ) → v < 10 ^ 20 → written (decimal_of v) ≡ true
unfolding decimal_of written
decimal-written v h = go (ltb 0 v) refl
  where
    go : (t : Bool) → ltb 0 v ≡ t → written (decimal_of v) ≡ true
    go true e =
        let f = decimal_of v in
        let s : 0 < length f = omega (arith, length-decimal v, count-some 19 v) in
        let g : 48 < get_or f 0 0 = first-digit 19 v (ltb-true 0 v e) h in
        and_yes _ (lt-ltb 0 (length f) s) ∙ ap not (no_and (ltb 1 (length f)) (ne_eqb (get_or f 0 0) 48 (λ q. omega (arith, g))))
    go false e =
        let z : v ≡ 0 = omega (arith, ltb-false 0 v e) in
        ap (λ (n : ℕ). written (decimal_of n)) z ∙ zero_written

pub decimal-digits : (v : ℕ) → all_of is_digit (decimal_of v) ≡ true
unfolding decimal_of
decimal-digits v = good_last 10 (omega arith) is_digit digit-is (digit_count 19 v) v

pub decimal-back : (v : ℕ) → v < 10 ^ 20 → decimal (decimal_of v) ≡ v
unfolding decimal_of decimal
decimal-back v h = read_last 10 (omega arith) (λ (b : ℕ). b - 48) digit-back (digit_count 19 v) v (count-enough 19 v h)

pub number-back : (v : ℕ) → v ≤ 65535 → number_of (decimal_of v) ≡ Some v
unfolding number_of
number-back v h =
    let l : v < 10 ^ 20 = omega arith in
    let d : decimal (decimal_of v) ≡ v = decimal-back v l in
    let s : leb (decimal (decimal_of v)) 65535 ≡ true = le-leb (decimal (decimal_of v)) 65535 (omega (arith, d)) in
    cond_yes _ _ (and_yes _ (decimal-written v l) ∙ and_yes _ (decimal-digits v) ∙ s) ∙ ap Some d

-- ---- a float
pub length-pattern : (x : Float) → length (pattern_of x) ≡ 16
unfolding pattern_of
length-pattern x = length_last 16 16 (to_bits binary64 x)

pub pattern-digits : (x : Float) → all_of is_hex (pattern_of x) ≡ true
unfolding pattern_of
pattern-digits x = good_last 16 (omega arith) is_hex hex_is 16 (to_bits binary64 x)

pub bits_back : (x : Float) → T (fits binary64 x) → pattern (pattern_of x) ≡ to_bits binary64 x
unfolding pattern_of pattern
bits_back x h = read_last 16 (omega arith) hex_of hex_back 16 (to_bits binary64 x) (to_bits-lt binary64 x h)

-- a double, the NaN among them
pub pattern-back : (x : Float) → T (fits binary64 x) → float_of (pattern_of x) ≡ Some x
unfolding float_of
pattern-back x h =
    cond_yes _ _ (and_yes _ (eq-eqb (length (pattern_of x)) 16 (length-pattern x)) ∙ pattern-digits x)
    ∙ ap Some (ap (of_bits binary64) (bits_back x h) ∙ of_bits-to_bits binary64 x h)
