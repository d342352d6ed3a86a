-- Laws of the loops that write digits and count them. Assumes nothing.
use Prim.Native.Nat.{ℕ, zero, suc, ◌+◌, ◌*◌, ◌-◌, ◌/◌, ◌%◌, ◌^◌, ◌<◌, ◌≤◌}
use native.Mathlib.Omega.{arith}
use native.Mathlib.Numerals.{add-one}
use native.Mathlib.Nat.{pow-suc}
use mathlib.Core.Path.{◌≡◌, refl, sym, ap, ◌∙◌}
use mathlib.Core.List.{List, [], ◌∷◌}
use lib.ListN.{length, set, length-set, length-append}
use lib.Seq.{sets, set_comm}
use borrow.Author.Tests.{lt-ltb, le-ltb}
use Rattle.laws.proofs.Choice.{cond_yes, cond_no}
use Rattle.laws.proofs.Writing.{sets-append}
use Rattle.reading_lines.specs.Digits.{digit_of, last_digits, digit_count, decimal_of}

-- ---- one digit
pub digit_low : (d : ℕ) → d < 10 → digit_of d ≡ 48 + d
digit_low d h = cond_yes _ _ (lt-ltb d 10 h)

pub digit-high : (d : ℕ) → 10 ≤ d → digit_of d ≡ 97 + (d - 10)
digit-high d h = cond_no _ _ (le-ltb d 10 h)

-- ---- as many digits as are asked for
pub length_last : (base n v : ℕ) → length (last_digits base n v) ≡ n
unfolding last_digits
length_last base zero v = refl
length_last base (suc n) v =
    length-append (last_digits base n (v / base)) (digit_of (v % base) ∷ []) ∙ ap (λ (k : ℕ). k + 1) (length_last base n (v / base)) ∙ add-one n

-- ---- digits that are written from the last to the first
-- a place behind a run of stores may be stored to before it
set_before : (xs l : List ℕ) (i j d : ℕ) → i + length xs ≤ j → sets (set l j d) i xs ≡ set (sets l i xs) j d
set_before [] l i j d h = refl
set_before (x ∷ xs) l i j d h =
    ap (λ (m : List ℕ). sets m (suc i) xs) (set_comm l j i d x (λ e. omega arith))
    ∙ set_before xs (set l i x) (suc i) j d (omega arith)

last_turn : (out : List ℕ) (at base k w : ℕ) → sets (set out (at + k) (digit_of (w % base))) at (last_digits base k (w / base)) ≡ sets out at (last_digits base (suc k) w)
unfolding last_digits
last_turn out at base k w =
    let xs = last_digits base k (w / base) in
    let d = digit_of (w % base) in
    let e : length xs ≡ k = length_last base k (w / base) in
    set_before xs out at (at + k) d (omega arith)
    ∙ ap (λ (j : ℕ). set (sets out at xs) (at + j) d) (sym e)
    ∙ sym (sets-append xs (d ∷ []) out at)

-- A lent slice into which n digits of v are written, the last one first: the last `left` digits of `rest` are to come.
pub record Backwards (out₀ : List ℕ) (at base n v : ℕ) (out : List ℕ) (left rest : ℕ) : Type 0 where
  pub far : left ≤ n
  pub long : length out ≡ length out₀
  pub written : sets out at (last_digits base left rest) ≡ sets out₀ at (last_digits base n v)

module _ {out₀ : List ℕ} {at base n v : ℕ} {out : List ℕ} {left rest : ℕ} (w : Backwards out₀ at base n v out left rest) where
  pub writes_more : (d : ℕ) → 0 < left → d ≡ digit_of (rest % base) → Backwards out₀ at base n v (set out (at + (left - 1)) d) (left - 1) (rest / base)
  writes_more d h e =
      let one : suc (left - 1) ≡ left = omega arith in
      record {
        far = omega (arith, w.far);
        long = length-set out (at + (left - 1)) d ∙ w.long;
        written =
            ap (λ (b : ℕ). sets (set out (at + (left - 1)) b) at (last_digits base (left - 1) (rest / base))) e
            ∙ last_turn out at base (left - 1) rest
            ∙ ap (λ (k : ℕ). sets out at (last_digits base k rest)) one
            ∙ w.written;
      }

  pub writes_end : left ≤ 0 → out ≡ sets out₀ at (last_digits base n v)
  unfolding last_digits
  writes_end h = let none : left ≡ 0 = omega arith in ap (λ (k : ℕ). sets out at (last_digits base k rest)) (sym none) ∙ w.written

-- ---- digits that are counted
pub count-more : (k v : ℕ) → 10 ≤ v → digit_count (suc k) v ≡ digit_count k (v / 10) + 1
unfolding digit_count
count-more k v h = cond_no _ _ (le-ltb v 10 h)

pub count-one : (k v : ℕ) → v < 10 → digit_count k v ≡ 1
unfolding digit_count
count-one zero v h = refl
count-one (suc k) v h = cond_yes _ _ (lt-ltb v 10 h)

-- the power of ten below a number says how many
pub count-power : (n k v : ℕ) → k ≤ n → 10 ^ k ≤ v → v < 10 * 10 ^ k → digit_count n v ≡ k + 1
count-power n zero v b l h = count-one n v (omega arith)
count-power zero (suc k) v b l h = absurd (omega arith)
count-power (suc n) (suc k) v b l h =
    let p : 10 ^ suc k ≡ 10 ^ k * 10 = pow-suc 10 k in
    let one : 1 ≤ 10 ^ k = pow-some k in
    let r : digit_count n (v / 10) ≡ k + 1 = count-power n k (v / 10) (omega arith) (omega arith) (omega arith) in
    count-more n v (omega arith) ∙ omega arith
  where
    pow-some : (i : ℕ) → 1 ≤ 10 ^ i
    pow-some zero = omega arith
    pow-some (suc i) = omega (arith, pow-suc 10 i, pow-some i)

-- ---- a whole number
pub length-decimal : (v : ℕ) → length (decimal_of v) ≡ digit_count 19 v
unfolding decimal_of
length-decimal v = length_last 10 (digit_count 19 v) v
