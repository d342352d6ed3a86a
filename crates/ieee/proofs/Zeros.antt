-- Sums with a zero: beside a number that is no -0.0 the sign of the zero makes no difference. Sums commute, and of two doubles that are added to and subtracted from zero either may come first. Assumes nothing.
use Prim.Native.Nat.{ℕ, zero, suc, ◌+◌, ◌-◌, ◌*◌, ◌/◌, ◌%◌, ◌^◌, ◌<◌, ◌≤◌, compare, zero-le}
use native.Mathlib.Nat.{add-zero, add_comm, zero-mul, mul-one, mul_comm, mul_assoc, mul-pos, mul-lt-mul_of_pos_right, lt_of_lt_of_le, lt_irrefl, sub-zero}
use native.Mathlib.Omega.{arith}
use mathlib.Core.Path.{◌≡◌, refl, sym, ap, ap₂, ◌∙◌, subst}
use mathlib.Core.Bool.{Bool, true, false, true≢false, ◌&&◌, cond}
use lib.Dec.{T, ltb, leb, eqb, ltb→lt, leb→le}
use lib.IntN.{ℤ, pos, negsuc}
use lib.Pow.{pow-add, pow_pos, pow_mono, pow-lt, shl_lt}
use lib.Ieee.{Float, nan, inf, fin, binary64, prec, emax, low, up, down, size, nearest, odd, units, neg, sum, add, sub, round, eq, level, fits, of_bits}
use lib.Ieee.Exact.{HasValue, round_exact}
use lib.Ieee.Fits.{down_pos, and_l, and_r, round-fits, neg-fits}
use lib.Ieee.Scale.{round_same}
use borrow.Author.Tests.{lt-ltb, le-ltb, ltb-true, ltb-false, eqb-true, eq-eqb}
use Rattle.laws.proofs.Choice.{and_yes, and_no}
use Rattle.ieee.specs.Consts.{zero_f}
use Rattle.ieee.specs.Num.{plain_zero}
use Rattle.ieee.specs.Operators.{◌⊕◌, ◌⊖◌}
use Rattle.ieee.proofs.MinRoot.{same-value}

-- ±a / c and ±0 / c, for an a above 0
sum-zero : (s t : Bool) (a c : ℕ) → 0 < a → sum binary64 s a t 0 c ≡ round binary64 s a c
unfolding sum
sum-zero true true a c h = ap (λ (k : ℕ). round binary64 true k c) (add-zero a)
sum-zero true false a c h =
    ap (λ (b : Bool). cond b (round binary64 false (0 - a) c) (round binary64 (ltb 0 a) (a - 0) c)) (le-ltb a 0 zero-le)
    ∙ ap (λ (b : Bool). round binary64 b (a - 0) c) (lt-ltb 0 a h) ∙ ap (λ (k : ℕ). round binary64 true k c) (sub-zero a)
sum-zero false true a c h =
    ap (λ (b : Bool). cond b (round binary64 true (0 - a) c) (round binary64 false (a - 0) c)) (le-ltb a 0 zero-le)
    ∙ ap (λ (k : ℕ). round binary64 false k c) (sub-zero a)
sum-zero false false a c h = ap (λ (k : ℕ). round binary64 false k c) (add-zero a)

sum-none : (s t : Bool) (a b c : ℕ) → b ≡ 0 → 0 < a → sum binary64 s a t b c ≡ round binary64 s a c
sum-none s t a b c e h = ap (λ (k : ℕ). sum binary64 s a t k c) e ∙ sum-zero s t a c h

-- what does not equal 0 is above 0
above-none : (s : Bool) (a b : ℕ) → b ≡ 0 → level s a false b ≡ false → 0 < a
above-none true zero b e q = absurd (true≢false (sym (ap (level true 0 false) e) ∙ q))
above-none false zero b e q = absurd (true≢false (sym (ap (level false 0 false) e) ∙ q))
above-none s (suc a) b e q = omega arith

-- a number read with +0.0 for either zero, and a zero of either sign
pub plain-zeros : (x : Float) → plain_zero x ⊕ zero_f ≡ plain_zero x ⊕ neg zero_f
unfolding add eq neg of_bits
plain-zeros nan = refl
plain-zeros (inf s) = refl
plain-zeros (fin s m e) = go (eq (fin s m e) zero_f) refl
  where
    none : 0 * 1 * down e ≡ 0
    none = simp zero-mul

    go : (t : Bool) → eq (fin s m e) zero_f ≡ t → cond t zero_f (fin s m e) ⊕ zero_f ≡ cond t zero_f (fin s m e) ⊕ neg zero_f
    go true q = refl
    go false q =
        let h = above-none s (m * up e * 1) (0 * 1 * down e) none q in
        sum-none s false (m * up e * 1) (0 * 1 * down e) (down e * 1) none h ∙ sym (sum-none s true (m * up e * 1) (0 * 1 * down e) (down e * 1) none h)

-- ---- sums commute
less-more : (a b c : ℕ)
    → cond (ltb a b) (round binary64 false (b - a) c) (round binary64 (ltb b a) (a - b) c) ≡ cond (ltb b a) (round binary64 true (a - b) c) (round binary64 false (b - a) c)
less-more a b c = go (ltb a b) (ltb b a) refl refl
  where
    go : (p q : Bool) → ltb a b ≡ p → ltb b a ≡ q
        → cond p (round binary64 false (b - a) c) (round binary64 q (a - b) c) ≡ cond q (round binary64 true (a - b) c) (round binary64 false (b - a) c)
    go true true e f =
        let h = ltb-true a b e in
        let k = ltb-true b a f in
        absurd (omega arith)
    go true false e f = refl
    go false true e f = refl
    go false false e f =
        let h = ltb-false a b e in
        let k = ltb-false b a f in
        let n : a - b ≡ b - a = omega arith in
        ap (λ (d : ℕ). round binary64 false d c) n

sum_comm : (s t : Bool) (a b c : ℕ) → sum binary64 s a t b c ≡ sum binary64 t b s a c
unfolding sum
sum_comm true true a b c = ap (λ (k : ℕ). round binary64 true k c) (add_comm a b)
sum_comm true false a b c = less-more a b c
sum_comm false true a b c = sym (less-more b a c)
sum_comm false false a b c = ap (λ (k : ℕ). round binary64 false k c) (add_comm a b)

pub plus_comm : (x y : Float) → x ⊕ y ≡ y ⊕ x
unfolding add
plus_comm nan nan = refl
plus_comm nan (inf t) = refl
plus_comm nan (fin t n d) = refl
plus_comm (inf s) nan = refl
plus_comm (inf true) (inf true) = refl
plus_comm (inf true) (inf false) = refl
plus_comm (inf false) (inf true) = refl
plus_comm (inf false) (inf false) = refl
plus_comm (inf s) (fin t n d) = refl
plus_comm (fin s m e) nan = refl
plus_comm (fin s m e) (inf t) = refl
plus_comm (fin s m e) (fin t n d) =
    sum_comm s t (m * up e * down d) (n * up d * down e) (down e * down d)
    ∙ ap (λ (c : ℕ). sum binary64 t (n * up d * down e) s (m * up e * down d) c) (mul_comm (down e) (down d))

-- ---- a zero of either sign, however it is written
equals_none : (s : Bool) (a b : ℕ) → b ≡ 0 → level s a false b ≡ true → a ≡ 0
equals_none s a b e q = go (eqb a b) refl
  where
    go : (t : Bool) → eqb a b ≡ t → a ≡ 0
    go true f = eqb-true a b f ∙ e
    go false f = absurd (true≢false (sym q ∙ and_no _ f))

no_sum : (s : Bool) (c : ℕ) → sum binary64 s 0 false 0 c ≡ round binary64 false 0 c
unfolding sum
no_sum true c = refl
no_sum false c = refl

rounds-none : round binary64 false 0 1 ≡ zero_f
unfolding round of_bits
rounds-none = refl

module _ (s : Bool) (m : ℕ) (e : ℤ) where
  zero_of : eq (fin s m e) zero_f ≡ true → m * up e ≡ 0
  unfolding eq of_bits
  zero_of q = sym (mul-one (m * up e)) ∙ equals_none s (m * up e * 1) (0 * 1 * down e) (simp zero-mul) q

  some_of : eq (fin s m e) zero_f ≡ false → 0 < m * up e
  unfolding eq of_bits
  some_of q = subst (λ (k : ℕ). 0 < k) (mul-one (m * up e)) (above-none s (m * up e * 1) (0 * 1 * down e) (simp zero-mul) q)

  -- a zero and a number: the number, rounded
  zero_beside : (t : Bool) (n : ℕ) (d : ℤ) → m * up e ≡ 0 → 0 < n * up d → fin s m e ⊕ fin t n d ≡ round binary64 t (n * up d) (down d)
  unfolding add
  zero_beside t n d z h =
      sum_comm s t (m * up e * down d) (n * up d * down e) (down e * down d)
      ∙ sum-none t s (n * up d * down e) (m * up e * down d) (down e * down d) (ap (λ (k : ℕ). k * down d) z ∙ zero-mul (down d)) (mul-pos h (down_pos e))
      ∙ round_same binary64 t (n * up d * down e) (down e * down d) (n * up d) (down d) (mul-pos (down_pos e) (down_pos d)) (down_pos d) (mul_assoc (n * up d) (down e) (down d))

  -- two zeros, the second +0.0
  zero_zero : m * up e ≡ 0 → fin s m e ⊕ zero_f ≡ zero_f
  unfolding add of_bits
  zero_zero z =
      let none : 0 * 1 * down e ≡ 0 = simp zero-mul in
      ap₂ (λ (a b : ℕ). sum binary64 s a false b (down e * 1)) (ap (λ (k : ℕ). k * 1) z) none ∙ no_sum s (down e * 1)
      ∙ round_same binary64 false 0 (down e * 1) 0 1 (mul-pos (down_pos e) (omega arith)) (omega arith) (simp zero-mul) ∙ rounds-none

-- either of two numbers may be read with +0.0 for its zero
plain-moves : (x y : Float) → plain_zero x ⊕ y ≡ x ⊕ plain_zero y
unfolding add eq of_bits
plain-moves nan y = refl
plain-moves (inf s) nan = refl
plain-moves (inf s) (inf t) = refl
plain-moves (inf s) (fin t n d) = go (eq (fin t n d) zero_f)
  where
    go : (q : Bool) → inf s ⊕ fin t n d ≡ inf s ⊕ cond q zero_f (fin t n d)
    go true = refl
    go false = refl
plain-moves (fin s m e) nan = go (eq (fin s m e) zero_f)
  where
    go : (p : Bool) → cond p zero_f (fin s m e) ⊕ nan ≡ fin s m e ⊕ nan
    go true = refl
    go false = refl
plain-moves (fin s m e) (inf t) = go (eq (fin s m e) zero_f)
  where
    go : (p : Bool) → cond p zero_f (fin s m e) ⊕ inf t ≡ fin s m e ⊕ inf t
    go true = refl
    go false = refl
plain-moves (fin s m e) (fin t n d) = go (eq (fin s m e) zero_f) (eq (fin t n d) zero_f) refl refl
  where
    go : (p q : Bool) → eq (fin s m e) zero_f ≡ p → eq (fin t n d) zero_f ≡ q → cond p zero_f (fin s m e) ⊕ fin t n d ≡ fin s m e ⊕ cond q zero_f (fin t n d)
    go true true f g = plus_comm zero_f (fin t n d) ∙ zero_zero t n d (zero_of t n d g) ∙ sym (zero_zero s m e (zero_of s m e f))
    go true false f g = zero_beside false 0 (pos 0) t n d refl (some_of t n d g) ∙ sym (zero_beside s m e t n d (zero_of s m e f) (some_of t n d g))
    go false true f g =
        plus_comm (fin s m e) (fin t n d) ∙ zero_beside t n d s m e (zero_of t n d g) (some_of s m e f)
        ∙ sym (zero_beside false 0 (pos 0) s m e refl (some_of s m e f)) ∙ plus_comm zero_f (fin s m e)
    go false false f g = refl

-- ---- a double is itself when it is rounded
neg_odd : (d q k l : ℕ) → neg (odd d false q k l) ≡ odd d true q k l
unfolding neg odd
neg_odd d zero k l = refl
neg_odd d (suc q) k l = refl

neg_units : (q k : ℕ) → neg (units binary64 false q k) ≡ units binary64 true q k
unfolding neg units
neg_units q k = go (ltb (q * 2 ^ k) (2 ^ (low binary64 + suc (emax binary64))))
  where
    go : (b : Bool) → neg (cond b (odd (suc (prec binary64)) false q k (low binary64)) (inf false)) ≡ cond b (odd (suc (prec binary64)) true q k (low binary64)) (inf true)
    go true = neg_odd (suc (prec binary64)) q k (low binary64)
    go false = refl

neg_round : (a c : ℕ) → neg (round binary64 false a c) ≡ round binary64 true a c
unfolding round
neg_round a c =
    let n = a * 2 ^ low binary64 in
    let k = size (n / c) - prec binary64 in
    let u = c * 2 ^ k in
    neg_units (nearest (n / u) (compare (n % u * 2) u)) k

of-value : (x : Float) (m : ℕ) (e : ℤ) → HasValue x false (m * up e) (down e) → T (fits binary64 x) → T (fits binary64 (fin false m e)) → x ≡ fin false m e
unfolding eq
of-value nan m e h p q = absurd h
of-value (inf s) m e h p q = absurd h
of-value (fin true n d) m e h p q = absurd (true≢false h.0)
of-value (fin false n d) m e h p q =
    same-value (fin false n d) (fin false m e) (record { held = p; no_sign = tt }) (record { held = q; no_sign = tt })
    (subst T (sym (and_yes _ (eq-eqb (n * up d * down e) (m * up e * down d) h.1))) tt)

-- what fits the format has few digits, no place below its lowest, and is not too large
module _ (m : ℕ) (e : ℤ) (p : T (fits binary64 (fin false (suc m) e))) where
  abbrev odd_one : Bool
  odd_one = eqb (suc m % 2) 1

  abbrev few : Bool
  few = ltb (suc m) (2 ^ prec binary64)

  abbrev high : Bool
  high = leb (down e) (2 ^ low binary64)

  abbrev small : Bool
  small = ltb (suc m * up e) (2 ^ suc (emax binary64) * down e)

  digits-few : suc m < 2 ^ prec binary64
  unfolding fits
  digits-few = ltb→lt (suc m) (2 ^ prec binary64) (and_r odd_one few (and_l (odd_one && few) high (and_l (odd_one && few && high) small p)))

  lowest : down e ≤ 2 ^ low binary64
  unfolding fits
  lowest = leb→le (down e) (2 ^ low binary64) (and_r (odd_one && few) high (and_l (odd_one && few && high) small p))

  not_large : suc m * up e < 2 ^ suc (emax binary64) * down e
  unfolding fits
  not_large = ltb→lt (suc m * up e) (2 ^ suc (emax binary64) * down e) (and_r (odd_one && few && high) small p)

pow_le : (i j : ℕ) → 2 ^ i ≤ 2 ^ j → i ≤ j
pow_le i j h = go (ltb j i) refl
  where
    go : (b : Bool) → ltb j i ≡ b → i ≤ j
    go true e = let k = pow-lt {i = j} {j = i} (ltb-true j i e) in absurd (omega arith)
    go false e = ltb-false j i e

rounds-to : (m : ℕ) (e : ℤ) → T (fits binary64 (fin false (suc m) e)) → HasValue (round binary64 false (suc m * up e) (down e)) false (suc m * up e) (down e)
rounds-to m (pos k) p =
    let l = low binary64 in
    let same : suc m * 2 ^ (k + l) ≡ suc m * 2 ^ k * 2 ^ l = ap (λ (x : ℕ). suc m * x) (pow-add 2 k l) ∙ sym (mul_assoc (suc m) (2 ^ k) (2 ^ l)) in
    let top : 2 ^ suc (emax binary64) * 1 * 2 ^ l ≡ 2 ^ (l + suc (emax binary64)) =
    ap (λ (x : ℕ). x * 2 ^ l) (mul-one (2 ^ suc (emax binary64))) ∙ mul_comm (2 ^ suc (emax binary64)) (2 ^ l) ∙ sym (pow-add 2 l (suc (emax binary64))) in
    let below : suc m * 2 ^ k * 2 ^ l < 2 ^ suc (emax binary64) * 1 * 2 ^ l = mul-lt-mul_of_pos_right (not_large m (pos k) p) (pow_pos l) in
    round_exact binary64 false (suc m * 2 ^ k) 1 (suc m) (k + l) (omega arith) (digits-few m (pos k) p)
    (subst (λ (x : ℕ). x < 2 ^ (l + suc (emax binary64))) (sym same) (subst (λ (x : ℕ). suc m * 2 ^ k * 2 ^ l < x) top below))
    (sym same ∙ sym (mul-one (suc m * 2 ^ (k + l))))
rounds-to m (negsuc k) p =
    let l = low binary64 in
    let h : suc k ≤ l = pow_le (suc k) l (lowest m (negsuc k) p) in
    let j = l - suc k in
    let whole : j + suc k ≡ l = omega arith in
    let few = digits-few m (negsuc k) p in
    round_exact binary64 false (suc m * 1) (2 ^ suc k) (suc m) j (pow_pos (suc k)) few
    (lt_of_lt_of_le (shl_lt (prec binary64) j few) (pow_mono {i = prec binary64 + j} {j = l + suc (emax binary64)} (omega arith)))
    (ap (λ (x : ℕ). x * 2 ^ l) (mul-one (suc m)) ∙ ap (λ (x : ℕ). suc m * 2 ^ x) (sym whole) ∙ ap (λ (x : ℕ). suc m * x) (pow-add 2 j (suc k)) ∙ sym (mul_assoc (suc m) (2 ^ j) (2 ^ suc k)))

exact : (s : Bool) (m : ℕ) (e : ℤ) → T (fits binary64 (fin s m e)) → 0 < m * up e → round binary64 s (m * up e) (down e) ≡ fin s m e
unfolding fits neg
exact s zero e p h = absurd (lt_irrefl 0 (subst (λ (k : ℕ). 0 < k) (zero-mul (up e)) h))
exact false (suc m) e p h = of-value (round binary64 false (suc m * up e) (down e)) (suc m) e (rounds-to m e p) (round-fits binary64 false (suc m * up e) (down e)) p
exact true (suc m) e p h =
    sym (neg_round (suc m * up e) (down e))
    ∙ ap neg (of-value (round binary64 false (suc m * up e) (down e)) (suc m) e (rounds-to m e p) (round-fits binary64 false (suc m * up e) (down e)) p)

-- +0.0 and a double
zero_plus : (x : Float) → T (fits binary64 x) → zero_f ⊕ x ≡ plain_zero x
unfolding add eq of_bits
zero_plus nan p = refl
zero_plus (inf s) p = refl
zero_plus (fin s m e) p = go (eq (fin s m e) zero_f) refl
  where
    go : (t : Bool) → eq (fin s m e) zero_f ≡ t → zero_f ⊕ fin s m e ≡ cond t zero_f (fin s m e)
    go true q = plus_comm zero_f (fin s m e) ∙ zero_zero s m e (zero_of s m e q)
    go false q = zero_beside false 0 (pos 0) s m e refl (some_of s m e q) ∙ exact s m e p (some_of s m e q)

-- ---- a double added to zero and one subtracted: either may come first, zeros of both signs, infinities and NaN included
pub either_first : (a b : Float) → T (fits binary64 a) → T (fits binary64 b) → (zero_f ⊕ a) ⊖ b ≡ (zero_f ⊖ b) ⊕ a
unfolding sub
either_first a b p q =
    ap (λ (x : Float). x ⊕ neg b) (zero_plus a p) ∙ plain-moves a (neg b) ∙ plus_comm a (plain_zero (neg b))
    ∙ ap (λ (x : Float). x ⊕ a) (sym (zero_plus (neg b) (neg-fits binary64 b q)))
