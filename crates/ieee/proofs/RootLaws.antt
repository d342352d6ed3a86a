-- What `root_of` is worth: of every double it is what `IsRoot` says (`root_is`) and nothing else is (`root_only`); it keeps the order (`root_mono`), and the root of an exact square is exact (`root_exact`).
-- Assumes nothing.
use mathlib.Core.Path.{◌≡◌, refl, sym, ap, ◌∙◌, subst}
use mathlib.Core.Bool.{Bool, true, false, not, cond}
use Prim.Native.Nat.{ℕ, zero, suc, ◌+◌, ◌-◌, ◌*◌, ◌/◌, ◌%◌, ◌^◌, ◌≤◌, ◌<◌}
use native.Mathlib.Nat.{le_trans, le_of_eq, le_of_lt, lt_trans, lt_of_lt_of_le, lt_of_le_of_lt, not-le_of_lt, mul-le-mul, mul-le-mul_right, mul-lt-mul_of_pos_right, lt_of_mul-lt-mul_right, mul-pos, add-mul, mul_assoc, mul_right_comm, add_comm, mul-div_cancel}
use native.Mathlib.Omega.{arith}
use lib.IntN.{ℤ}
use lib.Dec.{T, leb, ltb, eqb, leb→le, nleb→lt, ltb→lt, nltb→le, lt→ltb, eqb→eq, lit<}
use lib.Pow.{pow_pos, pow-add, pow_mono}
use lib.Ieee.{Float, nan, inf, fin, binary64, down, fits, to_bits, of_bits, of_fields, le}
use lib.Ieee.Fits.{down_pos}
use lib.Ieee.Bits.{of_bits-fits, of_bits-to_bits, to_bits-lt}
use lib.Ieee.Exact.{HasValue}
use lib.Ieee.Order.{round_mono}
use lib.Ieee.Nearest.{div_mono}
use lib.Ieee.Positive.{positive, positive_of_value, num, den, le→cross, den_pos}
use Rattle.ieee.specs.Root.{isqrt, in_units, rooted, root_of, Nearest, IsRoot}
use Rattle.ieee.specs.Near.{Near, Moved}
use Rattle.ieee.proofs.Squares.{sq_lt, sq_mono, sq_strict, sq_at, sq_suc, sq_odd, sq_double}
use Rattle.ieee.proofs.Isqrt.{Root, isqrt-root}
use Rattle.ieee.proofs.Units.{Counts, units_of, same_units}
use Rattle.ieee.proofs.Patterns.{expo, signif, counts, fields, of_bits_is, at-top-units, positive_pattern, rooted-of}
use Rattle.ieee.proofs.Steps.{full}
use Rattle.ieee.proofs.Exists.{near-exists, moved-exists}
use Rattle.ieee.proofs.Result.{start-pos, start-le, result_is, result_counts, a-is}

-- ---- every double counts S * 2 ^ K units, with an S of at most 53 binary digits
pub record Shape (y : ℕ) : Type 0 where
  pub s : ℕ
  pub k : ℕ
  pub short : s < 2 ^ 53
  pub is : y ≡ s * 2 ^ k

short-field : (u : Bool) (t : ℕ) → t < 4503599627370496 → cond u 0 4503599627370496 + t < 2 ^ 53
short-field true t h = omega arith
short-field false t h = omega arith

units_signed : (x : Float) (s : Bool) (a : ℕ) → HasValue x s a (2 ^ 1074) → in_units x ≡ a
units_signed nan s a h = absurd h
units_signed (inf t) s a h = absurd h
units_signed (fin t m e) s a h = ap (λ (n : ℕ). n / down e) h.1 ∙ mul-div_cancel a (down_pos e)

shape : (y : Float) → T (fits binary64 y) → Shape (in_units y)
shape y h = subst (λ (v : Float). Shape (in_units v)) (sym (of_bits_is b) ∙ of_bits-to_bits binary64 y h) (go (eqb x 2047) (eqb→eq x 2047) (λ (e : x ≡ 2047). subst T (sym (borrow.Author.Tests.eq-eqb x 2047 e)) tt))
  where
    b : ℕ
    b = to_bits binary64 y

    x : ℕ
    x = b % 9223372036854775808 / 4503599627370496

    t : ℕ
    t = b % 4503599627370496

    go : (u : Bool) → (T u → x ≡ 2047) → (x ≡ 2047 → T u) → Shape (in_units (of_fields binary64 (leb 9223372036854775808 b) x t))
    go true p q = record { s = 0; k = 0; short = lit< tt; is = ap (λ (z : ℕ). in_units (of_fields binary64 (leb 9223372036854775808 b) z t)) (p tt) ∙ at-top-units (leb 9223372036854775808 b) t }
    go false p q = record {
      s = cond (eqb x 0) 0 4503599627370496 + t;
      k = x - 1;
      short = short-field (eqb x 0) t (omega arith);
      is = units_signed (of_fields binary64 (leb 9223372036854775808 b) x t) (leb 9223372036854775808 b) _ (fields (leb 9223372036854775808 b) x t (omega (arith, q)));
    }

-- ---- the doubles beside q * 2 ^ j, for a q of 53 digits: the next is 2 ^ j above
at-or_over : (K j : ℕ) → j ≤ K → 2 ^ K ≡ 2 ^ (K - j) * 2 ^ j
at-or_over K j h = ap (λ (x : ℕ). 2 ^ x) (sum K j h) ∙ pow-add 2 (K - j) j
  where
    sum : (a b : ℕ) → b ≤ a → a ≡ a - b + b
    sum a b g = omega arith

grid : (S K j : ℕ) → j ≤ K → S * 2 ^ K ≡ S * 2 ^ (K - j) * 2 ^ j
grid S K j h = ap (λ (x : ℕ). S * x) (at-or_over K j h) ∙ sym (mul_assoc S (2 ^ (K - j)) (2 ^ j))

-- below the binade of q * 2 ^ j
under-binade : (S K j : ℕ) → S < 2 ^ 53 → K < j → S * 2 ^ K < 2 ^ 52 * 2 ^ j
under-binade S K j h l =
    lt_of_lt_of_le (mul-lt-mul_of_pos_right h (pow_pos K)) (le_trans (le_of_eq (sym (pow-add 2 53 K))) (le_trans (pow_mono (more K j l)) (le_of_eq (pow-add 2 52 j))))
  where
    more : (a b : ℕ) → a < b → 53 + a ≤ 52 + b
    more a b g = omega arith

next_up : (q j S K : ℕ) → 2 ^ 52 ≤ q → S < 2 ^ 53 → q * 2 ^ j < S * 2 ^ K → (q + 1) * 2 ^ j ≤ S * 2 ^ K
next_up q j S K Q short h = go (leb j K) (leb→le j K) (nleb→lt j K)
  where
    go : (b : Bool) → (T b → j ≤ K) → (T (not b) → K < j) → (q + 1) * 2 ^ j ≤ S * 2 ^ K
    go true a b =
        let e = grid S K j (a tt) in
        let l : q < S * 2 ^ (K - j) = lt_of_mul-lt-mul_right (2 ^ j) (lt_of_lt_of_le h (le_of_eq e)) in
        le_trans (mul-le-mul_right (2 ^ j) (step q (S * 2 ^ (K - j)) l)) (le_of_eq (sym e))
      where
        step : (x y : ℕ) → x < y → x + 1 ≤ y
        step x y g = omega arith
    go false a b = absurd (not-le_of_lt (lt_trans h (under-binade S K j short (b tt))) (mul-le-mul_right (2 ^ j) Q))

-- the next below is 2 ^ j lower too, or q is the least of its binade
next_down : (p j S K : ℕ) → 2 ^ 52 < p + 1 → S < 2 ^ 53 → S * 2 ^ K < (p + 1) * 2 ^ j → S * 2 ^ K ≤ p * 2 ^ j
next_down p j S K Q short h = go (leb j K) (leb→le j K) (nleb→lt j K)
  where
    go : (b : Bool) → (T b → j ≤ K) → (T (not b) → K < j) → S * 2 ^ K ≤ p * 2 ^ j
    go true a b =
        let e = grid S K j (a tt) in
        let l : S * 2 ^ (K - j) < p + 1 = lt_of_mul-lt-mul_right (2 ^ j) (lt_of_le_of_lt (le_of_eq (sym e)) h) in
        le_trans (le_of_eq e) (mul-le-mul_right (2 ^ j) (step (S * 2 ^ (K - j)) p l))
      where
        step : (x y : ℕ) → x < y + 1 → x ≤ y
        step x y g = omega arith
    go false a b = le_trans (le_of_lt (under-binade S K j short (b tt))) (mul-le-mul_right (2 ^ j) (step p Q))
      where
        step : (x : ℕ) → 2 ^ 52 < x + 1 → 2 ^ 52 ≤ x
        step x g = omega arith

-- ---- what lies between: n is N * (P * P), the number is q * P units, and y counts S * 2 ^ K
module _ (N j q : ℕ) (from : 2 ^ 104 ≤ N) (Q : 2 ^ 52 ≤ q) (lo : q * q < N + q) (hi : N ≤ q * q + q) where
  over-at : (y : ℕ) → Shape y → q * 2 ^ j < y → 4 * (N * (2 ^ j * 2 ^ j)) < (q * 2 ^ j + y) * (q * 2 ^ j + y)
  over-at y sh h =
      let P = 2 ^ j in
      let g : (q + 1) * P ≤ y = le_trans (next_up q j sh.s sh.k Q sh.short (lt_of_lt_of_le h (le_of_eq sh.is))) (le_of_eq (sym sh.is)) in
      let e1 : (q + 1) * P ≡ q * P + P = add-mul q 1 P ∙ ap (λ (x : ℕ). q * P + x) (native.Mathlib.Nat.one-mul P) in
      let e2 : (2 * q + 1) * P ≡ 2 * (q * P) + P = add-mul (2 * q) 1 P ∙ ap (λ (x : ℕ). x + 1 * P) (mul_assoc 2 q P) ∙ ap (λ (x : ℕ). 2 * (q * P) + x) (native.Mathlib.Nat.one-mul P) in
      let a : (2 * q + 1) * P ≤ q * P + y = omega arith in
      let b : 4 * N < (2 * q + 1) * (2 * q + 1) = omega (arith, sq_odd q) in
      lt_of_lt_of_le (lt_of_le_of_lt (le_of_eq (sym (mul_assoc 4 N (P * P)))) (mul-lt-mul_of_pos_right b (mul-pos (pow_pos j) (pow_pos j))))
      (le_trans (le_of_eq (sym (sq_at (2 * q + 1) P))) (sq_mono a))

  under_at : (y : ℕ) → Shape y → y < q * 2 ^ j → (q * 2 ^ j + y) * (q * 2 ^ j + y) < 4 * (N * (2 ^ j * 2 ^ j))
  under_at y sh h = go (leb q (2 ^ 52)) (leb→le q (2 ^ 52)) (nleb→lt q (2 ^ 52))
    where
      P : ℕ
      P = 2 ^ j

      go : (b : Bool) → (T b → q ≤ 2 ^ 52) → (T (not b) → 2 ^ 52 < q) → (q * P + y) * (q * P + y) < 4 * (N * (P * P))
      go true a b =
          let k : q * q ≤ N = le_trans (mul-le-mul (a tt) (a tt)) from in
          lt_of_lt_of_le (sq_strict (less (q * P) y h)) (le_trans (le_of_eq (sq_double (q * P) ∙ ap (λ (x : ℕ). 4 * x) (sq_at q P))) (native.Mathlib.Nat.mul-le-mul_left 4 (mul-le-mul_right (P * P) k)))
        where
          less : (x z : ℕ) → z < x → x + z < x + x
          less x z g = omega arith
      go false a b = at (q - 1) (omega (arith, b tt))
        where
          at : (p : ℕ) → q ≡ p + 1 → (q * P + y) * (q * P + y) < 4 * (N * (P * P))
          at p e =
              let big : 2 ^ 52 < p + 1 = subst (λ (x : ℕ). 2 ^ 52 < x) e (b tt) in
              let l : sh.s * 2 ^ sh.k < (p + 1) * P = subst (λ (x : ℕ). sh.s * 2 ^ sh.k < x * P) e (lt_of_le_of_lt (le_of_eq (sym sh.is)) h) in
              let g : y ≤ p * P = le_trans (le_of_eq sh.is) (next_down p j sh.s sh.k big sh.short l) in
              let e1 : q * P ≡ p * P + P = ap (λ (x : ℕ). x * P) e ∙ add-mul p 1 P ∙ ap (λ (x : ℕ). p * P + x) (native.Mathlib.Nat.one-mul P) in
              let e2 : (2 * p + 1) * P ≡ 2 * (p * P) + P = add-mul (2 * p) 1 P ∙ ap (λ (x : ℕ). x + 1 * P) (mul_assoc 2 p P) ∙ ap (λ (x : ℕ). 2 * (p * P) + x) (native.Mathlib.Nat.one-mul P) in
              let c : q * P + y ≤ (2 * p + 1) * P = omega arith in
              let lo' : (p + 1) * (p + 1) < N + (p + 1) = subst (λ (x : ℕ). x * x < N + x) e lo in
              let d : (2 * p + 1) * (2 * p + 1) < 4 * N = omega (arith, sq_odd p, sq_suc p) in
              lt_of_le_of_lt (sq_mono c)
              (lt_of_le_of_lt (le_of_eq (sq_at (2 * p + 1) P))
              (lt_of_lt_of_le (mul-lt-mul_of_pos_right d (mul-pos (pow_pos j) (pow_pos j))) (le_of_eq (mul_assoc 4 N (P * P)))))

-- ---- the root is nearest
nearest_at : (b : ℕ) → 0 < b → b < 0x7ff0_0000_0000_0000 → Nearest (of_bits binary64 b) (root_of (of_bits binary64 b))
nearest_at b b0 b1 = record {
  held = subst (λ (v : Float). T (fits binary64 v)) is (of_bits-fits binary64 (j * 4503599627370496 + q));
  above_zero = subst (λ (v : Float). T (positive v)) is (positive_of_value (of_bits binary64 (j * 4503599627370496 + q)) (q * 2 ^ j) (2 ^ 1074) cnt (mul-pos (pos (full m q mv.range nr)) (pow_pos j)));
  over = λ y fy h. subst (λ (n : ℕ). 4 * n < (in_units r + in_units y) * (in_units r + in_units y)) (sym n-is)
      (subst (λ (u : ℕ). 4 * (m * 2 ^ 52 * (2 ^ j * 2 ^ j)) < (u + in_units y) * (u + in_units y)) (sym r-is)
      (over-at (m * 2 ^ 52) j q from Q nr.low nr.high (in_units y) (shape y fy) (subst (λ (u : ℕ). u < in_units y) r-is h)));
  under = λ y fy h. subst (λ (n : ℕ). (in_units r + in_units y) * (in_units r + in_units y) < 4 * n) (sym n-is)
      (subst (λ (u : ℕ). (u + in_units y) * (u + in_units y) < 4 * (m * 2 ^ 52 * (2 ^ j * 2 ^ j))) (sym r-is)
      (under_at (m * 2 ^ 52) j q from Q nr.low nr.high (in_units y) (shape y fy) (subst (λ (u : ℕ). in_units y < u) r-is h)));
}
  where
    moved : (n : ℕ) × (k : ℕ) × Moved (signif b * (1 + expo b % 2)) (511 + expo b / 2) n k
    moved = moved-exists (signif b * (1 + expo b % 2)) (511 + expo b / 2) (start-pos b b0) (start-le b b1) (omega arith)

    m : ℕ
    m = moved.0

    j : ℕ
    j = moved.1

    mv : Moved (signif b * (1 + expo b % 2)) (511 + expo b / 2) m j
    mv = moved.2

    near : (q : ℕ) × Near m q
    near = near-exists m mv.range

    q : ℕ
    q = near.0

    nr : Near m q
    nr = near.1

    r : Float
    r = root_of (of_bits binary64 b)

    Q : 2 ^ 52 ≤ q
    Q = full m q mv.range nr

    pos : 2 ^ 52 ≤ q → 0 < q
    pos h = omega arith

    from : 2 ^ 104 ≤ m * 2 ^ 52
    from = let f = mv.range.from in omega arith

    is : of_bits binary64 (j * 4503599627370496 + q) ≡ r
    is = result_is b m j q b0 b1 mv nr

    cnt : Counts (of_bits binary64 (j * 4503599627370496 + q)) (q * 2 ^ j)
    cnt = result_counts b m j q b0 b1 mv nr

    r-is : in_units r ≡ q * 2 ^ j
    r-is = ap in_units (sym is) ∙ units_of (of_bits binary64 (j * 4503599627370496 + q)) (q * 2 ^ j) cnt

    n-is : in_units (of_bits binary64 b) * 2 ^ 1074 ≡ m * 2 ^ 52 * (2 ^ j * 2 ^ j)
    n-is = ap (λ (u : ℕ). u * 2 ^ 1074) (units_of (of_bits binary64 b) (signif b * 2 ^ expo b) (counts b b1)) ∙ a-is b m j q b0 b1 mv nr

pub root_nearest : (x : Float) → T (fits binary64 x) → T (positive x) → Nearest x (root_of x)
root_nearest x f p =
    let b = to_bits binary64 x in
    let e : of_bits binary64 b ≡ x = of_bits-to_bits binary64 x f in
    let r = positive_pattern b (to_bits-lt binary64 x f) (subst (λ (v : Float). T (positive v)) (sym e) p) in
    subst (λ (v : Float). Nearest v (root_of v)) e (nearest_at b r.0 r.1)

-- ---- and nothing else is
clash : (n u v : ℕ) → 4 * n < (u + v) * (u + v) → (v + u) * (v + u) < 4 * n → ⊥
clash n u v h k = let e : (u + v) * (u + v) ≡ (v + u) * (v + u) = ap (λ (z : ℕ). z * z) (add_comm u v) in omega arith

pub nearest_unique : (x r s : Float) → Nearest x r → Nearest x s → r ≡ s
nearest_unique x r s h k = same_units r s h.held k.held h.above_zero k.above_zero (go (ltb (in_units r) (in_units s)) (ltb (in_units s) (in_units r)) (ltb→lt (in_units r) (in_units s)) (nltb→le (in_units r) (in_units s)) (ltb→lt (in_units s) (in_units r)) (nltb→le (in_units s) (in_units r)))
  where
    n : ℕ
    n = in_units x * 2 ^ 1074

    go : (a b : Bool) → (T a → in_units r < in_units s) → (T (not a) → in_units s ≤ in_units r) → (T b → in_units s < in_units r) → (T (not b) → in_units r ≤ in_units s) → in_units r ≡ in_units s
    go true b p q p' q' = absurd (clash n (in_units r) (in_units s) (h.over s k.held (p tt)) (k.under r h.held (p tt)))
    go false true p q p' q' = absurd (clash n (in_units s) (in_units r) (k.over r h.held (p' tt)) (h.under s k.held (p' tt)))
    go false false p q p' q' = native.Mathlib.Nat.le_antisymm (q' tt) (q tt)

-- ---- the order is kept
abbrev halves : ℕ → ℕ → ℕ
halves s n = 2 * s + cond (ltb (s * s) n) 1 0

halves-mono : (s n t k : ℕ) → Root n s → Root k t → n ≤ k → halves s n ≤ halves t k
halves-mono s n t k h g l = go (ltb (s * s) n) (ltb (t * t) k) (ltb→lt (s * s) n) (nltb→le (t * t) k)
  where
    s-le : s < t + 1
    s-le = sq_lt (lt_of_le_of_lt h.0 (lt_of_le_of_lt l g.1))

    go : (a b : Bool) → (T a → s * s < n) → (T (not b) → k ≤ t * t) → 2 * s + cond a 1 0 ≤ 2 * t + cond b 1 0
    go true true p q = let z = s-le in omega arith
    go false true p q = let z = s-le in omega arith
    go false false p q = let z = s-le in omega arith
    go true false p q = let z : s < t = sq_lt (lt_of_lt_of_le (p tt) (le_trans l (q tt))) in omega arith

rooted-mono : (a b : ℕ) → a ≤ b → b * 2 ^ 1074 < 4 ^ 1600 → T (le (rooted a) (rooted b))
unfolding rooted
rooted-mono a b h l =
    let n = a * 2 ^ 1074 in
    let k = b * 2 ^ 1074 in
    let g : n ≤ k = mul-le-mul_right (2 ^ 1074) h in
    round_mono binary64 (halves (isqrt 1600 n) n) (2 * 2 ^ 1074) (halves (isqrt 1600 k) k) (2 * 2 ^ 1074) (lit< tt) (lit< tt)
    (mul-le-mul_right (2 * 2 ^ 1074) (halves-mono (isqrt 1600 n) n (isqrt 1600 k) k (isqrt-root 1600 n (lt_of_le_of_lt g l)) (isqrt-root 1600 k l) g))

units_is : (x : Float) → T (positive x) → in_units x ≡ num x * 2 ^ 1074 / den x
units_is nan p = absurd p
units_is (inf s) p = absurd p
units_is (fin s m e) p = refl

small-exp : (x s : ℕ) → x < 2047 → s < 2 ^ 53 → s * 2 ^ (x - 1) * 2 ^ 1074 < 4 ^ 1600
small-exp x s h k = lt_of_le_of_lt (mul-le-mul_right (2 ^ 1074) (mul-le-mul (le_of_lt k) (pow_mono {i = x - 1} {j = 2046} (omega arith)))) (lit< tt)

units_small : (x : Float) → T (fits binary64 x) → T (positive x) → in_units x * 2 ^ 1074 < 4 ^ 1600
units_small x f p =
    let b = to_bits binary64 x in
    let e : of_bits binary64 b ≡ x = of_bits-to_bits binary64 x f in
    let r = positive_pattern b (to_bits-lt binary64 x f) (subst (λ (v : Float). T (positive v)) (sym e) p) in
    subst (λ (v : Float). in_units v * 2 ^ 1074 < 4 ^ 1600) e
    (subst (λ (u : ℕ). u * 2 ^ 1074 < 4 ^ 1600) (sym (units_of (of_bits binary64 b) (signif b * 2 ^ expo b) (counts b r.1)))
    (small-exp (b / 4503599627370496) (signif b) (let z = r.1 in omega arith) (let z = r.1 in omega arith)))

pub root_mono : (x y : Float) → T (fits binary64 x) → T (fits binary64 y) → T (positive x) → T (positive y) → T (le x y) → T (le (root_of x) (root_of y))
root_mono x y f g p q h =
    let c = le→cross x y p q h in
    let l : in_units x ≤ in_units y =
    subst (λ (u : ℕ). u ≤ in_units y) (sym (units_is x p)) (subst (λ (u : ℕ). num x * 2 ^ 1074 / den x ≤ u) (sym (units_is y q))
    (div_mono (num x * 2 ^ 1074) (den x) (num y * 2 ^ 1074) (den y) (den_pos x) (den_pos y)
    (le_trans (le_of_eq (mul_right_comm (num x) (2 ^ 1074) (den y))) (le_trans (mul-le-mul_right (2 ^ 1074) c) (le_of_eq (mul_right_comm (num y) (den x) (2 ^ 1074))))))) in
    subst (λ (v : Float). T (le v (root_of y))) (sym (rooted-of x p))
    (subst (λ (v : Float). T (le (rooted (in_units x)) v)) (sym (rooted-of y q)) (rooted-mono (in_units x) (in_units y) l (units_small y g q)))

-- ---- a root that is a double is the root: so of a square
pub root_exact : (x r : Float) → T (fits binary64 x) → T (fits binary64 r) → T (positive x) → T (positive r) → in_units r * in_units r ≡ in_units x * 2 ^ 1074 → root_of x ≡ r
root_exact x r f g p q e = nearest_unique x (root_of x) r (root_nearest x f p) record {
  held = g;
  above_zero = q;
  over = λ y fy h. lt_of_le_of_lt (le_of_eq (ap (λ (n : ℕ). 4 * n) (sym e) ∙ sym (sq_double (in_units r)))) (sq_strict (more (in_units r) (in_units y) h));
  under = λ y fy h. lt_of_lt_of_le (sq_strict (less (in_units r) (in_units y) h)) (le_of_eq (sym (ap (λ (n : ℕ). 4 * n) (sym e) ∙ sym (sq_double (in_units r)))));
}
  where
    more : (u v : ℕ) → u < v → u + u < u + v
    more u v h = omega arith

    less : (u v : ℕ) → v < u → u + v < u + u
    less u v h = omega arith

-- ---- for every double the root is what `IsRoot` says, and nothing else is
own : (m : ℕ) (e : ℤ) → T (positive (fin false (suc m) e))
own m e = lt→ltb 0 (suc m) (native.Mathlib.Nat.zero-lt-suc m)

pub root_is : (x : Float) → T (fits binary64 x) → IsRoot x (root_of x)
unfolding root_of
root_is nan f = refl
root_is (inf true) f = refl
root_is (inf false) f = refl
root_is (fin s zero e) f = refl
root_is (fin true (suc m) e) f = refl
root_is (fin false (suc m) e) f = root_nearest (fin false (suc m) e) f (own m e)

pub root_only : (x r : Float) → T (fits binary64 x) → IsRoot x r → r ≡ root_of x
unfolding root_of
root_only nan r f h = h
root_only (inf true) r f h = h
root_only (inf false) r f h = h
root_only (fin s zero e) r f h = h
root_only (fin true (suc m) e) r f h = h
root_only (fin false (suc m) e) r f h = nearest_unique (fin false (suc m) e) r (root_of (fin false (suc m) e)) h (root_nearest (fin false (suc m) e) f (own m e))
