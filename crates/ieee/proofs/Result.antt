-- The pattern that `normal` and `subnormal` make stands for the root. Assumes nothing.
use mathlib.Core.Path.{◌≡◌, refl, sym, ap, ap₂, ◌∙◌, subst}
use mathlib.Core.Bool.{Bool, false, not}
use Prim.Native.Nat.{ℕ, zero, suc, ◌+◌, ◌-◌, ◌*◌, ◌/◌, ◌%◌, ◌^◌, ◌≤◌, ◌<◌}
use native.Mathlib.Nat.{le_of_eq, le_of_lt, lt_of_le_of_lt, mul-pos, mul-one, mul-le-mul, mul_comm, mul_assoc, mul_left_comm, mul_right_comm}
use native.Mathlib.Numerals.{add-one}
use native.Mathlib.Omega.{arith}
use lib.Dec.{T, lit<}
use lib.Pow.{pow_pos, pow-add, pow_mono}
use lib.Ieee.{Float, binary64, units, fits, of_bits, nan_bits}
use lib.Ieee.Bits.{of_bits-fits, nan_bits_above}
use lib.Ieee.Exact.{units_val}
use borrow.Author.Tests.{le-ltb}
use Rattle.ieee.specs.Root.{root_of, rooted}
use Rattle.ieee.specs.Near.{Near, Range, Moved}
use Rattle.ieee.proofs.Units.{Counts, same-double}
use Rattle.ieee.proofs.Patterns.{expo, signif, counts, root_above}
use Rattle.ieee.proofs.Steps.{full}
use Rattle.ieee.proofs.Rooted.{rooted-is, rooted-fits}

-- ---- an even power of two
one-or_two : (r : ℕ) → r < 2 → 1 + r ≡ 2 ^ r
one-or_two zero h = refl
one-or_two (suc zero) h = refl
one-or_two (suc (suc r)) h = absurd (big r h)
  where
    big : (x : ℕ) → suc (suc x) < 2 → ⊥
    big x g = omega arith

split : (k : ℕ) → k ≡ k % 2 + (k / 2 + k / 2)
split k = omega arith

-- with c = 2 ^ 52 and d = 2 ^ 511, and 2 ^ 1074 = c * (d * d)
regroup : (s u h c d : ℕ) → s * (u * (h * h)) * (c * (d * d)) ≡ s * u * c * ((d * h) * (d * h))
regroup s u h c d = simp (mul_assoc, mul_comm, mul_left_comm)

even_up : (s k : ℕ) → s * 2 ^ k * 2 ^ 1074 ≡ s * (1 + k % 2) * 2 ^ 52 * (2 ^ (511 + k / 2) * 2 ^ (511 + k / 2))
even_up s k =
    let u = 2 ^ (k % 2) in
    let h = 2 ^ (k / 2) in
    let e : 2 ^ k ≡ u * (h * h) = ap (λ (x : ℕ). 2 ^ x) (split k) ∙ pow-add 2 (k % 2) (k / 2 + k / 2) ∙ ap (λ (x : ℕ). u * x) (pow-add 2 (k / 2) (k / 2)) in
    ap (λ (x : ℕ). s * x * 2 ^ 1074) e
    ∙ regroup s u h (2 ^ 52) (2 ^ 511)
    ∙ ap (λ (x : ℕ). s * x * 2 ^ 52 * ((2 ^ 511 * h) * (2 ^ 511 * h))) (sym (one-or_two (k % 2) (native.Mathlib.Nat.mod-lt k (lit< tt))))
    ∙ ap (λ (x : ℕ). s * (1 + k % 2) * 2 ^ 52 * (x * x)) (sym (pow-add 2 511 (k / 2)))

swap : (x c y : ℕ) → x * c * y ≡ x * y * c
swap x c y = mul_right_comm x c y

-- ---- the numbers that are handed over are in range
pub start-pos : (b : ℕ) → 0 < b → 0 < signif b * (1 + expo b % 2)
start-pos b h = mul-pos (omega arith) (omega arith)

pub start-le : (b : ℕ) → b < 0x7ff0_0000_0000_0000 → signif b * (1 + expo b % 2) ≤ 2 ^ 54 - 2
start-le b h =
    let s : signif b ≤ 9007199254740991 = omega arith in
    let t : 1 + expo b % 2 ≤ 2 = omega arith in
    mul-le-mul s t

-- the significand and half the exponent of a number that is not subnormal, as `normal` has them
abbrev pub normal_m : ℕ → ℕ
normal_m b = ((b - 4503599627370496) % 9007199254740992 % 4503599627370496 + 4503599627370496) * (1 + (b - 4503599627370496) % 9007199254740992 / 4503599627370496)

abbrev pub normal_j : ℕ → ℕ
normal_j b = 511 + (b - 4503599627370496) / 9007199254740992

m-is : (b : ℕ) → 2 ^ 52 ≤ b → signif b * (1 + expo b % 2) ≡ normal_m b
m-is b h = ap₂ (λ (x y : ℕ). x * y) digits parity
  where
    digits : signif b ≡ (b - 4503599627370496) % 9007199254740992 % 4503599627370496 + 4503599627370496
    digits = omega arith

    parity : 1 + expo b % 2 ≡ 1 + (b - 4503599627370496) % 9007199254740992 / 4503599627370496
    parity = omega arith

j-is : (b : ℕ) → 2 ^ 52 ≤ b → 511 + expo b / 2 ≡ normal_j b
j-is b h = omega arith

pub normal_range : (b : ℕ) → 2 ^ 52 ≤ b → b < 0x7ff0_0000_0000_0000 → Range (normal_m b)
normal_range b h k = record { from = low; to = subst (λ (x : ℕ). x ≤ 2 ^ 54 - 2) (m-is b h) (start-le b k) }
  where
    low : 2 ^ 52 ≤ normal_m b
    low =
        let s : 4503599627370496 ≤ (b - 4503599627370496) % 9007199254740992 % 4503599627370496 + 4503599627370496 = omega arith in
        let t : 1 ≤ 1 + (b - 4503599627370496) % 9007199254740992 / 4503599627370496 = omega arith in
        mul-le-mul s t

pub normal_moved : (b : ℕ) → 2 ^ 52 ≤ b → b < 0x7ff0_0000_0000_0000 → Moved (signif b * (1 + expo b % 2)) (511 + expo b / 2) (normal_m b) (normal_j b)
normal_moved b h k = record {
  same = ap₂ (λ (x y : ℕ). x * (2 ^ y * 2 ^ y)) (sym (m-is b h)) (sym (j-is b h));
  range = normal_range b h k;
  pos = omega arith;
  less = le_of_eq (sym (j-is b h));
}

-- and of a subnormal one
pub subnormal_moved : (b m j : ℕ) → b < 2 ^ 52 → Moved b 511 m j → Moved (signif b * (1 + expo b % 2)) (511 + expo b / 2) m j
subnormal_moved b m j h v =
    let s : signif b ≡ b = omega arith in
    let t : 1 + expo b % 2 ≡ 1 = omega arith in
    let i : 511 + expo b / 2 ≡ 511 = omega arith in
    subst (λ (x : ℕ). Moved (signif b * (1 + expo b % 2)) x m j) (sym i) (subst (λ (x : ℕ). Moved x 511 m j) (sym (ap₂ (λ (x y : ℕ). x * y) s t ∙ mul-one b)) v)

-- ---- the result
module _ (b m j q : ℕ) (b0 : 0 < b) (b1 : b < 0x7ff0_0000_0000_0000) (mv : Moved (signif b * (1 + expo b % 2)) (511 + expo b / 2) m j) (nr : Near m q) where
  q-ge : 2 ^ 52 ≤ q
  q-ge = full m q mv.range nr

  j-le : j ≤ 1535
  j-le = let l = mv.less in omega arith

  pub pattern_lt : j * 4503599627370496 + q < 0x7ff0_0000_0000_0000
  pattern_lt = omega (arith, j-le, nr.small)

  abbrev pub a : ℕ
  a = signif b * 2 ^ expo b

  a-pos : 0 < a
  a-pos = let s : 0 < signif b = omega arith in mul-pos s (pow_pos (expo b))

  pub a-is : a * 2 ^ 1074 ≡ m * 2 ^ 52 * (2 ^ j * 2 ^ j)
  a-is =
      even_up (signif b) (expo b)
      ∙ swap (signif b * (1 + expo b % 2)) (2 ^ 52) (2 ^ (511 + expo b / 2) * 2 ^ (511 + expo b / 2))
      ∙ ap (λ (x : ℕ). x * 2 ^ 52) (sym mv.same)
      ∙ sym (swap m (2 ^ 52) (2 ^ j * 2 ^ j))

  rounded : rooted a ≡ units binary64 false q j
  rounded = at (q - 1) (j - 1) (omega (arith, q-ge)) (let p = mv.pos in omega arith)
    where
      at : (p i : ℕ) → q ≡ suc p → j ≡ suc i → rooted a ≡ units binary64 false q j
      at p i e f =
          let g : q ≡ p + 1 = e ∙ sym (add-one p) in
          rooted-is a (m * 2 ^ 52) p i (subst (λ (x : ℕ). a * 2 ^ 1074 ≡ m * 2 ^ 52 * (2 ^ x * 2 ^ x)) f a-is)
          (let r = mv.range in omega arith) (let r = mv.range in omega arith) (subst (λ (x : ℕ). x ≤ 1535) f j-le)
          (subst (λ (x : ℕ). x * x < m * 2 ^ 52 + x) g nr.low) (subst (λ (x : ℕ). m * 2 ^ 52 ≤ x * x + x) g nr.high)
          ∙ ap (λ (x : ℕ). units binary64 false x (suc i)) (sym e)
          ∙ ap (λ (x : ℕ). units binary64 false q x) (sym f)

  units_fit : T (fits binary64 (units binary64 false q j))
  units_fit = subst (λ (x : Float). T (fits binary64 x)) rounded (rooted-fits a)

  fine : q * 2 ^ j < 2 ^ 2098
  fine = lt_of_le_of_lt (mul-le-mul (le_of_lt nr.small) (pow_mono j-le)) (lit< tt)

  pub result_counts : Counts (of_bits binary64 (j * 4503599627370496 + q)) (q * 2 ^ j)
  result_counts =
      let r = j * 4503599627370496 + q in
      let x : expo r ≡ j = omega (arith, q-ge, nr.small) in
      let s : signif r ≡ q = omega (arith, q-ge, nr.small) in
      subst (λ (z : ℕ). Counts (of_bits binary64 r) (z * 2 ^ j)) s
      (subst (λ (z : ℕ). Counts (of_bits binary64 r) (signif r * 2 ^ z)) x (counts r pattern_lt))

  pub result_is : of_bits binary64 (j * 4503599627370496 + q) ≡ root_of (of_bits binary64 b)
  result_is =
      same-double (of_bits binary64 (j * 4503599627370496 + q)) (units binary64 false q j) (q * 2 ^ j)
      (of_bits-fits binary64 (j * 4503599627370496 + q)) units_fit result_counts (units_val binary64 false q j fine)
      ∙ sym rounded
      ∙ sym (root_above (of_bits binary64 b) a (counts b b1) a-pos)

  pub result_no_nan : T (not (nan_bits binary64 (j * 4503599627370496 + q)))
  result_no_nan =
      let r = j * 4503599627370496 + q in
      subst (λ (t : Bool). T (not t)) (sym (nan_bits_above binary64 r ∙ le-ltb 0x7ff0_0000_0000_0000 (r % 9223372036854775808) (let h = pattern_lt in omega arith))) tt
