-- The arithmetic of `significand` and of the loops: a guess moved by one, a bisection's bounds, an m moved up by 4. Assumes nothing.
use mathlib.Core.Path.{◌≡◌, sym, ap, ◌∙◌, subst}
use mathlib.Core.Bool.{Bool, true, false, not}
use Prim.Native.Nat.{ℕ, zero, suc, ◌+◌, ◌-◌, ◌*◌, ◌/◌, ◌^◌, ◌≤◌, ◌<◌}
use native.Mathlib.Nat.{lt_irrefl, le_refl, add-zero, le_trans, le_of_eq, lt_of_le_of_lt, mul-one, mul-le-mul, mul_assoc, two-pow-succ, lt_of_not-le, not-le_of_lt}
use native.Mathlib.Numerals.{add-one}
use native.Mathlib.Omega.{arith}
use lib.Dec.{T, leb, leb→le, nleb→lt, lit<}
use lib.Pow.{pow_mono}
use borrow.Author.Tests.{leb-true, leb-false}
use Rattle.ieee.specs.Near.{Near, Range}
use Rattle.ieee.proofs.Squares.{sq_suc, sq_double}

-- ---- what `over` tells of q: N ≤ q * q + q, or not
pub is-over : (m q : ℕ) {r : mathlib.Core.Bool.Bool} → r ≡ leb (m * 2 ^ 52) (q * q + q) → r ≡ true → m * 2 ^ 52 ≤ q * q + q
is-over m q e t = leb-true (m * 2 ^ 52) (q * q + q) (sym e ∙ t)

pub not_over : (m q : ℕ) {r : mathlib.Core.Bool.Bool} → r ≡ leb (m * 2 ^ 52) (q * q + q) → r ≡ false → q * q + q < m * 2 ^ 52
not_over m q e t = leb-false (m * 2 ^ 52) (q * q + q) (sym e ∙ t)

-- q is right where N is over q - 1 and not over q
pub settled : (m p q : ℕ) → q ≡ p + 1 → q < 2 ^ 53 → p * p + p < m * 2 ^ 52 → m * 2 ^ 52 ≤ q * q + q → Near m q
settled m p q e s lo hi = record {
  small = s;
  low = subst (λ (x : ℕ). x * x < m * 2 ^ 52 + x) (sym e) (omega (arith, sq_suc p));
  high = hi;
}

-- ---- what the excess d of N over the square of g, which is 2 ^ 58 more, tells of N's root
over-top : (m q x y : ℕ) → Range m → y + q ≤ x → x < m * 2 ^ 52 + q → 81129638414606672688589750403072 ≤ y → ⊥
over-top m q x y r a b c = omega (arith, r)

pub below_top : (m q : ℕ) → Range m → q * q < m * 2 ^ 52 + q → q < 2 ^ 53
below_top m q r h = lt_of_not-le (λ (g : 9007199254740992 ≤ q). big g)
  where
    big : 9007199254740992 ≤ q → ⊥
    big g =
        let a : 9007199254740992 * q ≤ q * q = mul-le-mul g (le_refl q) in
        let b : 9007199254740991 * 9007199254740992 ≤ 9007199254740991 * q = mul-le-mul (le_refl 9007199254740991) g in
        over-top m q (q * q) (9007199254740991 * q) r (omega arith) h b

near-it : (m q : ℕ) → Range m → q * q < m * 2 ^ 52 + q → m * 2 ^ 52 ≤ q * q + q → Near m q
near-it m q r lo hi = record { small = below_top m q r lo; low = lo; high = hi }

is-next : (m g d : ℕ) → Range m → d + g * g ≡ m * 2 ^ 52 + 2 ^ 58 → d < 301741175033823232 → 288230376151711744 + g < d → Near m (g + 1)
is-next m g d r e t h =
    let k : 4503599627370495 ≤ g = native.Mathlib.Nat.le_of_suc-le-suc (lt_of_not-le (λ (x : suc g ≤ 4503599627370495). low x)) in
    near-it m (g + 1) r (omega (arith, sq_suc g)) (omega (arith, sq_suc g))
  where
    low : suc g ≤ 4503599627370495 → ⊥
    low x =
        let a : g ≤ 4503599627370494 = omega arith in
        let b : g * g ≤ 4503599627370494 * 4503599627370494 = mul-le-mul a a in
        omega (arith, r)

is_same : (m g d : ℕ) → Range m → d + g * g ≡ m * 2 ^ 52 + 2 ^ 58 → d ≤ 288230376151711744 + g → 288230376151711744 < d + g → Near m g
is_same m g d r e h k = near-it m g r (omega arith) (omega arith)

is_last : (m p d : ℕ) → Range m → d + (p + 1) * (p + 1) ≡ m * 2 ^ 52 + 2 ^ 58 → 274719577269600256 ≤ d → d + (p + 1) ≤ 288230376151711744 → Near m p
is_last m p d r e t h =
    let k : 4503599627370496 ≤ p = native.Mathlib.Nat.le_of_suc-le-suc (lt_of_not-le (λ (x : suc p ≤ 4503599627370496). low x)) in
    near-it m p r (omega (arith, sq_suc p)) (omega (arith, sq_suc p))
  where
    low : suc p ≤ 4503599627370496 → ⊥
    low x =
        let a : p + 1 ≤ 4503599627370496 = omega arith in
        let b : (p + 1) * (p + 1) ≤ 4503599627370496 * 4503599627370496 = mul-le-mul a a in
        omega (arith, r)

far : (m d : ℕ) → Range m → d ≡ m * 2 ^ 52 + 2 ^ 58 → d / 4503599627370496 < 67 → ⊥
far m d r e h = omega (arith, r)

few : (d : ℕ) → d < 301741175033823232 → d / 4503599627370496 < 67
few d h = omega arith

-- g, moved by one where d asks for it
abbrev pub moved : ℕ → ℕ → ℕ
moved g d = (d - 1 - g) / 288230376151711744 + (d - 1 + g) / 288230376151711744 + g - 1

moved_up : (g d : ℕ) → g < 18014398509481984 → d < 301741175033823232 → 288230376151711744 + g < d → moved g d ≡ g + 1
moved_up g d s t h = omega arith

moved-not : (g d : ℕ) → g < 18014398509481984 → 274719577269600256 ≤ d → d ≤ 288230376151711744 + g → 288230376151711744 < d + g → moved g d ≡ g
moved-not g d s t h k = omega arith

moved_down : (p d : ℕ) → p < 18014398509481984 → 274719577269600256 ≤ d → d + (p + 1) ≤ 288230376151711744 → moved (p + 1) d ≡ p
moved_down p d s t h = omega arith

at_last : (m g d : ℕ) → Range m → g < 18014398509481984 → d + g * g ≡ m * 2 ^ 52 + 2 ^ 58 → 274719577269600256 ≤ d → d < 301741175033823232
    → d + g ≤ 288230376151711744 → Near m (moved g d)
at_last m zero d r s e t u h = absurd (far m d r (sym (add-zero d) ∙ e) (few d u))
at_last m (suc p) d r s e t u h =
    subst (λ (x : ℕ). Near m (moved x d)) (add-one p)
    (subst (Near m) (sym (moved_down p d (omega arith) t (subst (λ (x : ℕ). d + x ≤ 288230376151711744) (sym (add-one p)) h)))
    (is_last m p d r (subst (λ (x : ℕ). d + x * x ≡ m * 2 ^ 52 + 2 ^ 58) (sym (add-one p)) e) t (subst (λ (x : ℕ). d + x ≤ 288230376151711744) (sym (add-one p)) h)))

more : (d : ℕ) → 61 ≤ d / 4503599627370496 → 274719577269600256 ≤ d
more d h = omega arith

less : (d : ℕ) → d / 4503599627370496 < 67 → d < 301741175033823232
less d h = omega arith

pub around : (m g d : ℕ) → Range m → g < 2 ^ 54 → d + g * g ≡ m * 2 ^ 52 + 2 ^ 58 → 61 ≤ d / 4503599627370496 → d / 4503599627370496 < 67 → Near m (moved g d)
around m g d r s e a b = go (leb d (288230376151711744 + g)) (leb→le d (288230376151711744 + g)) (nleb→lt d (288230376151711744 + g))
  where
    below : d ≤ 288230376151711744 + g → (t : Bool) → (T t → d + g ≤ 288230376151711744) → (T (not t) → 288230376151711744 < d + g) → Near m (moved g d)
    below h true p q = at_last m g d r s e (more d a) (less d b) (p tt)
    below h false p q = subst (Near m) (sym (moved-not g d s (more d a) h (q tt))) (is_same m g d r e h (q tt))

    go : (t : Bool) → (T t → d ≤ 288230376151711744 + g) → (T (not t) → 288230376151711744 + g < d) → Near m (moved g d)
    go true p q = below (p tt) (leb (d + g) 288230376151711744) (leb→le (d + g) 288230376151711744) (nleb→lt (d + g) 288230376151711744)
    go false p q = subst (Near m) (sym (moved_up g d s (less d b) (q tt))) (is-next m g d r e (less d b) (q tt))

pub guess_pos : (m g d : ℕ) → Range m → d + g * g ≡ m * 2 ^ 52 + 2 ^ 58 → d / 4503599627370496 < 67 → 0 < g
guess_pos m zero d r e h = absurd (far m d r (sym (add-zero d) ∙ e) h)
guess_pos m (suc g) d r e h = native.Mathlib.Nat.zero-lt-suc g

-- the bounds that a bisection starts from
pub first-low : (m : ℕ) → Range m → 4503599627370495 * 4503599627370495 + 4503599627370495 < m * 2 ^ 52
first-low m r = omega (arith, r)

pub first-high : (m : ℕ) → Range m → m * 2 ^ 52 ≤ 9007199254740991 * 9007199254740991 + 9007199254740991
first-high m r = omega (arith, r)

-- a significand has its 53 digits
pub full : (m q : ℕ) → Range m → Near m q → 2 ^ 52 ≤ q
full m q r n = native.Mathlib.Nat.le_of_suc-le-suc (lt_of_not-le (λ (g : suc q ≤ 2 ^ 52). small g))
  where
    small : suc q ≤ 2 ^ 52 → ⊥
    small g =
        let a : q ≤ 4503599627370495 = omega arith in
        let b : q * q ≤ 4503599627370495 * 4503599627370495 = mul-le-mul a a in
        omega (arith, r, n)

-- ---- m * 4 ^ j
no_room : (m j n : ℕ) → n * (2 ^ 0 * 2 ^ 0) ≡ m * (2 ^ j * 2 ^ j) → 0 < m → 511 ≤ j → n ≤ 2 ^ 54 - 2 → ⊥
no_room m j n e p h s =
    let a : 1 * (2 ^ 511 * 2 ^ 511) ≤ m * (2 ^ j * 2 ^ j) = mul-le-mul p (mul-le-mul (pow_mono h) (pow_mono h)) in
    let b : 1 * (2 ^ 511 * 2 ^ 511) ≤ n = le_trans a (le_of_eq (sym e ∙ mul-one n)) in
    not-le_of_lt (lt_of_le_of_lt s (lit< tt)) b

pub room : (m j n k : ℕ) → n * (2 ^ k * 2 ^ k) ≡ m * (2 ^ j * 2 ^ j) → 0 < m → 511 ≤ j → n ≤ 2 ^ 54 - 2 → 0 < k
room m j n zero e p h s = absurd (no_room m j n e p h s)
room m j n (suc k) e p h s = native.Mathlib.Nat.zero-lt-suc k

quarter-suc : (n h : ℕ) → n * 4 * (h * h) ≡ n * ((h + h) * (h + h))
quarter-suc n h = mul_assoc n 4 (h * h) ∙ ap (λ (x : ℕ). n * x) (sym (sq_double h))

pub quarter : (n k : ℕ) → 0 < k → n * 4 * (2 ^ (k - 1) * 2 ^ (k - 1)) ≡ n * (2 ^ k * 2 ^ k)
quarter n zero h = absurd (lt_irrefl 0 h)
quarter n (suc k) h =
    ap (λ (x : ℕ). n * 4 * (2 ^ x * 2 ^ x)) (pr k)
    ∙ quarter-suc n (2 ^ k)
    ∙ ap (λ (x : ℕ). n * (x * x)) (sym (two-pow-succ k))
  where
    pr : (y : ℕ) → suc y - 1 ≡ y
    pr y = omega arith
