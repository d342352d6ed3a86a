-- What `rooted` gives: with q the whole number nearest to the root of N, the root of N * 2 ^ 2j units is q * 2 ^ j units, rounded. Assumes nothing.
use mathlib.Core.Path.{◌≡◌, sym, ap, ◌∙◌, subst}
use mathlib.Core.Bool.{Bool, true, false, not, cond}
use Prim.Native.Nat.{ℕ, suc, ◌+◌, ◌-◌, ◌*◌, ◌/◌, ◌^◌, ◌≤◌, ◌<◌, zero-le}
use native.Mathlib.Nat.{le_refl, le_trans, le_of_eq, le_antisymm, lt_of_lt_of_le, lt_of_le_of_lt, mul-le-mul, mul-le-mul_right, mul-lt-mul_of_pos_right, mul-add, add-mul, mul_comm, mul_assoc, mul_left_comm, add_assoc, add_comm, add_left_comm, mul-div-mul_right, mul-pos}
use native.Mathlib.Omega.{arith}
use lib.Dec.{T, ltb, nltb→le, lit<}
use lib.Pow.{pow-add, pow_pos, pow_mono}
use lib.Ieee.{binary64, size, units}
use lib.Ieee.Digits.{size-le, size-lt}
use lib.Ieee.Fits.{round_is}
use lib.Ieee.Nearest.{closest, closest_same}
use Rattle.ieee.specs.Root.{isqrt, rooted}
use Rattle.ieee.proofs.Squares.{sq_lt, sq_at, sq_suc, sq_odd, sq_double}
use Rattle.ieee.proofs.Isqrt.{Root, isqrt-root}
use Rattle.ieee.proofs.Closest.{closest_is}

-- ---- a number from 2 ^ j up and below 2 ^ (j + 1) has j + 1 digits
pub size_is : (n j : ℕ) → 2 ^ j ≤ n → n < 2 ^ suc j → size n ≡ suc j
size_is n j lo hi = le_antisymm (size-le n (suc j) hi) (native.Mathlib.Nat.lt_of_not-le (λ (g : size n ≤ j). native.Mathlib.Nat.not-le_of_lt (lt_of_lt_of_le (size-lt n) (pow_mono g)) lo))

abbrev sticky : ℕ → ℕ → ℕ
sticky s n = cond (ltb (s * s) n) 1 0

-- s is the whole part of n's root. A v whose square is below n is below s + sticky / 2, and a v whose square is above n is above s + 1 / 2
low-side : (n s v : ℕ) → n < (s + 1) * (s + 1) → v * v < n → 2 * v < 2 * s + sticky s n
low-side n s v a h = go (ltb (s * s) n) (nltb→le (s * s) n)
  where
    v_le : v < s + 1
    v_le = sq_lt (native.Mathlib.Nat.lt_trans h a)

    go : (b : Bool) → (T (not b) → n ≤ s * s) → 2 * v < 2 * s + cond b 1 0
    go true k = omega (arith, v_le)
    go false k = let g : v < s = sq_lt (lt_of_lt_of_le h (k tt)) in omega arith

high-side : (n s v : ℕ) → s * s ≤ n → n < v * v → 2 * s + sticky s n < 2 * v
high-side n s v a h = go (ltb (s * s) n)
  where
    v_gt : s < v
    v_gt = sq_lt (lt_of_le_of_lt a h)

    go : (b : Bool) → 2 * s + cond b 1 0 < 2 * v
    go true = omega (arith, v_gt)
    go false = omega (arith, v_gt)

-- ---- the squares of (2p + 1) H and (2p + 3) H, with q = p + 1, against N * (2H * 2H)
next-sq : (p : ℕ) → (2 * p + 3) * (2 * p + 3) ≡ 4 * (p * p) + 12 * p + 9
next-sq p = simp (mul-add, add-mul, mul_comm, mul_assoc, mul_left_comm, add_assoc, add_comm, add_left_comm) (omega arith)

four : (N H : ℕ) → N * ((H + H) * (H + H)) ≡ 4 * N * (H * H)
four N H = ap (λ (x : ℕ). N * x) (sq_double H) ∙ mul_left_comm N 4 (H * H) ∙ sym (mul_assoc 4 N (H * H))

module _ (N p H : ℕ) (hp : 0 < H) (lo : (p + 1) * (p + 1) < N + (p + 1)) (hi : N ≤ (p + 1) * (p + 1) + (p + 1)) where
  below : ((2 * p + 1) * H) * ((2 * p + 1) * H) < N * ((H + H) * (H + H))
  below =
      let e1 = sq_odd p in
      let e2 = sq_suc p in
      let g : (2 * p + 1) * (2 * p + 1) < 4 * N = omega arith in
      subst (λ (x : ℕ). x < N * ((H + H) * (H + H))) (sym (sq_at (2 * p + 1) H))
      (subst (λ (x : ℕ). (2 * p + 1) * (2 * p + 1) * (H * H) < x) (sym (four N H)) (mul-lt-mul_of_pos_right g (mul-pos hp hp)))

  above : N * ((H + H) * (H + H)) < ((2 * p + 3) * H) * ((2 * p + 3) * H)
  above =
      let e1 = next-sq p in
      let e2 = sq_suc p in
      let g : 4 * N < (2 * p + 3) * (2 * p + 3) = omega arith in
      subst (λ (x : ℕ). N * ((H + H) * (H + H)) < x) (sym (sq_at (2 * p + 3) H))
      (subst (λ (x : ℕ). x < (2 * p + 3) * (2 * p + 3) * (H * H)) (sym (four N H)) (mul-lt-mul_of_pos_right g (mul-pos hp hp)))

  -- the root, with a half added where it is no whole number, rounds to p + 1 at a unit of H + H
  rounds : (s : ℕ) → Root (N * ((H + H) * (H + H))) s → closest (2 * s + sticky s (N * ((H + H) * (H + H)))) (2 * (H + H)) ≡ suc p
  rounds s r =
      let n = N * ((H + H) * (H + H)) in
      let a = low-side n s ((2 * p + 1) * H) r.1 below in
      let b = high-side n s ((2 * p + 3) * H) r.0 above in
      let e1 : (2 * p + 1) * H ≡ 2 * (p * H) + H = simp (add-mul, mul_assoc, native.Mathlib.Nat.one-mul) in
      let e2 : (2 * p + 3) * H ≡ 2 * (p * H) + 3 * H = simp (add-mul, mul_assoc) in
      let e3 : p * (2 * (H + H)) ≡ 4 * (p * H) = simp (mul-add, mul_left_comm) (omega arith) in
      closest_is p (2 * (H + H)) (2 * s + sticky s n) (omega arith) (omega arith)

half_of : (s t : ℕ) → t ≤ 1 → (2 * s + t) / 2 ≡ s
half_of s t h = omega arith

sticky-le : (s n : ℕ) → sticky s n ≤ 1
sticky-le s n = go (ltb (s * s) n)
  where
    go : (b : Bool) → cond b 1 0 ≤ 1
    go true = le_refl 1
    go false = zero-le

drops : (z k : ℕ) → z ≡ suc (52 + k) → z - 53 ≡ k
drops z k e = omega arith

at_most : (v s : ℕ) → v < s + 1 → v ≤ s
at_most v s h = omega arith

-- a is N * 2 ^ 2k of the units of a square, for a k above 0
module _ (a N p j : ℕ) (e : a * 2 ^ 1074 ≡ N * (2 ^ suc j * 2 ^ suc j)) (from : 2 ^ 104 ≤ N) (to : N < 2 ^ 106) (jb : suc j ≤ 1535) (lo : (p + 1) * (p + 1) < N + (p + 1)) (hi : N ≤ (p + 1) * (p + 1) + (p + 1)) where
  n-small : a * 2 ^ 1074 < 4 ^ 1600
  n-small = lt_of_le_of_lt (le_trans (le_of_eq e) (mul-le-mul (native.Mathlib.Nat.le_of_lt to) (mul-le-mul (pow_mono jb) (pow_mono jb)))) (lit< tt)

  whole : ℕ
  whole = isqrt 1600 (a * 2 ^ 1074)

  whole-root : Root (a * 2 ^ 1074) whole
  unfolding whole
  whole-root = isqrt-root 1600 (a * 2 ^ 1074) n-small

  whole-ge : 2 ^ (52 + suc j) ≤ whole
  whole-ge =
      at_most (2 ^ (52 + suc j)) whole
      (sq_lt
      (lt_of_le_of_lt
      (le_trans (le_of_eq (ap (λ (x : ℕ). x * x) (pow-add 2 52 (suc j)) ∙ sq_at (2 ^ 52) (2 ^ suc j)))
      (le_trans (mul-le-mul_right (2 ^ suc j * 2 ^ suc j) from) (le_of_eq (sym e))))
      whole-root.1))

  whole-lt : whole < 2 ^ suc (52 + suc j)
  whole-lt =
      sq_lt
      (lt_of_le_of_lt whole-root.0
      (lt_of_le_of_lt (le_of_eq e)
      (lt_of_lt_of_le (mul-lt-mul_of_pos_right to (mul-pos (pow_pos (suc j)) (pow_pos (suc j))))
      (le_of_eq (sym (ap (λ (x : ℕ). x * x) (ap (λ (x : ℕ). 2 ^ x) (sym (native.Mathlib.Nat.suc-add 52 (suc j))) ∙ pow-add 2 53 (suc j)) ∙ sq_at (2 ^ 53) (2 ^ suc j)))))))

  size_whole : size whole ≡ suc (52 + suc j)
  size_whole = size_is whole (52 + suc j) whole-ge whole-lt

  halved : ℕ
  halved = 2 * whole + sticky whole (a * 2 ^ 1074)

  whole_part : halved * 2 ^ 1074 / (2 * 2 ^ 1074) ≡ whole
  unfolding halved
  whole_part = mul-div-mul_right {m = 2 ^ 1074} halved 2 (pow_pos 1074) ∙ half_of whole (sticky whole (a * 2 ^ 1074)) (sticky-le whole (a * 2 ^ 1074))

  kept-is : closest (halved * 2 ^ 1074) (2 * 2 ^ 1074 * 2 ^ suc j) ≡ suc p
  unfolding halved
  kept-is =
      let H = 2 ^ j in
      let d : 2 ^ suc j ≡ H + H = native.Mathlib.Nat.two-pow-succ j in
      let g : Root (N * ((H + H) * (H + H))) whole = subst (λ (x : ℕ). Root x whole) (e ∙ ap (λ (x : ℕ). N * (x * x)) d) whole-root in
      closest_same (halved * 2 ^ 1074) (2 * 2 ^ 1074 * 2 ^ suc j) halved (2 * 2 ^ suc j) (mul-pos (lit< tt) (pow_pos (suc j))) (mul-pos (lit< tt) (pow_pos (suc j)))
      (scaled halved (2 ^ 1074) (2 ^ suc j))
      ∙ ap (λ (x : ℕ). closest halved (2 * x)) d
      ∙ subst (λ (x : ℕ). closest (2 * whole + sticky whole x) (2 * (H + H)) ≡ suc p) (sym (e ∙ ap (λ (x : ℕ). N * (x * x)) d)) (rounds N p H (pow_pos j) lo hi whole g)
    where
      scaled : (w l x : ℕ) → w * l * (2 * x) ≡ w * (2 * l * x)
      scaled w l x = simp (mul_assoc, mul_left_comm)

  pub rooted-is : rooted a ≡ units binary64 false (suc p) (suc j)
  unfolding rooted whole halved
  rooted-is =
      round_is binary64 false halved (2 * 2 ^ 1074)
      ∙ ap (λ (k : ℕ). units binary64 false (closest (halved * 2 ^ 1074) (2 * 2 ^ 1074 * 2 ^ k)) k) (drops (size (halved * 2 ^ 1074 / (2 * 2 ^ 1074))) (suc j) (ap size whole_part ∙ size_whole))
      ∙ ap (λ (q : ℕ). units binary64 false q (suc j)) kept-is

pub rooted-fits : (a : ℕ) → T (lib.Ieee.fits binary64 (rooted a))
unfolding rooted
rooted-fits a = lib.Ieee.Fits.round-fits binary64 false (2 * isqrt 1600 (a * 2 ^ 1074) + sticky (isqrt 1600 (a * 2 ^ 1074)) (a * 2 ^ 1074)) (2 * 2 ^ 1074)
