-- How far a rounded result may lie from the exact one, as a factor, in whole units of 2 ^ -1074: at most twice it, and at least half of it less half a unit.
-- So a vector over its rounded length has components of moderate size, and again a length that is finite and above zero (`length-again`). Assumes nothing.
use mathlib.Core.Path.{◌≡◌, refl, sym, ap, ◌∙◌, subst}
use mathlib.Core.Bool.{Bool, true, false, not, cond, ◌&&◌, true≢false}
use Prim.Native.Nat.{ℕ, zero, suc, ◌+◌, ◌-◌, ◌*◌, ◌/◌, ◌%◌, ◌^◌, ◌≤◌, ◌<◌, compare, Ordering}
use native.Mathlib.Nat.{le_trans, le_of_eq, lt_of_le_of_lt, lt_of_lt_of_le, mul-le-mul_right, le_of_mul-le-mul_right, mul-pos, mul-one, mul-mul-mul_comm, div-add-mod', div-lt_iff_lt-mul, le-div_iff_mul-le, zero-mul, lt_irrefl, zero-lt-suc}
use native.Mathlib.Omega.{arith}
use lib.IntN.{ℤ}
use lib.Dec.{T, leb, ltb, is_le, compare_is_eq, leb→le, nleb→lt, ltb→lt, nltb→le, eqb→eq, lt→ltb, lit<, lit≤}
use lib.Pow.{pow_pos}
use lib.Ieee.{Float, nan, inf, fin, binary64, up, down, size, nearest, round, add, sum, mul, div, lt, of_bits}
use lib.Ieee.Digits.{size_reaches}
use lib.Ieee.Fits.{up_pos, down_pos, nearest-le, round_is, add-fits}
use lib.Ieee.Exact.{HasValue, units_val}
use lib.Ieee.Nearest.{closest, nearest-ge}
use lib.Ieee.Order.{drop, kept}
use lib.Ieee.Scale.{grid, finite, round_same, round_under}
use lib.Ieee.Positive.{positive, positive_of_value, value_pos, first_pos}
use borrow.Author.Tests.{ne_eqb, lt-ltb}
use Rattle.ieee.specs.Consts.{zero_f}
use Rattle.ieee.specs.Num
use Rattle.ieee.specs.Operators.{◌⊕◌, ◌⊗◌, ◌⊘◌}
use Rattle.ieee.specs.Root.{isqrt, rooted, root_of}
use Rattle.ieee.proofs.Squares.{sq_lt, sq_suc, sq_mono}
use Rattle.ieee.proofs.Isqrt.{Root, isqrt-root}
use Rattle.ieee.proofs.Patterns.{root_above}
use Rattle.ieee.proofs.RootLaws.{root_nearest}

-- ---- n / u to the nearest whole number
moved_up : (q r u : ℕ) (o : Ordering) → (T (not (is_le o)) → u < r * 2) → (T (compare_is_eq o) → r * 2 ≡ u) → nearest q o * u ≤ q * u + 2 * r
moved_up q r u Ordering.lt g e = omega arith
moved_up q r u Ordering.eq g e = le_trans (mul-le-mul_right u (nearest-le q Ordering.eq)) (omega (arith, e tt))
moved_up q r u Ordering.gt g e = omega (arith, g tt)

twice : (n a q u r : ℕ) → a ≤ q * u + 2 * r → q * u + r ≡ n → a ≤ 2 * n
twice n a q u r h e = omega arith

closest_above : (n u : ℕ) → closest n u * u ≤ 2 * n
closest_above n u =
    twice n (closest n u * u) (n / u) u (n % u) (moved_up (n / u) (n % u) u (compare (n % u * 2) u) (nleb→lt (n % u * 2) u) (eqb→eq (n % u * 2) u)) (div-add-mod' n u)

next : (a b : ℕ) → a ≤ b → a < b + 1
next a b h = omega arith

closest_below : (n u : ℕ) → 0 < u → n < (closest n u + 1) * u
closest_below n u p = (div-lt_iff_lt-mul p).0 (next (n / u) (closest n u) (nearest-ge (n / u) (compare (n % u * 2) u)))

-- ---- what `round` makes of n / c, a fraction in units, for a format of p digits
ordered : (a b c : ℕ) → a * b * c ≡ a * (c * b)
ordered a b c = omega arith

above-exact : (p n c : ℕ) → kept p n c * 2 ^ drop p n c * c ≤ 2 * n
above-exact p n c = let k = drop p n c in le_trans (le_of_eq (ordered (kept p n c) (2 ^ k) c)) (closest_above n (c * 2 ^ k))

none_dropped : (z p k : ℕ) → 0 < p → k ≡ z - p → z ≤ k → k ≡ 0
none_dropped z p k P e h = omega arith

below-exact : (p n c : ℕ) → 0 < p → 0 < c → n ≤ 2 * (kept p n c * 2 ^ drop p n c * c) + c
below-exact p n c P C = go (ltb k (size w)) (ltb→lt k (size w)) (nltb→le k (size w))
  where
    w : ℕ
    w = n / c

    k : ℕ
    k = drop p n c

    u : ℕ
    u = c * 2 ^ k

    U : 0 < u
    U = mul-pos C (pow_pos k)

    -- at least one unit is kept, of which the rest is no more
    many : (a n u c : ℕ) → n < (a + 1) * u → 1 ≤ a → n ≤ 2 * (a * u) + c
    many a n u c h l = let m = mul-le-mul_right u l in omega arith

    few : (a n u c : ℕ) → n < (a + 1) * u → u ≡ c → n ≤ 2 * (a * u) + c
    few a n u c h e = omega arith

    one : (x y : ℕ) → 0 < y → 1 * y ≤ x → 1 ≤ x / y
    one x y Y h = (le-div_iff_mul-le Y).1 h

    joined : n ≤ 2 * (kept p n c * u) + c → n ≤ 2 * (kept p n c * 2 ^ k * c) + c
    joined = subst (λ (z : ℕ). n ≤ 2 * z + c) (sym (ordered (kept p n c) (2 ^ k) c))

    go : (b : Bool) → (T b → k < size w) → (T (not b) → size w ≤ k) → n ≤ 2 * (kept p n c * 2 ^ k * c) + c
    go true h g =
        let a : 2 ^ k * c ≤ n = (le-div_iff_mul-le C).0 (size_reaches w k (h tt)) in
        joined (many (kept p n c) n u c (closest_below n u U) (le_trans (one n u U (omega (arith, a))) (nearest-ge (n / u) (compare (n % u * 2) u))))
    go false h g = joined (few (kept p n c) n u c (closest_below n u U) (ap (λ (z : ℕ). c * 2 ^ z) (none_dropped (size w) p k P refl (g tt)) ∙ mul-one c))

-- a / c rounded, in units
abbrev pub rounded : ℕ → ℕ → ℕ
rounded a c = grid binary64 a c

pub rounded-above : (a c : ℕ) → rounded a c * c ≤ 2 * (a * 2 ^ 1074)
rounded-above a c = above-exact 53 (a * 2 ^ 1074) c

pub rounded-below : (a c : ℕ) → 0 < c → a * 2 ^ 1074 ≤ 2 * (rounded a c * c) + c
rounded-below a c C = below-exact 53 (a * 2 ^ 1074) c (lit< tt) C

pub round_counts : (s : Bool) (a c : ℕ) → rounded a c < 2 ^ 2098 → HasValue (round binary64 s a c) s (rounded a c) (2 ^ 1074)
round_counts s a c h =
    subst (λ (z : Float). HasValue z s (rounded a c) (2 ^ 1074)) (sym (round_is binary64 s a c)) (units_val binary64 s (kept 53 (a * 2 ^ 1074) c) (drop 53 (a * 2 ^ 1074) c) h)

-- ---- the operations, by any fractions that the operands equal
times_itself : (p d a c : ℕ) → p * c ≡ a * d → p * p * (c * c) ≡ a * a * (d * d)
times_itself p d a c k = mul-mul-mul_comm p p c c ∙ ap (λ (z : ℕ). z * z) k ∙ mul-mul-mul_comm a d a d

pub square-is : (x : Float) (s : Bool) (a c : ℕ) → 0 < c → HasValue x s a c → x ⊗ x ≡ round binary64 false (a * a) (c * c)
unfolding mul
square-is nan s a c C h = absurd h
square-is (inf t) s a c C h = absurd h
square-is (fin true m e) s a c C h = round_same binary64 false (m * up e * (m * up e)) (down e * down e) (a * a) (c * c) (mul-pos (down_pos e) (down_pos e)) (mul-pos C C) (times_itself (m * up e) (down e) a c h.1)
square-is (fin false m e) s a c C h = round_same binary64 false (m * up e * (m * up e)) (down e * down e) (a * a) (c * c) (mul-pos (down_pos e) (down_pos e)) (mul-pos C C) (times_itself (m * up e) (down e) a c h.1)

added : (p d n f a b c : ℕ) → p * c ≡ a * d → n * c ≡ b * f → (p * f + n * d) * c ≡ (a + b) * (d * f)
added p d n f a b c h k = omega (arith, ap (λ (z : ℕ). z * f) h, ap (λ (z : ℕ). z * d) k)

pub sum_is : (x y : Float) (a b c : ℕ) → 0 < c → HasValue x false a c → HasValue y false b c → x ⊕ y ≡ round binary64 false (a + b) c
unfolding add sum
sum_is nan y a b c C h k = absurd h
sum_is (inf s) y a b c C h k = absurd h
sum_is (fin true m e) y a b c C h k = absurd (true≢false h.0)
sum_is (fin false m e) nan a b c C h k = absurd k
sum_is (fin false m e) (inf s) a b c C h k = absurd k
sum_is (fin false m e) (fin true n d) a b c C h k = absurd (true≢false k.0)
sum_is (fin false m e) (fin false n d) a b c C h k =
    round_same binary64 false (m * up e * down d + n * up d * down e) (down e * down d) (a + b) c (mul-pos (down_pos e) (down_pos d)) C (added (m * up e) (down e) (n * up d) (down d) a b c h.1 k.1)

divided : (p d n f l u : ℕ) → n * u ≡ l * f → p * f * (l * d) ≡ p * u * (n * d)
divided p d n f l u h = omega (arith, ap (λ (z : ℕ). z * (p * d)) h)

above_zero : (n f l u k : ℕ) → n * k * u ≡ l * f → 0 < l → 0 < f → n ≡ 0 → ⊥
above_zero n f l u k h L F e = lt_irrefl 0 (subst (λ (z : ℕ). 0 < z) (sym h ∙ ap (λ (z : ℕ). z * k * u) e ∙ simp zero-mul) (mul-pos L F))

pub quotient_is : (s : Bool) (m : ℕ) (e : ℤ) (y : Float) (l u : ℕ) → 0 < u → 0 < l → HasValue y false l u → fin s m e ⊘ y ≡ round binary64 s (m * up e * u) (l * down e)
unfolding div
quotient_is s m e nan l u C L h = absurd h
quotient_is s m e (inf t) l u C L h = absurd h
quotient_is s m e (fin true n d) l u C L h = absurd (true≢false h.0)
quotient_is true m e (fin false n d) l u C L h =
    let z = above_zero n (down d) l u (up d) h.1 L (down_pos d) in
    let N : 0 < n = first_pos n (up d) (first_pos (n * up d) u (subst (λ (k : ℕ). 0 < k) (sym h.1) (mul-pos L (down_pos d)))) in
    simp (ne_eqb n 0 z)
    (round_same binary64 true (m * up e * down d) (n * up d * down e) (m * up e * u) (l * down e) (mul-pos (mul-pos N (up_pos d)) (down_pos e)) (mul-pos L (down_pos e)) (divided (m * up e) (down e) (n * up d) (down d) l u h.1))
quotient_is false m e (fin false n d) l u C L h =
    let z = above_zero n (down d) l u (up d) h.1 L (down_pos d) in
    let N : 0 < n = first_pos n (up d) (first_pos (n * up d) u (subst (λ (k : ℕ). 0 < k) (sym h.1) (mul-pos L (down_pos d)))) in
    simp (ne_eqb n 0 z)
    (round_same binary64 false (m * up e * down d) (n * up d * down e) (m * up e * u) (l * down e) (mul-pos (mul-pos N (up_pos d)) (down_pos e)) (mul-pos L (down_pos e)) (divided (m * up e) (down e) (n * up d) (down d) l u h.1))

-- ---- a finite result has finite operands
pub finite-left : (x y : Float) → T (finite (x ⊕ y)) → T (finite x)
unfolding add
finite-left nan y h = h
finite-left (inf s) nan h = h
finite-left (inf true) (inf true) h = h
finite-left (inf true) (inf false) h = h
finite-left (inf false) (inf true) h = h
finite-left (inf false) (inf false) h = h
finite-left (inf s) (fin t n d) h = h
finite-left (fin s m e) y h = tt

pub finite-right : (x y : Float) → T (finite (x ⊕ y)) → T (finite y)
unfolding add
finite-right nan y h = absurd h
finite-right (inf s) nan h = h
finite-right (inf true) (inf true) h = h
finite-right (inf true) (inf false) h = h
finite-right (inf false) (inf true) h = h
finite-right (inf false) (inf false) h = h
finite-right (inf s) (fin t n d) h = tt
finite-right (fin s m e) nan h = h
finite-right (fin s m e) (inf t) h = h
finite-right (fin s m e) (fin t n d) h = tt

pub finite-square : (x : Float) → T (finite (x ⊗ x)) → T (finite x)
unfolding mul
finite-square nan h = h
finite-square (inf true) h = h
finite-square (inf false) h = h
finite-square (fin s m e) h = tt

pub finite-root : (x : Float) → T (finite (root_of x)) → T (finite x)
unfolding root_of
finite-root nan h = h
finite-root (inf true) h = h
finite-root (inf false) h = h
finite-root (fin s m e) h = tt

-- ---- above zero
pub counts_some : (x : Float) (a : ℕ) → HasValue x false a (2 ^ 1074) → T (lt zero_f x) → 0 < a
unfolding lt of_bits
counts_some nan a h p = absurd h
counts_some (inf s) a h p = absurd h
counts_some (fin true m e) a h p = absurd (true≢false h.0)
counts_some (fin false zero e) a h p = absurd (lt_irrefl 0 (subst (λ (z : ℕ). 0 < z) (simp zero-mul) (lt_of_le_of_lt Prim.Native.Nat.zero-le (ltb→lt (0 * 1 * down e) (0 * up e * 1) p))))
counts_some (fin false (suc m) e) a h p = value_pos (fin false (suc m) e) a (2 ^ 1074) (lt→ltb 0 (suc m) (zero-lt-suc m)) (pow_pos 1074) h

pub root_some : (x : Float) (a : ℕ) → HasValue x false a (2 ^ 1074) → T (lt zero_f (root_of x)) → 0 < a
unfolding lt of_bits root_of
root_some nan a h p = absurd h
root_some (inf s) a h p = absurd h
root_some (fin true m e) a h p = absurd (true≢false h.0)
root_some (fin false zero e) a h p = absurd (lt_irrefl 0 (subst (λ (z : ℕ). 0 < z) (simp zero-mul) (lt_of_le_of_lt Prim.Native.Nat.zero-le (ltb→lt (0 * 1 * down e) (0 * up e * 1) p))))
root_some (fin false (suc m) e) a h p = value_pos (fin false (suc m) e) a (2 ^ 1074) (lt→ltb 0 (suc m) (zero-lt-suc m)) (pow_pos 1074) h

-- ---- the root of n, in units
-- r counts l units, and l times l is n within a factor
pub record Within (r : Float) (n : ℕ) : Type 0 where
  pub l : ℕ
  pub counts : HasValue r false l (2 ^ 1074)
  pub low : l * l ≤ 9 * n
  pub high : 0 < l → n ≤ 36 * (l * l)

module _ (U h l : ℕ) (P : 0 < U) where
  down_to : l * (2 * U) ≤ 2 * (h * U) → l ≤ h
  down_to g = le_of_mul-le-mul_right (le_trans g (omega arith)) (twofold P)
    where
      twofold : 0 < U → 0 < 2 * U
      twofold z = omega arith

  up_to : h * U ≤ 2 * (l * (2 * U)) + 2 * U → h ≤ 4 * l + 2
  up_to g = le_of_mul-le-mul_right (le_trans g (omega arith)) P

halved-low : (n s h l : ℕ) → 0 < n → Root n s → h ≤ 2 * s + 1 → l ≤ h → l * l ≤ 9 * n
halved-low n s h l N r a b =
    let one : 1 < s + 1 = sq_lt {a = 1} {b = s + 1} (lt_of_le_of_lt N r.1) in
    let t : l ≤ 3 * s = omega arith in
    let u = sq_mono t in
    let v = r.0 in
    omega arith

halved-high : (n s h l : ℕ) → 0 < n → Root n s → 2 * s ≤ h → h ≤ 4 * l + 2 → 0 < l → n ≤ 36 * (l * l)
halved-high n s h l N r a b L =
    let one : 1 < s + 1 = sq_lt {a = 1} {b = s + 1} (lt_of_le_of_lt N r.1) in
    let t : s + 1 ≤ 6 * l = omega arith in
    let u = sq_mono t in
    let v = r.1 in
    omega arith

digit-le : (b : Bool) (s : ℕ) → 2 * s + cond b 1 0 ≤ 2 * s + 1
digit-le true s = omega arith
digit-le false s = omega arith

digit-ge : (b : Bool) (s : ℕ) → 2 * s ≤ 2 * s + cond b 1 0
digit-ge true s = omega arith
digit-ge false s = omega arith

rooted-within : (a : ℕ) → 0 < a → a < 2 ^ 2098 → T (finite (rooted a)) → Within (rooted a) (a * 2 ^ 1074)
unfolding rooted
rooted-within a A small t =
    let n = a * 2 ^ 1074 in
    let s = isqrt 1600 n in
    let h = 2 * s + cond (ltb (s * s) n) 1 0 in
    let l = rounded h (2 * 2 ^ 1074) in
    let N : 0 < n = mul-pos A (pow_pos 1074) in
    let r : Root n s = isqrt-root 1600 n (lt_of_lt_of_le (native.Mathlib.Nat.mul-lt-mul_of_pos_right small (pow_pos 1074)) (lit≤ tt)) in
    record {
      l = l;
      counts = round_counts false h (2 * 2 ^ 1074) (round_under binary64 h (2 * 2 ^ 1074) t);
      low = halved-low n s h l N r (digit-le (ltb (s * s) n) s) (down_to (2 ^ 1074) h l (pow_pos 1074) (rounded-above h (2 * 2 ^ 1074)));
      high = halved-high n s h l N r (digit-ge (ltb (s * s) n) s) (up_to (2 ^ 1074) h l (pow_pos 1074) (rounded-below h (2 * 2 ^ 1074) (lit< tt)));
    }

pub root_within : (x : Float) (a : ℕ) → HasValue x false a (2 ^ 1074) → 0 < a → a < 2 ^ 2098 → T (finite (root_of x)) → Within (root_of x) (a * 2 ^ 1074)
root_within x a h A small t =
    let e = root_above x a h A in
    subst (λ (r : Float). Within r (a * 2 ^ 1074)) (sym e) (rooted-within a A small (subst (λ (r : Float). T (finite r)) e t))

-- ---- p / q over the length l / U, whose square is the sum of gx and gy units, within factors: from a ninth, for the larger, to 16
sq_le : (a b : ℕ) → a * a ≤ b * b → a ≤ b
sq_le a b h = let g : a < b + 1 = sq_lt (lt_of_le_of_lt h (grows b)) in omega arith
  where
    grows : (b : ℕ) → b * b < (b + 1) * (b + 1)
    grows b = omega (arith, sq_suc b)

module _ (U p q gx gy A L : ℕ) where
  not_long : p * p * U ≤ 2 * (gx * (q * q)) + q * q → gx + gy ≤ 2 * A + 1 → 0 < A → A * U ≤ 36 * (L * L) → p * U ≤ 16 * (L * q)
  not_long h k P r =
      let g : gx ≤ 3 * A = omega arith in
      let a = mul-le-mul_right U h in
      let b = mul-le-mul_right (q * q * U) g in
      let c = mul-le-mul_right (q * q * U) P in
      let d = mul-le-mul_right (q * q) r in
      sq_le (p * U) (16 * (L * q)) (omega (arith, a, b, c, d))

  not_short : gy ≤ gx → A ≤ 2 * (gx + gy) → L * L ≤ 9 * (A * U) → gx * (q * q) ≤ 2 * (p * p * U) → L * q ≤ 9 * (p * U)
  not_short h k r g =
      let l : A ≤ 4 * gx = omega arith in
      let a = mul-le-mul_right (q * q) r in
      let b = mul-le-mul_right (q * q * U) l in
      let c = mul-le-mul_right U g in
      sq_le (L * q) (9 * (p * U)) (omega (arith, a, b, c))

-- ---- that quotient, rounded, counts g units: at most 32 times U, and for the larger at least about an 18th of it
module _ (U p q g L : ℕ) (P : 0 < L * q) where
  ratio_above : g * (L * q) ≤ 2 * (p * U * U) → p * U ≤ 16 * (L * q) → g ≤ 32 * U
  ratio_above h k = let a = mul-le-mul_right U k in le_of_mul-le-mul_right {k = L * q} (omega (arith, a)) P

  ratio_below : p * U * U ≤ 2 * (g * (L * q)) + L * q → L * q ≤ 9 * (p * U) → U ≤ 18 * g + 9
  ratio_below h k = let a = mul-le-mul_right U k in le_of_mul-le-mul_right {k = L * q} (omega (arith, a)) P

-- its square counts k units
module _ (U g k : ℕ) (P : 10000 ≤ U) where
  some-units : 10000 ≤ U → 0 < U
  some-units h = omega arith

  square_above : k * (U * U) ≤ 2 * (g * g * U) → g ≤ 32 * U → k ≤ 2048 * U
  square_above h l = let a = mul-le-mul_right U (sq_mono l) in le_of_mul-le-mul_right {k = U * U} (omega (arith, a)) (mul-pos (some-units P) (some-units P))

  square-below : g * g * U ≤ 2 * (k * (U * U)) + U * U → U ≤ 18 * g + 9 → 2 ≤ k
  square-below h l = native.Mathlib.Nat.lt_of_not-le (λ (c : k ≤ 1). none c)
    where
      less : g * g ≤ (2 * k + 1) * U
      less = le_of_mul-le-mul_right {k = U} (le_trans h (omega arith)) (some-units P)

      none : k ≤ 1 → ⊥
      none c =
          let b : 500 ≤ g = omega arith in
          let a = mul-le-mul_right g b in
          let d = mul-le-mul_right U c in
          let e = less in
          omega arith

-- and the sum of both squares counts b units
module _ (U a c b : ℕ) (P : 0 < U) where
  sum-above : b * U ≤ 2 * ((a + c) * U) → b ≤ 2 * (a + c)
  sum-above h = le_of_mul-le-mul_right {k = U} (le_trans h (omega arith)) P

  sum_below : (a + c) * U ≤ 2 * (b * U) + U → a + c ≤ 2 * b + 1
  sum_below h = le_of_mul-le-mul_right {k = U} (le_trans h (omega arith)) P

-- ---- the sizes of squares and sums that are known to be finite
pub square-counts : (x : Float) (s : Bool) (a c : ℕ) → 0 < c → HasValue x s a c → T (finite (x ⊗ x)) → HasValue (x ⊗ x) false (rounded (a * a) (c * c)) (2 ^ 1074)
square-counts x s a c C h t =
    let e = square-is x s a c C h in
    subst (λ (z : Float). HasValue z false (rounded (a * a) (c * c)) (2 ^ 1074)) (sym e)
    (round_counts false (a * a) (c * c) (round_under binary64 (a * a) (c * c) (subst (λ (z : Float). T (finite z)) e t)))

-- ---- the length of a vector over its length
-- what is known of x = fin s m e over its length r, which counts L units
module _ (s : Bool) (m : ℕ) (e : ℤ) (r : Float) (L : ℕ) (counts : HasValue r false L (2 ^ 1074)) (some : 0 < L) where
  share : ℕ
  share = rounded (m * up e * 2 ^ 1074) (L * down e)

  share-le : m * up e * 2 ^ 1074 ≤ 16 * (L * down e) → share ≤ 32 * 2 ^ 1074
  unfolding share
  share-le h = ratio_above (2 ^ 1074) (m * up e) (down e) share L (mul-pos some (down_pos e)) (rounded-above (m * up e * 2 ^ 1074) (L * down e)) h

  share-ge : L * down e ≤ 9 * (m * up e * 2 ^ 1074) → 2 ^ 1074 ≤ 18 * share + 9
  unfolding share
  share-ge h = ratio_below (2 ^ 1074) (m * up e) (down e) share L (mul-pos some (down_pos e)) (rounded-below (m * up e * 2 ^ 1074) (L * down e) (mul-pos some (down_pos e))) h

  share-counts : share ≤ 32 * 2 ^ 1074 → HasValue (fin s m e ⊘ r) s share (2 ^ 1074)
  unfolding share
  share-counts h =
      subst (λ (z : Float). HasValue z s share (2 ^ 1074)) (sym (quotient_is s m e r L (2 ^ 1074) (pow_pos 1074) some counts))
      (round_counts s (m * up e * 2 ^ 1074) (L * down e) (lt_of_le_of_lt h (lit< tt)))

-- a value of g units, at most 32 times U: its square
module _ (x : Float) (s : Bool) (g : ℕ) (counts : HasValue x s g (2 ^ 1074)) (h : g ≤ 32 * 2 ^ 1074) where
  squared : ℕ
  squared = rounded (g * g) (2 ^ 1074 * 2 ^ 1074)

  squared-le : squared ≤ 2048 * 2 ^ 1074
  unfolding squared
  squared-le = square_above (2 ^ 1074) g squared (lit≤ tt) (rounded-above (g * g) (2 ^ 1074 * 2 ^ 1074)) h

  squared-ge : 2 ^ 1074 ≤ 18 * g + 9 → 2 ≤ squared
  unfolding squared
  squared-ge k = square-below (2 ^ 1074) g squared (lit≤ tt) (rounded-below (g * g) (2 ^ 1074 * 2 ^ 1074) (mul-pos (pow_pos 1074) (pow_pos 1074))) k

  squared-counts : HasValue (x ⊗ x) false squared (2 ^ 1074)
  unfolding squared
  squared-counts =
      subst (λ (z : Float). HasValue z false squared (2 ^ 1074)) (sym (square-is x s g (2 ^ 1074) (pow_pos 1074) counts))
      (round_counts false (g * g) (2 ^ 1074 * 2 ^ 1074) (lt_of_le_of_lt squared-le (lit< tt)))

-- two squares, one of them of 2 units at least: their sum has a root that is finite and above zero
twice_both : (a b U : ℕ) → a ≤ 2048 * U → b ≤ 2048 * U → 2 * (a + b) ≤ 8192 * U
twice_both a b U h k = omega arith

some_left : (a b c : ℕ) → a + b ≤ 2 * c + 1 → 2 ≤ a + b → 0 < c
some_left a b c h k = omega arith

root_of-sum : (x y : Float) (a b : ℕ) → HasValue x false a (2 ^ 1074) → HasValue y false b (2 ^ 1074) → a ≤ 2048 * 2 ^ 1074 → b ≤ 2048 * 2 ^ 1074 → 2 ≤ a + b → T (positive (root_of (x ⊕ y)))
root_of-sum x y a b h k la lb two =
    let c = rounded (a + b) (2 ^ 1074) in
    let hi : c ≤ 2 * (a + b) = sum-above (2 ^ 1074) a b c (pow_pos 1074) (rounded-above (a + b) (2 ^ 1074)) in
    let lo : a + b ≤ 2 * c + 1 = sum_below (2 ^ 1074) a b c (pow_pos 1074) (rounded-below (a + b) (2 ^ 1074) (pow_pos 1074)) in
    let v : HasValue (x ⊕ y) false c (2 ^ 1074) =
    subst (λ (z : Float). HasValue z false c (2 ^ 1074)) (sym (sum_is x y a b (2 ^ 1074) (pow_pos 1074) h k))
    (round_counts false (a + b) (2 ^ 1074) (lt_of_le_of_lt (le_trans hi (twice_both a b (2 ^ 1074) la lb)) (lit< tt))) in
    (root_nearest (x ⊕ y) (add-fits binary64 x y) (positive_of_value (x ⊕ y) c (2 ^ 1074) v (some_left a b c lo two))).above_zero

-- finite components, with the sizes p / q and n / d
module _ (s : Bool) (m : ℕ) (e : ℤ) (t : Bool) (n : ℕ) (d : ℤ) where
  abbrev squares : Float
  squares = fin s m e ⊗ fin s m e ⊕ fin t n d ⊗ fin t n d

  again : T (finite (root_of squares)) → T (lt zero_f (root_of squares))
      → T (positive (root_of ((fin s m e ⊘ root_of squares) ⊗ (fin s m e ⊘ root_of squares) ⊕ (fin t n d ⊘ root_of squares) ⊗ (fin t n d ⊘ root_of squares))))
  again f p =
      root_of-sum ((fin s m e ⊘ r) ⊗ (fin s m e ⊘ r)) ((fin t n d ⊘ r) ⊗ (fin t n d ⊘ r)) (squared a s ga va la) (squared b t gb vb lb) (squared-counts a s ga va la) (squared-counts b t gb vb lb) (squared-le a s ga va la)
      (squared-le b t gb vb lb) (larger (leb gy gx) (leb→le gy gx) (nleb→lt gy gx))
    where
      U : ℕ
      U = 2 ^ 1074

      x : Float
      x = fin s m e

      y : Float
      y = fin t n d

      r : Float
      r = root_of squares

      gx : ℕ
      gx = rounded (m * up e * (m * up e)) (down e * down e)

      gy : ℕ
      gy = rounded (n * up d * (n * up d)) (down d * down d)

      fs : T (finite squares)
      fs = finite-root squares f

      vx : HasValue (x ⊗ x) false gx U
      vx = square-counts x s (m * up e) (down e) (down_pos e) (refl, refl) (finite-left (x ⊗ x) (y ⊗ y) fs)

      vy : HasValue (y ⊗ y) false gy U
      vy = square-counts y t (n * up d) (down d) (down_pos d) (refl, refl) (finite-right (x ⊗ x) (y ⊗ y) fs)

      A : ℕ
      A = rounded (gx + gy) U

      is : squares ≡ round binary64 false (gx + gy) U
      is = sum_is (x ⊗ x) (y ⊗ y) gx gy U (pow_pos 1074) vx vy

      small : A < 2 ^ 2098
      small = round_under binary64 (gx + gy) U (subst (λ (z : Float). T (finite z)) is fs)

      vs : HasValue squares false A U
      vs = subst (λ (z : Float). HasValue z false A U) (sym is) (round_counts false (gx + gy) U small)

      some : 0 < A
      some = root_some squares A vs p

      w : Within r (A * U)
      w = root_within squares A vs some small f

      L : ℕ
      L = w.l

      long : 0 < L
      long = counts_some r L w.counts p

      hi : A ≤ 2 * (gx + gy)
      hi = sum-above U gx gy A (pow_pos 1074) (rounded-above (gx + gy) U)

      lo : gx + gy ≤ 2 * A + 1
      lo = sum_below U gx gy A (pow_pos 1074) (rounded-below (gx + gy) U (pow_pos 1074))

      turned : (i j k : ℕ) → i + j ≤ k → j + i ≤ k
      turned i j k h = omega arith

      turned-hi : (i j k : ℕ) → k ≤ 2 * (i + j) → k ≤ 2 * (j + i)
      turned-hi i j k h = omega arith

      a : Float
      a = x ⊘ r

      b : Float
      b = y ⊘ r

      ga : ℕ
      ga = share s m e r L w.counts long

      gb : ℕ
      gb = share t n d r L w.counts long

      la : ga ≤ 32 * U
      la = share-le s m e r L w.counts long (not_long U (m * up e) (down e) gx gy A L (rounded-below (m * up e * (m * up e)) (down e * down e) (mul-pos (down_pos e) (down_pos e))) lo some (w.high long))

      lb : gb ≤ 32 * U
      lb = share-le t n d r L w.counts long (not_long U (n * up d) (down d) gy gx A L (rounded-below (n * up d * (n * up d)) (down d * down d) (mul-pos (down_pos d) (down_pos d))) (turned gx gy (2 * A + 1) lo) some (w.high long))

      va : HasValue a s ga U
      va = share-counts s m e r L w.counts long la

      vb : HasValue b t gb U
      vb = share-counts t n d r L w.counts long lb

      left-two : (i j : ℕ) → 2 ≤ i → 2 ≤ i + j
      left-two i j h = omega arith

      right-two : (i j : ℕ) → 2 ≤ j → 2 ≤ i + j
      right-two i j h = omega arith

      less : {i j : ℕ} → i < j → i ≤ j
      less h = omega arith

      larger : (c : Bool) → (T c → gy ≤ gx) → (T (not c) → gx < gy) → 2 ≤ squared a s ga va la + squared b t gb vb lb
      larger true h k =
          left-two (squared a s ga va la) (squared b t gb vb lb)
          (squared-ge a s ga va la (share-ge s m e r L w.counts long (not_short U (m * up e) (down e) gx gy A L (h tt) hi w.low (rounded-above (m * up e * (m * up e)) (down e * down e)))))
      larger false h k =
          right-two (squared a s ga va la) (squared b t gb vb lb)
          (squared-ge b t gb vb lb (share-ge t n d r L w.counts long (not_short U (n * up d) (down d) gy gx A L (less (k tt)) (turned-hi gx gy A hi) w.low (rounded-above (n * up d * (n * up d)) (down d * down d)))))

-- where the length of (x, y) is finite and above zero, so is that of (x, y) over it
pub length-again : (x y : Float) → T (finite (root_of (x ⊗ x ⊕ y ⊗ y))) → T (lt zero_f (root_of (x ⊗ x ⊕ y ⊗ y)))
    → T (positive (root_of ((x ⊘ root_of (x ⊗ x ⊕ y ⊗ y)) ⊗ (x ⊘ root_of (x ⊗ x ⊕ y ⊗ y)) ⊕ (y ⊘ root_of (x ⊗ x ⊕ y ⊗ y)) ⊗ (y ⊘ root_of (x ⊗ x ⊕ y ⊗ y)))))
length-again nan y f p = absurd (finite-square nan (finite-left (nan ⊗ nan) (y ⊗ y) (finite-root (nan ⊗ nan ⊕ y ⊗ y) f)))
length-again (inf s) y f p = absurd (finite-square (inf s) (finite-left (inf s ⊗ inf s) (y ⊗ y) (finite-root (inf s ⊗ inf s ⊕ y ⊗ y) f)))
length-again (fin s m e) nan f p = absurd (finite-square nan (finite-right (fin s m e ⊗ fin s m e) (nan ⊗ nan) (finite-root (fin s m e ⊗ fin s m e ⊕ nan ⊗ nan) f)))
length-again (fin s m e) (inf t) f p = absurd (finite-square (inf t) (finite-right (fin s m e ⊗ fin s m e) (inf t ⊗ inf t) (finite-root (fin s m e ⊗ fin s m e ⊕ inf t ⊗ inf t) f)))
length-again (fin s m e) (fin t n d) f p = again s m e t n d f p

-- the tests of the definitions, from and to those above
pub finite-of : (x : Float) → Num.finite x ≡ true → T (finite x)
finite-of nan h = true≢false (sym h)
finite-of (inf s) h = true≢false (sym h)
finite-of (fin s m e) h = tt

pub over_zero : (x : Float) → T (positive x) → (Num.finite x && lt zero_f x) ≡ true
unfolding lt of_bits
over_zero nan p = absurd p
over_zero (inf s) p = absurd p
over_zero (fin true m e) p = absurd p
over_zero (fin false m e) p = simp (zero-mul, lt-ltb 0 (m * up e * 1) (mul-pos (mul-pos (ltb→lt 0 m p) (up_pos e)) (lit< tt)))
