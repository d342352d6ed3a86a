-- For every number above zero there are an m and a j in range, and the whole number nearest to the root of m * 2 ^ 52. Assumes nothing.
use mathlib.Core.Path.{◌≡◌, refl, sym, ap, ◌∙◌, subst}
use mathlib.Core.Bool.{Bool, true, false, not}
use Prim.Native.Nat.{ℕ, zero, suc, ◌+◌, ◌-◌, ◌*◌, ◌^◌, ◌≤◌, ◌<◌}
use native.Mathlib.Nat.{le_refl, le_trans, le_of_eq, lt_of_le_of_lt, mul-one, mul-le-mul, mul_assoc, mul_comm, pow-suc, lt_of_not-le, not-le_of_lt}
use native.Mathlib.Omega.{arith}
use lib.Dec.{T, leb, leb→le, nleb→lt}
use Rattle.ieee.specs.Root.{isqrt}
use Rattle.ieee.specs.Near.{Near, Range, Moved}
use Rattle.ieee.proofs.Squares.{sq_lt}
use Rattle.ieee.proofs.Isqrt.{Root, isqrt-root}
use Rattle.ieee.proofs.Steps.{settled, quarter}

-- ---- the nearest whole number
near-at : (m s : ℕ) → Range m → Root (m * 2 ^ 52) s → (q : ℕ) × Near m q
near-at m s r h = go (leb (m * 2 ^ 52) (s * s + s)) (leb→le (m * 2 ^ 52) (s * s + s)) (nleb→lt (m * 2 ^ 52) (s * s + s))
  where
    s-lt : s < 2 ^ 53
    s-lt = sq_lt (lt_of_le_of_lt h.0 (bound r))
      where
        bound : Range m → m * 2 ^ 52 < 2 ^ 53 * 2 ^ 53
        bound g = let t = g.to in omega arith

    s-pos : 0 < s
    s-pos = sq_lt {a = 0} (one r h.1)
      where
        one : Range m → m * 2 ^ 52 < (s + 1) * (s + 1) → 0 < s * s
        one g k = pos s k
          where
            pos : (z : ℕ) → m * 2 ^ 52 < (z + 1) * (z + 1) → 0 < z * z
            pos zero w = let f = g.from in absurd (not-le_of_lt w (omega arith))
            pos (suc z) w = native.Mathlib.Nat.mul-pos (native.Mathlib.Nat.zero-lt-suc z) (native.Mathlib.Nat.zero-lt-suc z)

    go : (b : Bool) → (T b → m * 2 ^ 52 ≤ s * s + s) → (T (not b) → s * s + s < m * 2 ^ 52) → (q : ℕ) × Near m q
    go true a b = (s, record { small = s-lt; low = (let x = h.0 in let y = s-pos in omega arith); high = a tt })
    go false a b = (s + 1, settled m s (s + 1) refl (top s-lt) (b tt) (let x = h.1 in omega arith))
      where
        top : s < 2 ^ 53 → s + 1 < 2 ^ 53
        top l = native.Mathlib.Nat.lt_of_not-le (λ (g : 2 ^ 53 ≤ s + 1). last (eq g))
          where
            eq : 2 ^ 53 ≤ s + 1 → s ≡ 9007199254740991
            eq g = omega arith

            last : s ≡ 9007199254740991 → ⊥
            last e =
                let k : 9007199254740991 * 9007199254740991 + 9007199254740991 < m * 2 ^ 52 = subst (λ (z : ℕ). z * z + z < m * 2 ^ 52) e (b tt) in
                let t = r.to in
                omega arith

pub near-exists : (m : ℕ) → Range m → (q : ℕ) × Near m q
near-exists m r = near-at m (isqrt 53 (m * 2 ^ 52)) r (isqrt-root 53 (m * 2 ^ 52) (let t = r.to in omega arith))

-- ---- an m in range
back_at : (f m : ℕ) → 2 ^ 52 ≤ m * 4 ^ suc f → 2 ^ 52 ≤ m * 4 * 4 ^ f
back_at f m h = le_trans h (le_of_eq (ap (λ (x : ℕ). m * x) (pow-suc 4 f ∙ mul_comm (4 ^ f) 4) ∙ sym (mul_assoc m 4 (4 ^ f))))

less : (f j : ℕ) → suc f < j → f < j - 1
less f j h = omega arith

moves : (f m j : ℕ) → m ≤ 2 ^ 54 - 2 → 2 ^ 52 ≤ m * 4 ^ f → f < j → (n : ℕ) × (k : ℕ) × Moved m j n k
moves zero m j top reach h = (m, j, record { same = refl; range = record { from = le_trans reach (le_of_eq (mul-one m)); to = top }; pos = h; less = le_refl j })
moves (suc f) m j top reach h = go (leb (2 ^ 52) m) (leb→le (2 ^ 52) m) (nleb→lt (2 ^ 52) m) (λ (t : m * 4 ≤ 2 ^ 54 - 2). moves f (m * 4) (j - 1) t (back_at f m reach) (less f j h))
  where
    go : (b : Bool) → (T b → 2 ^ 52 ≤ m) → (T (not b) → m < 2 ^ 52) → (m * 4 ≤ 2 ^ 54 - 2 → (n : ℕ) × (k : ℕ) × Moved (m * 4) (j - 1) n k) → (n : ℕ) × (k : ℕ) × Moved m j n k
    go true a b ih = (m, j, record { same = refl; range = record { from = a tt; to = top }; pos = (omega arith); less = le_refl j })
    go false a b ih =
        let g : m < 2 ^ 52 = b tt in
        let r = ih (omega arith) in
        let v = r.2 in
        (r.0, r.1, record { same = v.same ∙ quarter m j (omega arith); range = v.range; pos = v.pos; less = (let l = v.less in omega arith) })

pub moved-exists : (m j : ℕ) → 0 < m → m ≤ 2 ^ 54 - 2 → 511 ≤ j → (n : ℕ) × (k : ℕ) × Moved m j n k
moved-exists m j p top h = moves 26 m j top (mul-le-mul {n₁ = 1} {m₁ = 2 ^ 52} p (le_refl (2 ^ 52))) (omega arith)
