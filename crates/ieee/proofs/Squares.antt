-- Squares of whole numbers, and their order. Assumes nothing.
use mathlib.Core.Path.{◌≡◌}
use Prim.Native.Nat.{ℕ, suc, ◌+◌, ◌*◌, ◌≤◌, ◌<◌}
use native.Mathlib.Nat.{lt_of_le_of_lt, lt_of_not-le, not-le_of_lt, le_of_suc-le-suc, mul-le-mul, mul-add, add-mul, mul-suc, suc-mul, mul_comm, mul_assoc, mul_left_comm, add_assoc, add_comm, add_left_comm, mul-mul-mul_comm}
use native.Mathlib.Omega.{arith}

pub sq_lt : {a b : ℕ} → a * a < b * b → a < b
sq_lt {a} {b} h = lt_of_not-le (λ (g : b ≤ a). not-le_of_lt h (mul-le-mul g g))

pub sq_mono : {a b : ℕ} → a ≤ b → a * a ≤ b * b
sq_mono h = mul-le-mul h h

next-square : (a : ℕ) → a * a < suc a * suc a
next-square a = simp (suc-mul, mul-suc) (omega arith)

pub sq_strict : {a b : ℕ} → a < b → a * a < b * b
sq_strict {a} {b} h = lt_of_not-le (λ (g : b * b ≤ a * a). not-le_of_lt h (le_of_suc-le-suc (sq_lt (lt_of_le_of_lt g (next-square a)))))

pub sq_at : (a h : ℕ) → (a * h) * (a * h) ≡ a * a * (h * h)
sq_at a h = mul-mul-mul_comm a h a h

pub sq_suc : (h : ℕ) → (h + 1) * (h + 1) ≡ h * h + 2 * h + 1
sq_suc h = simp (mul-add, add-mul, mul_comm, add_assoc, add_comm, add_left_comm) (omega arith)

pub sq_even : (h : ℕ) → (2 * h) * (2 * h) ≡ 4 * (h * h)
sq_even h = simp (mul_assoc, mul_left_comm) (omega arith)

pub sq_odd : (h : ℕ) → (2 * h + 1) * (2 * h + 1) ≡ 4 * (h * h) + 4 * h + 1
sq_odd h = simp (mul-add, add-mul, mul_comm, mul_assoc, mul_left_comm, add_assoc, add_comm, add_left_comm) (omega arith)

pub sq_double : (h : ℕ) → (h + h) * (h + h) ≡ 4 * (h * h)
sq_double h = simp (mul-add, add-mul, add_assoc) (omega arith)
