-- The laws of the total order: it is total (`total`), transitive (`transitive`) and antisymmetric, so that two doubles that rank equal are one datum, bit for bit
-- (`antisymmetric`); it follows `<` (`smaller_first`), and a NaN stands last (`nan_last`). Assumes nothing.
use mathlib.Core.Path.{◌≡◌, refl, sym, ap, ◌∙◌, subst}
use mathlib.Core.Bool.{Bool, true, false, not, ◌&&◌, ◌||◌, beq}
use mathlib.Core.Logic.{◌⊎◌, inl, inr}
use Prim.Native.Nat.{ℕ, zero, suc, ◌+◌, ◌-◌, ◌*◌, ◌/◌, ◌^◌, ◌<◌}
use native.Mathlib.Nat.{mul-pos, zero-mul, lt_irrefl, zero-lt-suc, mul_right_comm}
use lib.IntN.{ℤ}
use lib.Dec.{T, eqb, eqb→eq, not_T}
use lib.Ieee.{Float, nan, inf, fin, binary64, up, down, low, prec, size, top, hid, lt, eq, is_nan, fits, of_bits, to_bits}
use lib.Ieee.Fits.{up_pos, down_pos, and_l, and_r, and_i}
use lib.Ieee.Bits.{of_bits-to_bits}
use lib.Ieee.Nearest.{div_same}
use Rattle.laws.specs.Floats.{Numeric}
use Rattle.laws.proofs.Choice.{decided, clash, is_true, is_false, or_cases, or_l, or_r}
use Rattle.laws.proofs.Order.{lt_trans, lt_eq, eq-lt, eq_trans, eq-sym, lt_asym, lt_not_eq, lt_left, trichotomy}
use Rattle.ieee.specs.TotalOrder.{is_zero, total_order, total_of}
use Rattle.std.specs.declared.cmp.Ordering.TheVariants.{Less}

-- ---- the zeros
one-sign : (x : Float) → T (is_zero true x) → T (is_zero false x) → ⊥
one-sign nan h k = h
one-sign (inf s) h k = h
one-sign (fin true zero e) h k = k
one-sign (fin false zero e) h k = h
one-sign (fin s (suc m) e) h k = h

no_size : (n : ℕ) (d e : ℤ) → suc n * up d * down e ≡ 0 → ⊥
no_size n d e h = lt_irrefl 0 (subst (λ (z : ℕ). 0 < z) h (mul-pos (mul-pos (zero-lt-suc n) (up_pos d)) (down_pos e)))

-- what equals a zero is one
zero_beside : (e : ℤ) (t : Bool) (n : ℕ) (d : ℤ) → 0 * up e * down d ≡ n * up d * down e → T (is_zero true (fin t n d)) ⊎ T (is_zero false (fin t n d))
zero_beside e true zero d h = inl tt
zero_beside e false zero d h = inr tt
zero_beside e t (suc n) d h = absurd (no_size n d e (sym h ∙ simp zero-mul))

eq-zero : (s : Bool) (x y : Float) → T (is_zero s x) → T (eq x y) → T (is_zero true y) ⊎ T (is_zero false y)
unfolding eq
eq-zero true nan y h k = absurd h
eq-zero false nan y h k = absurd h
eq-zero true (inf t) y h k = absurd h
eq-zero false (inf t) y h k = absurd h
eq-zero true (fin t (suc m) e) y h k = absurd h
eq-zero false (fin t (suc m) e) y h k = absurd h
eq-zero s (fin t zero e) nan h k = absurd k
eq-zero s (fin t zero e) (inf u) h k = absurd k
eq-zero s (fin t zero e) (fin u n d) h k = zero_beside e u n d (eqb→eq (0 * up e * down d) (n * up d * down e) (and_l (eqb (0 * up e * down d) (n * up d * down e)) (beq t u || eqb (0 * up e * down d) 0) k))

-- ---- the order, taken apart and put together. Where x and y compare equal, x is not +0 with y -0
abbrev Fair : Float → Float → Type 0
Fair x y = T (not (is_zero false x && is_zero true y))

pub total-nan : (x : Float) → T (total_order x nan)
unfolding total_order is_nan
total-nan x = tt

total-of-lt : (x y : Float) → T (lt x y) → T (total_order x y)
unfolding total_order
total-of-lt x y h = or_r (is_nan y) _ (or_l (lt x y) (eq x y && not (is_zero false x && is_zero true y)) h)

total-of-eq : (x y : Float) → T (eq x y) → Fair x y → T (total_order x y)
unfolding total_order
total-of-eq x y h f = or_r (is_nan y) _ (or_r (lt x y) _ (and_i (eq x y) (not (is_zero false x && is_zero true y)) h f))

record Equal-fair (x y : Float) : Type 0 where
  level : T (eq x y)
  fair : Fair x y

total-cases : (x y : Float) → T (total_order x y) → T (is_nan y) ⊎ (T (lt x y) ⊎ Equal-fair x y)
unfolding total_order
total-cases x y h = elim (or_cases (is_nan y) _ h) [
  | inl n ↦ inl n
  | inr r ↦ elim (or_cases (lt x y) _ r) [
    | inl l ↦ inr (inl l)
    | inr e ↦ inr (inr (record { level = and_l (eq x y) _ e; fair = and_r (eq x y) _ e }))
  ]
]

-- ---- total
fair_back : (x y : Float) → T (is_zero false x && is_zero true y) → Fair y x
fair_back x y h = not_T (is_zero false y && is_zero true x) (λ k. one-sign x (and_r (is_zero false y) (is_zero true x) k) (and_l (is_zero false x) (is_zero true y) h))

of-equal : (x y : Float) → T (eq x y) → T (total_order x y) ⊎ T (total_order y x)
of-equal x y h = elim (decided (is_zero false x && is_zero true y)) [
  | inl u ↦ inr (total-of-eq y x (eq-sym x y h) (fair_back x y u))
  | inr f ↦ inl (total-of-eq x y h f)
]

of-numbers : (x y : Float) → Numeric x → Numeric y → T (total_order x y) ⊎ T (total_order y x)
of-numbers x y nx ny = elim (trichotomy x y nx ny) [
  | inl l ↦ inl (total-of-lt x y l)
  | inr r ↦ elim r [ inl e ↦ of-equal x y e | inr g ↦ inr (total-of-lt y x g) ]
]

nan_first : (x y : Float) → T (is_nan y) → T (total_order x y)
unfolding total_order
nan_first x y h = or_l (is_nan y) _ h

pub total : (x y : Float) → T (total_order x y) ⊎ T (total_order y x)
total x y = elim (decided (is_nan y)) [
  | inl n ↦ inl (nan_first x y n)
  | inr ny ↦ elim (decided (is_nan x)) [ inl n ↦ inr (nan_first y x n) | inr nx ↦ of-numbers x y nx ny ]
]

-- ---- transitive
fair_through : (x y z : Float) → Equal-fair x y → Equal-fair y z → Fair x z
fair_through x y z p q = not_T (is_zero false x && is_zero true z) (λ h.
    elim (eq-zero false x y (and_l (is_zero false x) (is_zero true z) h) p.level) [
      | inl m ↦ clash (is_zero false x && is_zero true y) p.fair (and_i (is_zero false x) (is_zero true y) (and_l (is_zero false x) (is_zero true z) h) m)
      | inr l ↦ clash (is_zero false y && is_zero true z) q.fair (and_i (is_zero false y) (is_zero true z) l (and_r (is_zero false x) (is_zero true z) h))
    ])

nan_stays : (y z : Float) → T (is_nan y) → T (total_order y z) → T (is_nan z)
unfolding total_order is_nan lt eq
nan_stays nan z h k = elim (or_cases (is_nan z) false k) [ inl n ↦ n | inr f ↦ absurd f ]
nan_stays (inf s) z h k = absurd h
nan_stays (fin s m e) z h k = absurd h

pub transitive : (x y z : Float) → T (total_order x y) → T (total_order y z) → T (total_order x z)
transitive x y z h k = elim (total-cases x y h) [
  | inl n ↦ nan_first x z (nan_stays y z n k)
  | inr p ↦ elim (total-cases y z k) [
    | inl n ↦ nan_first x z n
    | inr q ↦ elim p [
      | inl l ↦ elim q [ inl g ↦ total-of-lt x z (lt_trans x y z l g) | inr e ↦ total-of-lt x z (lt_eq x y z l e.level) ]
      | inr e ↦ elim q [ inl g ↦ total-of-lt x z (eq-lt x y z e.level g) | inr f ↦ total-of-eq x z (eq_trans x y z e.level f.level) (fair_through x y z e f) ]
    ]
  ]
]

-- ---- antisymmetric: two doubles of one sign and one size are one datum
same_size : (m : ℕ) (e : ℤ) (n : ℕ) (d : ℤ) → m * up e * down d ≡ n * up d * down e → m * up e * 2 ^ low binary64 / down e ≡ n * up d * 2 ^ low binary64 / down d
same_size m e n d h = div_same (m * up e * 2 ^ low binary64) (down e) (n * up d * 2 ^ low binary64) (down d) (down_pos e) (down_pos d) (moved (m * up e) (down d) (n * up d) (down e) (2 ^ low binary64) h)
  where
    moved : (a b c d k : ℕ) → a * b ≡ c * d → a * k * b ≡ c * k * d
    moved a b c d k h = mul_right_comm a k b ∙ ap (λ (z : ℕ). z * k) h ∙ mul_right_comm c d k

same_bits : (s : Bool) (m : ℕ) (e : ℤ) (n : ℕ) (d : ℤ) → m * up e * down d ≡ n * up d * down e → to_bits binary64 (fin s m e) ≡ to_bits binary64 (fin s n d)
unfolding to_bits
same_bits s m e n d h = ap (λ (n : ℕ). let k = size n - prec binary64 in mathlib.Core.Bool.cond s (top binary64) 0 + k * hid binary64 + n / 2 ^ k) (same_size m e n d h)

pub same-datum : (s : Bool) (m : ℕ) (e : ℤ) (n : ℕ) (d : ℤ) → T (fits binary64 (fin s m e)) → T (fits binary64 (fin s n d)) → m * up e * down d ≡ n * up d * down e → fin s m e ≡ fin s n d
same-datum s m e n d p q h = sym (of_bits-to_bits binary64 (fin s m e) p) ∙ ap (of_bits binary64) (same_bits s m e n d h) ∙ of_bits-to_bits binary64 (fin s n d) q

-- of unlike signs only the zeros are equal
unlike-zero : (m : ℕ) (e : ℤ) (n : ℕ) (d : ℤ) → m * up e * down d ≡ n * up d * down e → m * up e * down d ≡ 0 → (m ≡ 0) × (n ≡ 0)
unlike-zero zero e zero d h k = (refl, refl)
unlike-zero zero e (suc n) d h k = absurd (no_size n d e (sym h ∙ k))
unlike-zero (suc m) e n d h k = absurd (no_size m e d k)

unlike : (m : ℕ) (e : ℤ) (n : ℕ) (d : ℤ) → T (eq (fin true m e) (fin false n d)) → T (is_zero false (fin false n d) && is_zero true (fin true m e))
unfolding eq
unlike m e n d h =
    let a = eqb→eq (m * up e * down d) (n * up d * down e) (and_l (eqb (m * up e * down d) (n * up d * down e)) _ h) in
    let b = eqb→eq (m * up e * down d) 0 (and_r (eqb (m * up e * down d) (n * up d * down e)) _ h) in
    zeros m n (unlike-zero m e n d a b)
  where
    zeros : (p q : ℕ) → (p ≡ 0) × (q ≡ 0) → T (is_zero false (fin false q d) && is_zero true (fin true p e))
    zeros zero zero z = tt
    zeros zero (suc q) z = absurd (omega (native.Mathlib.Omega.arith, z.1))
    zeros (suc p) q z = absurd (omega (native.Mathlib.Omega.arith, z.0))

pub equal_datum : (x y : Float) → T (fits binary64 x) → T (fits binary64 y) → T (eq x y) → Fair x y → Fair y x → x ≡ y
unfolding eq
equal_datum nan y p q h f g = absurd h
equal_datum (inf s) nan p q h f g = absurd h
equal_datum (inf true) (inf true) p q h f g = refl
equal_datum (inf false) (inf false) p q h f g = refl
equal_datum (inf s) (fin t n d) p q h f g = absurd h
equal_datum (fin s m e) nan p q h f g = absurd h
equal_datum (fin s m e) (inf t) p q h f g = absurd h
equal_datum (fin true m e) (fin true n d) p q h f g = same-datum true m e n d p q (eqb→eq (m * up e * down d) (n * up d * down e) (and_l (eqb (m * up e * down d) (n * up d * down e)) true h))
equal_datum (fin false m e) (fin false n d) p q h f g = same-datum false m e n d p q (eqb→eq (m * up e * down d) (n * up d * down e) (and_l (eqb (m * up e * down d) (n * up d * down e)) true h))
equal_datum (fin true m e) (fin false n d) p q h f g = absurd (clash (is_zero false (fin false n d) && is_zero true (fin true m e)) g (unlike m e n d h))
equal_datum (fin false m e) (fin true n d) p q h f g = absurd (clash (is_zero false (fin false m e) && is_zero true (fin true n d)) f (unlike n d m e (eq-sym (fin false m e) (fin true n d) h)))
equal_datum (inf false) (inf true) p q h f g = elim h [ ]
equal_datum (inf true) (inf false) p q h f g = elim h [ ]

nan_is : (x : Float) → T (is_nan x) → x ≡ nan
unfolding is_nan
nan_is nan h = refl
nan_is (inf s) h = absurd h
nan_is (fin s m e) h = absurd h

pub antisymmetric : (x y : Float) → T (fits binary64 x) → T (fits binary64 y) → T (total_order x y) → T (total_order y x) → x ≡ y
antisymmetric x y p q h k = elim (total-cases x y h) [
  | inl n ↦ nan_is x (nan_stays y x n k) ∙ sym (nan_is y n)
  | inr r ↦ elim (total-cases y x k) [
    | inl n ↦ nan_is x n ∙ sym (nan_is y (nan_stays x y n h))
    | inr t ↦ elim r [
      | inl l ↦ elim t [ inl g ↦ absurd (lt_asym x y l g) | inr e ↦ absurd (lt_not_eq x y l (eq-sym y x e.level)) ]
      | inr e ↦ elim t [ inl g ↦ absurd (lt_not_eq y x g (eq-sym x y e.level)) | inr f ↦ equal_datum x y p q e.level e.fair f.fair ]
    ]
  ]
]

-- ---- what `total_cmp` answers
not_after : (x y : Float) → T (lt x y) → total_order y x ≡ false
not_after x y l = is_false (total_order y x) (λ h. elim (total-cases y x h) [
  | inl n ↦ clash (is_nan x) (lt_left x y l) n
  | inr r ↦ elim r [ inl g ↦ lt_asym x y l g | inr e ↦ lt_not_eq x y l (eq-sym y x e.level) ]
])

pub smaller_first : (x y : Float) → T (lt x y) → total_of x y ≡ Less
smaller_first x y l = rw (is_true (total_order x y) (total-of-lt x y l), not_after x y l)

is-a-nan : T (is_nan nan)
unfolding is_nan
is-a-nan = tt

pub nan_last : (x : Float) → Numeric x → total_of x nan ≡ Less
nan_last x nx = rw (is_true (total_order x nan) (total-nan x), is_false (total_order nan x) (λ h. clash (is_nan x) nx (nan_stays nan x is-a-nan h)))

pub zeros-apart : total_of (fin true 0 (lib.IntN.pos 0)) (fin false 0 (lib.IntN.pos 0)) ≡ Less
unfolding total_order lt eq is_nan
zeros-apart = refl
