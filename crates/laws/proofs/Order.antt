-- The order of floats, NaN apart: transitive, total, and equality is compatible. Any three values have ranks, natural numbers in the same order, so that each law is one of numbers.
-- Assumes nothing.
use Prim.Native.Nat.{ℕ, suc, ◌+◌, ◌-◌, ◌*◌, ◌<◌, ◌≤◌}
use native.Mathlib.Nat.{zero-mul, mul-pos, lt_of_mul-lt-mul_right, mul-lt-mul_of_pos_right, eq_of_mul-eq-mul_right}
use native.Mathlib.Omega.{arith}
use mathlib.Core.Path.{◌≡◌, refl, sym, ap, subst, ◌∙◌}
use mathlib.Core.Logic.{◌⊎◌, inl, inr}
use mathlib.Core.Bool.{Bool, true, false, not, ◌&&◌}
use lib.Dec.{T, ltb, eqb, ltb→lt, lt→ltb, eqb→eq}
use lib.Ieee.{Float, nan, inf, fin, up, down, lt, eq, below, level, is_nan}
use lib.Ieee.Fits.{and_l, and_r, and_i, eq→eqb}
use lib.Ieee.Positive.{num, den, den_pos, first_pos}
use Rattle.laws.specs.Floats.{Numeric}
use Rattle.laws.proofs.Choice.{same_test}

-- ---- a / b against A / B, where a is A times D / K and b is B times D / K
module _ {K D : ℕ} (p : 0 < K) (q : 0 < D) where
  lt_up : {a b A B : ℕ} → a * K ≡ A * D → b * K ≡ B * D → a < b → A < B
  lt_up {a} {b} {A} {B} ea eb h = lt_of_mul-lt-mul_right D (omega (arith, ea, eb, mul-lt-mul_of_pos_right h p))

  eq-up : {a b A B : ℕ} → a * K ≡ A * D → b * K ≡ B * D → a ≡ b → A ≡ B
  eq-up {a} {b} {A} {B} ea eb h = eq_of_mul-eq-mul_right D q A B (sym ea ∙ ap (λ (k : ℕ). k * K) h ∙ eb)

-- ---- ranks
abbrev rank : ℕ → Bool → ℕ → ℕ
rank M true A = suc M - A
rank M false A = suc M + A

abbrev rank_f : ℕ → ℕ → Float → ℕ
rank_f M c nan = 0
rank_f M c (inf true) = 0
rank_f M c (inf false) = suc (suc (M + M))
rank_f M c (fin s m e) = rank M s (m * up e * c)

module _ (K D a b A B M : ℕ) (p : 0 < K) (q : 0 < D) (ea : a * K ≡ A * D) (eb : b * K ≡ B * D) (hA : A ≤ M) (hB : B ≤ M) where
  none-a : a ≡ 0 → A ≡ 0
  none-a e = eq-up p q ea (zero-mul K ∙ sym (zero-mul D)) e

  none-b : b ≡ 0 → B ≡ 0
  none-b e = eq-up p q eb (zero-mul K ∙ sym (zero-mul D)) e

  some-a : A ≡ 0 → a ≡ 0
  some-a e = eq-up q p (sym ea) (zero-mul D ∙ sym (zero-mul K)) e

  some-b : B ≡ 0 → b ≡ 0
  some-b e = eq-up q p (sym eb) (zero-mul D ∙ sym (zero-mul K)) e

  below-is : (s t : Bool) → below s a t b ≡ ltb (rank M s A) (rank M t B)
  below-is false false = same_test (ltb a b) (ltb (suc M + A) (suc M + B))
      (λ h. omega (arith, lt→ltb, lt_up p q ea eb (ltb→lt a b h)))
      (λ h. lt→ltb a b (lt_up q p (sym ea) (sym eb) (omega (arith, ltb→lt))))
  below-is false true = same_test false (ltb (suc M + A) (suc M - B)) (λ h. absurd h) (λ h. omega (arith, ltb→lt))
  below-is true false = same_test (ltb 0 (a + b)) (ltb (suc M - A) (suc M + B))
      (λ h. lt→ltb (suc M - A) (suc M + B) (pos-up (ltb→lt 0 (a + b) h)))
      (λ h. lt→ltb 0 (a + b) (pos-down (ltb→lt (suc M - A) (suc M + B) h)))
    where
      pos-up : 0 < a + b → suc M - A < suc M + B
      pos-up h = elim (native.Mathlib.Nat.eq-zero-or-pos A) [
        | inl za ↦ elim (native.Mathlib.Nat.eq-zero-or-pos B) [ inl zb ↦ omega (arith, some-a za, some-b zb) | inr pb ↦ omega arith ]
        | inr pa ↦ omega arith
      ]

      pos-down : suc M - A < suc M + B → 0 < a + b
      pos-down h = elim (native.Mathlib.Nat.eq-zero-or-pos a) [
        | inl za ↦ elim (native.Mathlib.Nat.eq-zero-or-pos b) [ inl zb ↦ omega (arith, none-a za, none-b zb) | inr pb ↦ omega arith ]
        | inr pa ↦ omega arith
      ]
  below-is true true = same_test (ltb b a) (ltb (suc M - A) (suc M - B))
      (λ h. omega (arith, lt→ltb, lt_up p q eb ea (ltb→lt b a h)))
      (λ h. lt→ltb b a (lt_up q p (sym eb) (sym ea) (omega (arith, ltb→lt))))

  level_is : (s t : Bool) → level s a t b ≡ eqb (rank M s A) (rank M t B)
  level_is false false = same_test (eqb a b && true) (eqb (suc M + A) (suc M + B))
      (λ h. omega (arith, eq→eqb, eq-up p q ea eb (eqb→eq a b (and_l (eqb a b) true h))))
      (λ h. and_i (eqb a b) true (eq→eqb (eq-up q p (sym ea) (sym eb) (omega (arith, eqb→eq)))) tt)
  level_is true true = same_test (eqb a b && true) (eqb (suc M - A) (suc M - B))
      (λ h. omega (arith, eq→eqb, eq-up p q ea eb (eqb→eq a b (and_l (eqb a b) true h))))
      (λ h. and_i (eqb a b) true (eq→eqb (eq-up q p (sym ea) (sym eb) (omega (arith, eqb→eq)))) tt)
  level_is false true = same_test (eqb a b && eqb a 0) (eqb (suc M + A) (suc M - B))
      (λ h. omega (arith, eq→eqb, none-a (eqb→eq a 0 (and_r (eqb a b) (eqb a 0) h)), none-b (sym (eqb→eq a b (and_l (eqb a b) (eqb a 0) h)) ∙ eqb→eq a 0 (and_r (eqb a b) (eqb a 0) h))))
      (λ h. and_i (eqb a b) (eqb a 0) (eq→eqb (some-a (omega (arith, eqb→eq)) ∙ sym (some-b (omega (arith, eqb→eq))))) (eq→eqb (some-a (omega (arith, eqb→eq)))))
  level_is true false = same_test (eqb a b && eqb a 0) (eqb (suc M - A) (suc M + B))
      (λ h. omega (arith, eq→eqb, none-a (eqb→eq a 0 (and_r (eqb a b) (eqb a 0) h)), none-b (sym (eqb→eq a b (and_l (eqb a b) (eqb a 0) h)) ∙ eqb→eq a 0 (and_r (eqb a b) (eqb a 0) h))))
      (λ h. and_i (eqb a b) (eqb a 0) (eq→eqb (some-a (omega (arith, eqb→eq)) ∙ sym (some-b (omega (arith, eqb→eq))))) (eq→eqb (some-a (omega (arith, eqb→eq)))))

-- ---- two values at one scale: c and d take their denominators to D, and M is no less than either size
abbrev At : ℕ → ℕ → ℕ → Float → Type 0
At D M c x = (c * den x ≡ D) × (num x * c ≤ M)

crossed : (n p c d q D : ℕ) → d * q ≡ D → n * q * (c * d) ≡ n * c * D
crossed n p c d q D e = rw (← e) (omega arith)

module _ (D M : ℕ) (P : 0 < D) where
  cof : (c : ℕ) (x : Float) → c * den x ≡ D → 0 < c
  cof c x e = first_pos c (den x) (rw e P)

  lt_is : (c d : ℕ) (x y : Float) → At D M c x → At D M d y → Numeric x → Numeric y → lt x y ≡ ltb (rank_f M c x) (rank_f M d y)
  unfolding lt is_nan
  lt_is c d nan y hx hy nx ny = absurd nx
  lt_is c d (inf s) nan hx hy nx ny = absurd ny
  lt_is c d (inf true) (inf true) hx hy nx ny = refl
  lt_is c d (inf true) (inf false) hx hy nx ny = same_test true (ltb 0 (suc (suc (M + M)))) (λ h. omega (arith, lt→ltb)) (λ h. tt)
  lt_is c d (inf false) (inf true) hx hy nx ny = same_test false (ltb (suc (suc (M + M))) 0) (λ h. absurd h) (λ h. omega (arith, ltb→lt))
  lt_is c d (inf false) (inf false) hx hy nx ny = same_test false (ltb (suc (suc (M + M))) (suc (suc (M + M)))) (λ h. absurd h) (λ h. omega (arith, ltb→lt))
  lt_is c d (inf true) (fin true n f) hx hy nx ny = same_test true (ltb 0 (suc M - n * up f * d)) (λ h. omega (arith, lt→ltb)) (λ h. tt)
  lt_is c d (inf true) (fin false n f) hx hy nx ny = same_test true (ltb 0 (suc M + n * up f * d)) (λ h. omega (arith, lt→ltb)) (λ h. tt)
  lt_is c d (inf false) (fin true n f) hx hy nx ny = same_test false (ltb (suc (suc (M + M))) (suc M - n * up f * d)) (λ h. absurd h) (λ h. omega (arith, ltb→lt))
  lt_is c d (inf false) (fin false n f) hx hy nx ny = same_test false (ltb (suc (suc (M + M))) (suc M + n * up f * d)) (λ h. absurd h) (λ h. omega (arith, ltb→lt))
  lt_is c d (fin s m e) nan hx hy nx ny = absurd ny
  lt_is c d (fin true m e) (inf true) hx hy nx ny = same_test false (ltb (suc M - m * up e * c) 0) (λ h. absurd h) (λ h. omega (arith, ltb→lt))
  lt_is c d (fin false m e) (inf true) hx hy nx ny = same_test false (ltb (suc M + m * up e * c) 0) (λ h. absurd h) (λ h. omega (arith, ltb→lt))
  lt_is c d (fin true m e) (inf false) hx hy nx ny = same_test true (ltb (suc M - m * up e * c) (suc (suc (M + M)))) (λ h. omega (arith, lt→ltb)) (λ h. tt)
  lt_is c d (fin false m e) (inf false) hx hy nx ny = same_test true (ltb (suc M + m * up e * c) (suc (suc (M + M)))) (λ h. omega (arith, lt→ltb)) (λ h. tt)
  lt_is c d (fin s m e) (fin t n f) hx hy nx ny = fin_lt
    where
      fin_lt : below s (m * up e * down f) t (n * up f * down e) ≡ ltb (rank M s (m * up e * c)) (rank M t (n * up f * d))
      fin_lt = below-is (c * d) D (m * up e * down f) (n * up f * down e) (m * up e * c) (n * up f * d) M (mul-pos (cof c (fin s m e) hx.0) (cof d (fin t n f) hy.0)) P
          (crossed (m * up e) (down e) c d (down f) D hy.0) (omega (arith, crossed (n * up f) (down f) d c (down e) D hx.0)) hx.1 hy.1 s t

  eq_is : (c d : ℕ) (x y : Float) → At D M c x → At D M d y → Numeric x → Numeric y → eq x y ≡ eqb (rank_f M c x) (rank_f M d y)
  unfolding eq is_nan
  eq_is c d nan y hx hy nx ny = absurd nx
  eq_is c d (inf s) nan hx hy nx ny = absurd ny
  eq_is c d (inf true) (inf true) hx hy nx ny = refl
  eq_is c d (inf true) (inf false) hx hy nx ny = same_test false (eqb 0 (suc (suc (M + M)))) (λ h. absurd h) (λ h. omega (arith, eqb→eq))
  eq_is c d (inf false) (inf true) hx hy nx ny = same_test false (eqb (suc (suc (M + M))) 0) (λ h. absurd h) (λ h. omega (arith, eqb→eq))
  eq_is c d (inf false) (inf false) hx hy nx ny = same_test true (eqb (suc (suc (M + M))) (suc (suc (M + M)))) (λ h. omega (arith, eq→eqb)) (λ h. tt)
  eq_is c d (inf true) (fin true n f) hx hy nx ny = same_test false (eqb 0 (suc M - n * up f * d)) (λ h. absurd h) (λ h. omega (arith, eqb→eq))
  eq_is c d (inf true) (fin false n f) hx hy nx ny = same_test false (eqb 0 (suc M + n * up f * d)) (λ h. absurd h) (λ h. omega (arith, eqb→eq))
  eq_is c d (inf false) (fin true n f) hx hy nx ny = same_test false (eqb (suc (suc (M + M))) (suc M - n * up f * d)) (λ h. absurd h) (λ h. omega (arith, eqb→eq))
  eq_is c d (inf false) (fin false n f) hx hy nx ny = same_test false (eqb (suc (suc (M + M))) (suc M + n * up f * d)) (λ h. absurd h) (λ h. omega (arith, eqb→eq))
  eq_is c d (fin s m e) nan hx hy nx ny = absurd ny
  eq_is c d (fin true m e) (inf true) hx hy nx ny = same_test false (eqb (suc M - m * up e * c) 0) (λ h. absurd h) (λ h. omega (arith, eqb→eq))
  eq_is c d (fin false m e) (inf true) hx hy nx ny = same_test false (eqb (suc M + m * up e * c) 0) (λ h. absurd h) (λ h. omega (arith, eqb→eq))
  eq_is c d (fin true m e) (inf false) hx hy nx ny = same_test false (eqb (suc M - m * up e * c) (suc (suc (M + M)))) (λ h. absurd h) (λ h. omega (arith, eqb→eq))
  eq_is c d (fin false m e) (inf false) hx hy nx ny = same_test false (eqb (suc M + m * up e * c) (suc (suc (M + M)))) (λ h. absurd h) (λ h. omega (arith, eqb→eq))
  eq_is c d (fin s m e) (fin t n f) hx hy nx ny = fin_eq
    where
      fin_eq : level s (m * up e * down f) t (n * up f * down e) ≡ eqb (rank M s (m * up e * c)) (rank M t (n * up f * d))
      fin_eq = level_is (c * d) D (m * up e * down f) (n * up f * down e) (m * up e * c) (n * up f * d) M (mul-pos (cof c (fin s m e) hx.0) (cof d (fin t n f) hy.0)) P
          (crossed (m * up e) (down e) c d (down f) D hy.0) (omega (arith, crossed (n * up f) (down f) d c (down e) D hx.0)) hx.1 hy.1 s t

-- ---- any three values have ranks
record Ranks (x y z : Float) : Type 0 where
  X : ℕ
  Y : ℕ
  Z : ℕ
  lxy : lt x y ≡ ltb X Y
  lyx : lt y x ≡ ltb Y X
  lyz : lt y z ≡ ltb Y Z
  lxz : lt x z ≡ ltb X Z
  exy : eq x y ≡ eqb X Y
  eyz : eq y z ≡ eqb Y Z
  exz : eq x z ≡ eqb X Z
  eyx : eq y x ≡ eqb Y X

ranks : (x y z : Float) → Numeric x → Numeric y → Numeric z → Ranks x y z
ranks x y z nx ny nz =
    let c : ℕ = den y * den z in
    let d : ℕ = den x * den z in
    let e : ℕ = den x * den y in
    let D : ℕ = den x * den y * den z in
    let M : ℕ = num x * c + num y * d + num z * e in
    let P : 0 < D = mul-pos (mul-pos (den_pos x) (den_pos y)) (den_pos z) in
    let hx : At D M c x = (omega arith, omega arith) in
    let hy : At D M d y = (omega arith, omega arith) in
    let hz : At D M e z = (omega arith, omega arith) in
    record {
      X = rank_f M c x;
      Y = rank_f M d y;
      Z = rank_f M e z;
      lxy = lt_is D M P c d x y hx hy nx ny;
      lyx = lt_is D M P d c y x hy hx ny nx;
      lyz = lt_is D M P d e y z hy hz ny nz;
      lxz = lt_is D M P c e x z hx hz nx nz;
      exy = eq_is D M P c d x y hx hy nx ny;
      eyz = eq_is D M P d e y z hy hz ny nz;
      exz = eq_is D M P c e x z hx hz nx nz;
      eyx = eq_is D M P d c y x hy hx ny nx;
    }

-- ---- what is compared is a number
pub lt_left : (x y : Float) → T (lt x y) → Numeric x
unfolding lt is_nan
lt_left nan y h = h
lt_left (inf s) y h = tt
lt_left (fin s m e) y h = tt

pub lt_right : (x y : Float) → T (lt x y) → Numeric y
unfolding lt is_nan
lt_right nan y h = absurd h
lt_right (inf s) nan h = h
lt_right (inf s) (inf t) h = tt
lt_right (inf s) (fin t n d) h = tt
lt_right (fin s m e) nan h = h
lt_right (fin s m e) (inf t) h = tt
lt_right (fin s m e) (fin t n d) h = tt

pub eq-left : (x y : Float) → T (eq x y) → Numeric x
unfolding eq is_nan
eq-left nan y h = h
eq-left (inf s) y h = tt
eq-left (fin s m e) y h = tt

pub eq-right : (x y : Float) → T (eq x y) → Numeric y
unfolding eq is_nan
eq-right nan y h = absurd h
eq-right (inf s) nan h = h
eq-right (inf s) (inf t) h = tt
eq-right (inf s) (fin t n d) h = tt
eq-right (fin s m e) nan h = h
eq-right (fin s m e) (inf t) h = tt
eq-right (fin s m e) (fin t n d) h = tt

-- ---- the laws
by_lt : {a : Bool} (m n : ℕ) → a ≡ ltb m n → T a → m < n
by_lt m n e h = ltb→lt m n (subst T e h)

to-lt : {a : Bool} (m n : ℕ) → a ≡ ltb m n → m < n → T a
to-lt m n e h = subst T (sym e) (lt→ltb m n h)

by_eq : {a : Bool} (m n : ℕ) → a ≡ eqb m n → T a → m ≡ n
by_eq m n e h = eqb→eq m n (subst T e h)

to-eq : {a : Bool} (m n : ℕ) → a ≡ eqb m n → m ≡ n → T a
to-eq m n e h = subst T (sym e) (eq→eqb h)

pub lt_trans : (x y z : Float) → T (lt x y) → T (lt y z) → T (lt x z)
lt_trans x y z h k =
    let r = ranks x y z (lt_left x y h) (lt_right x y h) (lt_right y z k) in
    to-lt r.X r.Z r.lxz (omega (arith, by_lt r.X r.Y r.lxy h, by_lt r.Y r.Z r.lyz k))

pub lt_eq : (x y z : Float) → T (lt x y) → T (eq y z) → T (lt x z)
lt_eq x y z h k =
    let r = ranks x y z (lt_left x y h) (lt_right x y h) (eq-right y z k) in
    to-lt r.X r.Z r.lxz (omega (arith, by_lt r.X r.Y r.lxy h, by_eq r.Y r.Z r.eyz k))

pub eq-lt : (x y z : Float) → T (eq x y) → T (lt y z) → T (lt x z)
eq-lt x y z h k =
    let r = ranks x y z (eq-left x y h) (eq-right x y h) (lt_right y z k) in
    to-lt r.X r.Z r.lxz (omega (arith, by_eq r.X r.Y r.exy h, by_lt r.Y r.Z r.lyz k))

pub eq_trans : (x y z : Float) → T (eq x y) → T (eq y z) → T (eq x z)
eq_trans x y z h k =
    let r = ranks x y z (eq-left x y h) (eq-right x y h) (eq-right y z k) in
    to-eq r.X r.Z r.exz (by_eq r.X r.Y r.exy h ∙ by_eq r.Y r.Z r.eyz k)

pub eq-sym : (x y : Float) → T (eq x y) → T (eq y x)
eq-sym x y h =
    let r = ranks x y y (eq-left x y h) (eq-right x y h) (eq-right x y h) in
    to-eq r.Y r.X r.eyx (sym (by_eq r.X r.Y r.exy h))

pub lt_asym : (x y : Float) → T (lt x y) → T (lt y x) → ⊥
lt_asym x y h k =
    let r = ranks x y y (lt_left x y h) (lt_right x y h) (lt_right x y h) in
    omega (arith, by_lt r.X r.Y r.lxy h, by_lt r.Y r.X r.lyx k)

pub lt_not_eq : (x y : Float) → T (lt x y) → T (eq x y) → ⊥
lt_not_eq x y h k =
    let r = ranks x y y (lt_left x y h) (lt_right x y h) (lt_right x y h) in
    omega (arith, by_lt r.X r.Y r.lxy h, by_eq r.X r.Y r.exy k)

pub trichotomy : (x y : Float) → Numeric x → Numeric y → T (lt x y) ⊎ (T (eq x y) ⊎ T (lt y x))
trichotomy x y nx ny =
    let r = ranks x y y nx ny ny in
    elim (native.Mathlib.Decide.dec_lt r.X r.Y) [
      | yes h ↦ inl (to-lt r.X r.Y r.lxy h)
      | no h ↦ elim (native.Mathlib.Decide.dec_lt r.Y r.X) [
        | yes k ↦ inr (inr (to-lt r.Y r.X r.lyx k))
        | no k ↦ inr (inl (to-eq r.X r.Y r.exy (omega arith)))
      ]
    ]

-- eq and numeric, from the test x != x
pub numeric : (x : Float) → T (not (lib.Ieee.ne x x)) → Numeric x
unfolding lib.Ieee.ne is_nan
numeric nan h = h
numeric (inf s) h = tt
numeric (fin s m e) h = tt

pub is_number : (x : Float) → Numeric x → T (not (lib.Ieee.ne x x))
unfolding is_nan
is_number x nx = lib.Dec.not_T (lib.Ieee.ne x x) (λ t. subst Numeric (lib.Ieee.Compare.differs_from_itself x t) nx)
