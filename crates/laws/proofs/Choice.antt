-- Truth values, and a choice by a test that is known. Assumes nothing.
use mathlib.Core.Path.{◌≡◌, refl, sym, ap, subst}
use mathlib.Core.Logic.{◌⊎◌, inl, inr}
use mathlib.Core.Bool.{Bool, true, false, false≢true, not, ◌&&◌, ◌||◌, cond}
use lib.Dec.{T}

pub and_yes : {a : Bool} (b : Bool) → a ≡ true → (a && b) ≡ b
and_yes b e = ap (λ (x : Bool). x && b) e

pub and_no : {a : Bool} (b : Bool) → a ≡ false → (a && b) ≡ false
and_no b e = ap (λ (x : Bool). x && b) e

pub no_and : (a : Bool) {b : Bool} → b ≡ false → (a && b) ≡ false
no_and true e = e
no_and false e = refl

pub or_yes : {a : Bool} (b : Bool) → a ≡ true → (a || b) ≡ true
or_yes b e = ap (λ (x : Bool). x || b) e

pub or_no : {a : Bool} (b : Bool) → a ≡ false → (a || b) ≡ b
or_no b e = ap (λ (x : Bool). x || b) e

pub cond_yes : {A : Type 0} {b : Bool} (x y : A) → b ≡ true → cond b x y ≡ x
cond_yes x y e = ap (λ (t : Bool). cond t x y) e

pub cond_no : {A : Type 0} {b : Bool} (x y : A) → b ≡ false → cond b x y ≡ y
cond_no x y e = ap (λ (t : Bool). cond t x y) e

pub both : (p q : Bool) → (p && q) ≡ true → (p ≡ true) × (q ≡ true)
both true true e = (refl, refl)
both true false e = absurd (false≢true e)
both false q e = absurd (false≢true e)

pub neither : (p q : Bool) → (p || q) ≡ false → (p ≡ false) × (q ≡ false)
neither true q e = absurd (false≢true (sym e))
neither false q e = (refl, e)

pub not_yes : (b : Bool) → not b ≡ true → b ≡ false
not_yes true e = absurd (false≢true e)
not_yes false e = refl

pub not_no : (b : Bool) → not b ≡ false → b ≡ true
not_no true e = refl
not_no false e = absurd (false≢true (sym e))

-- ---- a test as a statement
pub holds : {b : Bool} → b ≡ true → T b
holds e = subst T (sym e) tt

pub is_true : (b : Bool) → T b → b ≡ true
is_true true h = refl
is_true false h = elim h [ ]

pub is_false : (b : Bool) → (T b → ⊥) → b ≡ false
is_false true f = absurd (f tt)
is_false false f = refl

pub decided : (b : Bool) → T b ⊎ T (not b)
decided true = inl tt
decided false = inr tt

pub clash : (b : Bool) → T (not b) → T b → ⊥
clash true p q = p
clash false p q = q

pub or_cases : (a b : Bool) → T (a || b) → T a ⊎ T b
or_cases true b h = inl tt
or_cases false b h = inr h

pub or_l : (a b : Bool) → T a → T (a || b)
or_l true b h = tt
or_l false b h = elim h [ ]

pub or_r : (a b : Bool) → T b → T (a || b)
or_r true b h = tt
or_r false b h = h

-- two tests that imply each other
pub same_test : (a b : Bool) → (T a → T b) → (T b → T a) → a ≡ b
same_test true true f g = refl
same_test true false f g = absurd (f tt)
same_test false true f g = absurd (g tt)
same_test false false f g = refl
