-- The laws of `Writing`: a lent slice that a loop writes from a place on, the rest of it unchanged. Assumes nothing.
use Prim.Native.Nat.{ℕ, suc, ◌+◌, ◌≤◌}
use native.Mathlib.Numerals.{add-one}
use native.Mathlib.Omega.{arith}
use native.Mathlib.Nat.{add-zero, add-suc, suc-add, add_assoc}
use mathlib.Core.Path.{◌≡◌, refl, sym, ap, subst, subst₂, ◌∙◌}
use mathlib.Core.List.{List, [], ◌∷◌, ◌++◌, map, map-append}
use lib.ListN.{length, set, take, drop, length-set, length-append, length-map}
use lib.Seq.{sets, length-sets, sets-eq, take_at}
use Rattle.laws.specs.Loops.{Writing}

pub sets-append {ℓ} : {A : Type ℓ} (xs ys l : List A) (i : ℕ) → sets l i (xs ++ ys) ≡ sets (sets l i xs) (i + length xs) ys
sets-append [] ys l i = ap (λ (k : ℕ). sets l k ys) (sym (add-zero i))
sets-append (x ∷ xs) ys l i = sets-append xs ys (set l i x) (suc i) ∙ ap (λ (k : ℕ). sets (sets (set l i x) (suc i) xs) k ys) (suc-add i (length xs) ∙ sym (add-suc i (length xs)))

-- what is written to the front of a list that is long enough is taken from it again
pub sets-taken : {A : Type 0} (vs l : List A) (n : ℕ) → length vs ≡ n → length vs ≤ length l → take n (sets l 0 vs) ≡ vs
sets-taken vs l n e h =
    let k : 0 + length vs ≤ length l = omega arith in
    ap (take n) (sets-eq vs l 0 k) ∙ take_at vs (drop (0 + length vs) l) n e

module _ {A : Type 0} {out₀ : List A} {at₀ : ℕ} {all : List A} where
  pub starts : {rest : List A} → rest ≡ all → Writing out₀ at₀ all out₀ at₀ rest
  starts e = record { long = refl; counted = ap (λ (l : List A). at₀ + length l) e; written = ap (λ (l : List A). sets out₀ at₀ l) e }

  pub goes_on : {out : List A} {at : ℕ} {rest rest' : List A} → rest ≡ rest' → Writing out₀ at₀ all out at rest → Writing out₀ at₀ all out at rest'
  goes_on {out} {at} e w = subst (λ (l : List A). Writing out₀ at₀ all out at l) e w

  pub puts : {out : List A} {at : ℕ} {a : A} {rest rest' : List A} → rest ≡ a ∷ rest' → Writing out₀ at₀ all out at rest → Writing out₀ at₀ all (set out at a) (at + 1) rest'
  puts {out} {at} {a} {rest} {rest'} e w =
      let v : Writing out₀ at₀ all out at (a ∷ rest') = goes_on e w in
      record {
        long = length-set out at a ∙ w.long;
        counted = ap (λ (k : ℕ). k + length rest') (add-one at) ∙ suc-add at (length rest') ∙ sym (add-suc at (length rest')) ∙ v.counted;
        written = ap (λ (k : ℕ). sets (set out at a) k rest') (add-one at) ∙ v.written;
      }

  -- a callee writes xs
  pub appends : {out : List A} {at : ℕ} {rest : List A} (xs : List A) {rest' : List A} → rest ≡ xs ++ rest' → Writing out₀ at₀ all out at rest → Writing out₀ at₀ all (sets out at xs) (at + length xs) rest'
  appends {out} {at} xs {rest'} e w =
      let v : Writing out₀ at₀ all out at (xs ++ rest') = goes_on e w in
      record {
        long = length-sets out at xs ∙ w.long;
        counted = add_assoc at (length xs) (length rest') ∙ ap (λ (k : ℕ). at + k) (sym (length-append xs rest')) ∙ v.counted;
        written = sym (sets-append xs rest' out at) ∙ v.written;
      }

  pub ends-count : {out : List A} {at : ℕ} {rest : List A} → rest ≡ [] → Writing out₀ at₀ all out at rest → at ≡ at₀ + length all
  ends-count {at} e w = sym (add-zero at) ∙ ap (λ (l : List A). at + length l) (sym e) ∙ w.counted

  pub ends : {out : List A} {at : ℕ} {rest : List A} → rest ≡ [] → Writing out₀ at₀ all out at rest → out ≡ sets out₀ at₀ all
  ends {out} {at} e w = ap (λ (l : List A). sets out at l) (sym e) ∙ w.written

-- a callee wrote one field of each element of xs: `out'` and `at'` are what it says it left
pub appends-map : {A B : Type 0} {out₀ : List A} {at₀ : ℕ} {all : List A} {out out' : List A} {at at' : ℕ} (g : B → A) {rest : List B} (xs rest' : List B)
    → rest ≡ xs ++ rest' → out' ≡ sets out at (map g xs) → at' ≡ at + length xs → Writing out₀ at₀ all out at (map g rest) → Writing out₀ at₀ all out' at' (map g rest')
appends-map {A} {out₀ = out₀} {at₀} {all} {out} {out'} {at} {at'} g xs rest' e o n w =
    subst₂ (λ (l : List A) (k : ℕ). Writing out₀ at₀ all l k (map g rest')) (sym o) (ap (λ (k : ℕ). at + k) (length-map xs g) ∙ sym n)
    (appends (map g xs) (ap (map g) e ∙ map-append g xs rest') w)
