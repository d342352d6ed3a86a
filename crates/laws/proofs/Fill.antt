-- The laws of arrays that are filled from the front, of lists of indexes, and of lists that are walked. Assumes nothing.
use Prim.Native.Nat.{ℕ, zero, suc, ◌+◌, ◌-◌, ◌<◌, ◌≤◌}
use native.Mathlib.Numerals.{add-one}
use native.Mathlib.Omega.{arith}
use native.Mathlib.Nat.{add-zero, add-suc, suc-add}
use mathlib.Core.Path.{◌≡◌, refl, sym, ap, ◌∙◌}
use mathlib.Core.List.{List, [], ◌∷◌, ◌++◌, map, append_assoc, append-nil, reverse, reverse-append}
use lib.ListN.{length, take, drop, get_or, set, replicate, length-set, length-replicate}
use lib.Seq.{take-suc-set, take-suc, drop-cons, sets-eq, length-sets, take-append_seam, get_or-take}
use Rattle.laws.specs.Loops.{join_in}
use Rattle.laws.specs.Fill.{Filling, filled, indexes, range}
use Rattle.laws.proofs.Loops.{turn, done}

module _ {A : Type 0} {cap : ℕ} {all : List A} where
  -- behind what is there
  pub fill_from : {arr : List A} {n : ℕ} {rest : List A} → length arr ≡ cap → take n arr ++ rest ≡ all → Filling cap all arr n rest
  fill_from l e = record { long = l; held = e }

  pub fill_put : {arr : List A} {n : ℕ} {a : A} {rest rest' : List A} → n < cap → rest ≡ a ∷ rest' → Filling cap all arr n rest → Filling cap all (set arr n a) (n + 1) rest'
  fill_put {arr} {n} {a} {rest} {rest'} h e w =
      let g = w.long in
      let k : n < length arr = omega arith in
      record {
        long = length-set arr n a ∙ w.long;
        held = ap (λ (i : ℕ). take i (set arr n a) ++ rest') (add-one n) ∙ ap (λ (l : List A). l ++ rest') (take-suc-set arr n a k) ∙ append_assoc (take n arr) (a ∷ []) rest' ∙ ap (λ (l : List A). take n arr ++ l) (sym e) ∙ w.held;
      }

  pub fill_end : {arr : List A} {n : ℕ} {rest : List A} → rest ≡ [] → Filling cap all arr n rest → take n arr ≡ all
  fill_end {arr} {n} e w = sym (append-nil (take n arr)) ∙ ap (λ (l : List A). take n arr ++ l) (sym e) ∙ w.held

-- ---- an array that holds a list from its front
module _ {A : Type 0} (n : ℕ) (d : A) (l : List A) where
  pub length-filled : length (filled n d l) ≡ n
  length-filled = length-sets (replicate n d) 0 l ∙ length-replicate n d

  pub filled_is : length l ≤ n → filled n d l ≡ l ++ drop (length l) (replicate n d)
  filled_is h =
      let k = length-replicate n d in
      let e : 0 + length l ≡ length l = omega arith in
      sets-eq l (replicate n d) 0 (omega arith) ∙ ap (λ (i : ℕ). l ++ drop i (replicate n d)) e

  pub take-filled : length l ≤ n → take (length l) (filled n d l) ≡ l
  take-filled h = ap (take (length l)) (filled_is h) ∙ take-append_seam l (drop (length l) (replicate n d))

  pub get_d_filled : (i : ℕ) (e : A) → length l ≤ n → i < length l → get_or (filled n d l) i e ≡ get_or l i e
  get_d_filled i e h k = sym (get_or-take (length l) (filled n d l) i e k) ∙ ap (λ (m : List A). get_or m i e) (take-filled h)

-- ---- lists of indexes
pub range-turn : (a e : ℕ) → a < e → range a e ≡ a ∷ range (a + 1) e
unfolding indexes
range-turn a e h = turn indexes (λ i l. i ∷ l) (λ k i. refl) e a h

pub range-done : (a e : ℕ) → e ≤ a → range a e ≡ []
unfolding indexes
range-done a e h = done indexes e a h

indexes-more : (k a : ℕ) → indexes (suc k) a ≡ indexes k a ++ ((a + k) ∷ [])
unfolding indexes
indexes-more zero a = ap (λ (i : ℕ). i ∷ []) (sym (add-zero a))
indexes-more (suc k) a = ap (λ (l : List ℕ). a ∷ l) (indexes-more k (suc a) ∙ ap (λ (i : ℕ). indexes k (suc a) ++ (i ∷ [])) (suc-add a k ∙ sym (add-suc a k)))

length-indexes : (k i : ℕ) → length (indexes k i) ≡ k
unfolding indexes
length-indexes zero i = refl
length-indexes (suc k) i = ap suc (length-indexes k (suc i))

pub length-range : (a e : ℕ) → length (range a e) ≡ e - a
length-range a e = length-indexes (e - a) a

pub range-more : (a e : ℕ) → a ≤ e → range a (e + 1) ≡ range a e ++ (e ∷ [])
range-more a e h =
    let p : e + 1 - a ≡ suc (e - a) = omega arith in
    let q : a + (e - a) ≡ e = omega arith in
    ap (λ (k : ℕ). indexes k a) p ∙ indexes-more (e - a) a ∙ ap (λ (i : ℕ). range a e ++ (i ∷ [])) q

-- ---- a list walked forwards, and backwards
module _ {A B : Type 0} (f : A → B) where
  pub map-drop : (l : List A) (i : ℕ) (d : A) → i < length l → map f (drop i l) ≡ f (get_or l i d) ∷ map f (drop (i + 1) l)
  map-drop l i d h = ap (map f) (drop-cons l i d h ∙ ap (λ (k : ℕ). get_or l i d ∷ drop k l) (sym (add-one i)))

  pub map_range : (a e : ℕ) (g : ℕ → A) → a < e → map f (map g (range a e)) ≡ f (g a) ∷ map f (map g (range (a + 1) e))
  map_range a e g h = ap (λ (l : List ℕ). map f (map g l)) (range-turn a e h)

pub reverse_more : {A : Type 0} (l : List A) (a : A) → reverse (l ++ (a ∷ [])) ≡ a ∷ reverse l
reverse_more l a = reverse-append l (a ∷ [])

pub reverse_take : {A : Type 0} (l : List A) (i : ℕ) (d : A) → i < length l → reverse (take (i + 1) l) ≡ get_or l i d ∷ reverse (take i l)
reverse_take {A} l i d h = ap (λ (k : ℕ). reverse (take k l)) (add-one i) ∙ ap reverse (take-suc l i d h) ∙ reverse_more (take i l) (get_or l i d)

pub reverse_range : (a e : ℕ) → a ≤ e → reverse (range a (e + 1)) ≡ e ∷ reverse (range a e)
reverse_range a e h = ap reverse (range-more a e h) ∙ reverse_more (range a e) e

-- ---- map, and what it keeps
pub map-set : {A B : Type 0} (f : A → B) (l : List A) (i : ℕ) (a : A) → map f (set l i a) ≡ set (map f l) i (f a)
map-set f [] i a = refl
map-set f (x ∷ l) zero a = refl
map-set f (x ∷ l) (suc i) a = ap (λ m. f x ∷ m) (map-set f l i a)

pub map-take : {A B : Type 0} (f : A → B) (l : List A) (n : ℕ) → map f (take n l) ≡ take n (map f l)
map-take f [] zero = refl
map-take f [] (suc n) = refl
map-take f (x ∷ l) zero = refl
map-take f (x ∷ l) (suc n) = ap (λ m. f x ∷ m) (map-take f l n)

-- what is put in and taken out again
pub map_back : {A B : Type 0} (f : A → B) (g : B → A) → ((b : B) → f (g b) ≡ b) → (l : List B) → map f (map g l) ≡ l
map_back f g e [] = refl
map_back f g e (x ∷ l) = ap (λ y. y ∷ map f (map g l)) (e x) ∙ ap (λ m. x ∷ m) (map_back f g e l)

-- ---- join_in, one more at its end
module _ {A : Type 0} (f : ℕ → List A) where
  join_more-at : (k j : ℕ) → join_in f (suc k) j ≡ join_in f k j ++ f (j + k)
  unfolding join_in
  join_more-at zero j = append-nil (f j) ∙ ap f (sym (add-zero j))
  join_more-at (suc k) j = ap (λ (l : List A). f j ++ l) (join_more-at k (suc j)) ∙ sym (append_assoc (f j) (join_in f k (suc j)) (f (suc j + k))) ∙ ap (λ (i : ℕ). (f j ++ join_in f k (suc j)) ++ f i) (suc-add j k ∙ sym (add-suc j k))

  pub join_more : (k : ℕ) → join_in f (k + 1) 0 ≡ join_in f k 0 ++ f k
  join_more k = ap (λ (i : ℕ). join_in f i 0) (add-one k) ∙ join_more-at k 0 ∙ ap (λ (i : ℕ). join_in f k 0 ++ f i) (omega arith)

  pub join_nothing : (j : ℕ) → join_in f 0 j ≡ []
  unfolding join_in
  join_nothing j = refl
