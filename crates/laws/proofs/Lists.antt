-- Lists made by an index, folds over lists, and the laws of one turn of the loop that takes such a list. A loop `while j < n` has the invariant
-- `fold (list_in f (n - j) j) ≡ fold (list_in f n 0)`. Assumes nothing.
use Prim.Native.Nat.{ℕ, zero, suc, ◌+◌, ◌*◌, ◌-◌, ◌<◌, ◌≤◌}
use native.Mathlib.Numerals.{add-one}
use native.Mathlib.Omega.{arith}
use native.Mathlib.Nat.{add-zero, add-suc, suc-add}
use mathlib.Core.Path.{◌≡◌, refl, sym, ap, ap₂, ◌∙◌}
use mathlib.Core.Bool.{Bool, true, false, ◌||◌, cond}
use mathlib.Core.List.{List, [], ◌∷◌, ◌++◌, map, map-append, append_assoc}
use lib.ListN.{length, get_or, take, drop, length-append}
use lib.Seq.{drop-cons}
use Rattle.laws.specs.Lists.{list_in, foldl, flat, any}
use Rattle.laws.specs.Loops.{fold_in, filter_in}
use Rattle.laws.proofs.Loops.{turn, done}
use Rattle.laws.proofs.Sums.{sum-none, sum_first}

-- ---- f j, f (j + 1), .., k of them
module _ {A : Type 0} (f : ℕ → A) where
  pub list_turn : (n j : ℕ) → j < n → list_in f (n - j) j ≡ f j ∷ list_in f (n - (j + 1)) (j + 1)
  unfolding list_in
  list_turn = turn (list_in f) (λ i l. f i ∷ l) (λ k i. refl)

  pub list_done : (n j : ℕ) → n ≤ j → list_in f (n - j) j ≡ []
  unfolding list_in
  list_done = done (list_in f)

pub list_same : {A : Type 0} (f g : ℕ → A) → ((i : ℕ) → f i ≡ g i) → (k j : ℕ) → list_in f k j ≡ list_in g k j
unfolding list_in
list_same f g e zero j = refl
list_same f g e (suc k) j = rw (e j, list_same f g e k (suc j))

-- the indexes one higher
list_next : {A : Type 0} (f : ℕ → A) (k j : ℕ) → list_in f k (suc j) ≡ list_in (λ i. f (suc i)) k j
unfolding list_in
list_next f zero j = refl
list_next {A} f (suc k) j = ap (λ (l : List A). f (suc j) ∷ l) (list_next f k (suc j))

-- a mapped list by its indexes
pub list_map : {A B : Type 0} (g : A → B) (l : List A) (d : A) → map g l ≡ list_in (λ i. g (get_or l i d)) (length l) 0
unfolding list_in
list_map g [] d = refl
list_map {A} {B} g (x ∷ l) d = ap (λ (m : List B). g x ∷ m) (list_map g l d ∙ sym (list_next (λ i. g (get_or (x ∷ l) i d)) (length l) 0))

-- element i of a list made by an index
pub list_get : {A : Type 0} (f : ℕ → A) (d : A) (k j i : ℕ) → i < k → get_or (list_in f k j) i d ≡ f (j + i)
unfolding list_in
list_get f d zero j i h = absurd (omega arith)
list_get f d (suc k) j zero h = ap f (sym (add-zero j))
list_get f d (suc k) j (suc i) h = list_get f d k (suc j) i (omega arith) ∙ ap f (suc-add j i ∙ sym (add-suc j i))

pub list_length : {A : Type 0} (f : ℕ → A) (k j : ℕ) → length (list_in f k j) ≡ k
unfolding list_in
list_length f zero j = refl
list_length f (suc k) j = ap suc (list_length f k (suc j))

-- of a place that there is, what stands past the end is not asked
pub get_d_any : {A : Type 0} (l : List A) (i : ℕ) (d e : A) → i < length l → get_or l i d ≡ get_or l i e
get_d_any [] i d e h = absurd (omega arith)
get_d_any (x ∷ l) zero d e h = refl
get_d_any (x ∷ l) (suc i) d e h = get_d_any l i d e (omega arith)

-- the same at each element
pub map_each : {A B : Type 0} (f g : A → B) → ((x : A) → f x ≡ g x) → (l : List A) → map f l ≡ map g l
map_each f g e [] = refl
map_each {B = B} f g e (x ∷ l) = ap₂ (λ (y : B) (m : List B). y ∷ m) (e x) (map_each f g e l)

pub flat-each : {A B : Type 0} (f g : A → List B) → ((x : A) → f x ≡ g x) → (l : List A) → flat f l ≡ flat g l
unfolding flat
flat-each f g e [] = refl
flat-each {B = B} f g e (x ∷ l) = ap₂ (λ (y m : List B). y ++ m) (e x) (flat-each f g e l)

-- the part of a list from j on, by an index that gives its elements
pub list_as : {A : Type 0} (f : ℕ → A) (l : List A) (d : A) → ((i : ℕ) → i < length l → f i ≡ get_or l i d) → (k j : ℕ) → j + k ≤ length l → list_in f k j ≡ take k (drop j l)
unfolding list_in
list_as f l d e zero j h = refl
list_as {A} f l d e (suc k) j h =
    ap₂ (λ (x : A) (m : List A). x ∷ m) (e j (omega arith)) (list_as f l d e k (suc j) (omega arith)) ∙ sym (ap (take (suc k)) (drop-cons l j d (omega arith)))

-- ---- folds from the left
module _ {A B : Type 0} (step : A → B → A) where
  pub foldl-append : (a : A) (l m : List B) → foldl step a (l ++ m) ≡ foldl step (foldl step a l) m
  unfolding foldl
  foldl-append a [] m = refl
  foldl-append a (x ∷ l) m = foldl-append (step a x) l m

  -- a turn of a loop over the indexes that leaves the state b, and its end
  pub fold_on : (f : ℕ → B) {a b : A} (n j : ℕ) → j < n → step a (f j) ≡ b → foldl step b (list_in f (n - (j + 1)) (j + 1)) ≡ foldl step a (list_in f (n - j) j)
  unfolding foldl
  fold_on f {a} n j h e = ap (λ (x : A). foldl step x (list_in f (n - (j + 1)) (j + 1))) (sym e) ∙ ap (foldl step a) (sym (list_turn f n j h))

  pub fold_done : (f : ℕ → B) (a : A) (n j : ℕ) → n ≤ j → foldl step a (list_in f (n - j) j) ≡ a
  unfolding foldl
  fold_done f a n j h = ap (foldl step a) (list_done f n j h)

-- folds by the same steps
pub foldl-same : {A B : Type 0} (s t : A → B → A) → ((a : A) (x : B) → s a x ≡ t a x) → (a : A) (l : List B) → foldl s a l ≡ foldl t a l
unfolding foldl
foldl-same s t e a [] = refl
foldl-same {A} s t e a (x ∷ l) = ap (λ (b : A). foldl s b l) (e a x) ∙ foldl-same s t e (t a x) l

-- a fold over a mapped list
pub foldl-map : {A B C : Type 0} (step : A → B → A) (g : C → B) (a : A) (l : List C) → foldl step a (map g l) ≡ foldl (λ x y. step x (g y)) a l
unfolding foldl
foldl-map step g a [] = refl
foldl-map step g a (x ∷ l) = foldl-map step g (step a (g x)) l

-- a fold over lists one after the other is a fold of folds
pub foldl-flat : {A B C : Type 0} (step : A → B → A) (f : C → List B) (a : A) (l : List C) → foldl step a (flat f l) ≡ foldl (λ x y. foldl step x (f y)) a l
unfolding foldl flat
foldl-flat step f a [] = refl
foldl-flat step f a (x ∷ l) = foldl-append step a (f x) (flat f l) ∙ foldl-flat step f (foldl step a (f x)) l

-- ---- one of the elements passes
module _ {B : Type 0} (p : B → Bool) where
  pub any-yes : (f : ℕ → B) (n j : ℕ) → j < n → p (f j) ≡ true → any p (list_in f (n - j) j) ≡ true
  unfolding any
  any-yes f n j h e = ap (any p) (list_turn f n j h) ∙ ap (λ (b : Bool). b || any p (list_in f (n - (j + 1)) (j + 1))) e

  pub any-no : (f : ℕ → B) (n j : ℕ) → j < n → p (f j) ≡ false → any p (list_in f (n - j) j) ≡ any p (list_in f (n - (j + 1)) (j + 1))
  unfolding any
  any-no f n j h e = ap (any p) (list_turn f n j h) ∙ ap (λ (b : Bool). b || any p (list_in f (n - (j + 1)) (j + 1))) e

  pub any-done : (f : ℕ → B) (n j : ℕ) → n ≤ j → any p (list_in f (n - j) j) ≡ false
  unfolding any
  any-done f n j h = ap (any p) (list_done f n j h)

pub any_same : {B : Type 0} (p q : B → Bool) → ((x : B) → p x ≡ q x) → (l : List B) → any p l ≡ any q l
unfolding any
any_same p q e [] = refl
any_same p q e (x ∷ l) = rw (e x, any_same p q e l)

-- ---- lists one after the other
pub flat_append : {A B : Type 0} (f : A → List B) (l m : List A) → flat f (l ++ m) ≡ flat f l ++ flat f m
unfolding flat
flat_append f [] m = refl
flat_append {B = B} f (x ∷ l) m = ap (λ (t : List B). f x ++ t) (flat_append f l m) ∙ sym (append_assoc (f x) (flat f l) (flat f m))

pub flat_map : {A B C : Type 0} (f : B → List C) (g : A → B) (l : List A) → flat f (map g l) ≡ flat (λ x. f (g x)) l
unfolding flat
flat_map f g [] = refl
flat_map {C = C} f g (x ∷ l) = ap (λ (t : List C). f (g x) ++ t) (flat_map f g l)

pub map-flat : {A B C : Type 0} (g : B → C) (f : A → List B) (l : List A) → map g (flat f l) ≡ flat (λ x. map g (f x)) l
unfolding flat
map-flat g f [] = refl
map-flat {C = C} g f (x ∷ l) = map-append g (f x) (flat f l) ∙ ap (λ (t : List C). map g (f x) ++ t) (map-flat g f l)

-- a turn of a loop over the elements
pub flat-drop : {A B : Type 0} (f : A → List B) (l : List A) (i : ℕ) (d : A) → i < length l → flat f (drop i l) ≡ f (get_or l i d) ++ flat f (drop (i + 1) l)
unfolding flat
flat-drop f l i d h = ap (flat f) (drop-cons l i d h) ∙ ap (λ (k : ℕ). f (get_or l i d) ++ flat f (drop k l)) (sym (add-one i))

pub flat-none : {A B : Type 0} (f : A → List B) {l : List A} → l ≡ [] → flat f l ≡ []
unfolding flat
flat-none f e = ap (flat f) e

-- lists of at most b each
pub flat-short : {A B : Type 0} (f : A → List B) (b : ℕ) → ((x : A) → length (f x) ≤ b) → (l : List A) → length (flat f l) ≤ length l * b
unfolding flat
flat-short f b h [] = omega arith
flat-short f b h (x ∷ l) = rw (length-append (f x) (flat f l)) (omega (arith, h x, flat-short f b h l))

-- ---- the indexes that pass
-- two tests that agree on the indexes asked
pub filter_same : (p r : ℕ → Bool) (k j : ℕ) → ((i : ℕ) → i < j + k → p i ≡ r i) → filter_in p k j ≡ filter_in r k j
unfolding filter_in
filter_same p r zero j e = refl
filter_same p r (suc k) j e =
    ap₂ (λ (b : Bool) (l : List ℕ). cond b (j ∷ l) l) (e j (omega arith)) (filter_same p r k (suc j) (λ i h. e i (omega arith)))

-- how many pass
pub filter-count : (p : ℕ → Bool) (k j : ℕ) → length (filter_in p k j) ≡ fold_in (λ s i. s + cond (p i) 1 0) 0 k j
unfolding filter_in
filter-count p zero j = sym (sum-none (λ i. cond (p i) 1 0) j)
filter-count p (suc k) j = go (p j) refl (filter-count p k (suc j)) (sum_first (λ i. cond (p i) 1 0) k j)
  where
    go : (b : Bool) → p j ≡ b → length (filter_in p k (suc j)) ≡ fold_in (λ s i. s + cond (p i) 1 0) 0 k (suc j)
        → fold_in (λ s i. s + cond (p i) 1 0) 0 (suc k) j ≡ cond (p j) 1 0 + fold_in (λ s i. s + cond (p i) 1 0) 0 k (suc j)
        → length (cond b (j ∷ filter_in p k (suc j)) (filter_in p k (suc j))) ≡ fold_in (λ s i. s + cond (p i) 1 0) 0 (suc k) j
    go true e r s = let c : ◌≡◌ {A = ℕ} (cond (p j) 1 0) 1 = ap (λ (b : Bool). cond b 1 0) e in omega (arith, r, s, c)
    go false e r s = let c : ◌≡◌ {A = ℕ} (cond (p j) 1 0) 0 = ap (λ (b : Bool). cond b 1 0) e in omega (arith, r, s, c)

-- the lists of the indexes that pass are together no longer than the sum of the lengths that are allowed
pub filter-within : {A : Type 0} (p : ℕ → Bool) (f : ℕ → List A) (g : ℕ → ℕ) → ((i : ℕ) → length (f i) ≤ g i) → (k j : ℕ) → length (flat f (filter_in p k j)) ≤ fold_in (λ s i. s + cond (p i) (g i) 0) 0 k j
unfolding filter_in flat
filter-within p f g h zero j = let e = sum-none (λ i. cond (p i) (g i) 0) j in omega arith
filter-within p f g h (suc k) j = go (p j) refl (filter-within p f g h k (suc j)) (sum_first (λ i. cond (p i) (g i) 0) k j)
  where
    go : (b : Bool) → p j ≡ b → length (flat f (filter_in p k (suc j))) ≤ fold_in (λ s i. s + cond (p i) (g i) 0) 0 k (suc j)
        → fold_in (λ s i. s + cond (p i) (g i) 0) 0 (suc k) j ≡ cond (p j) (g j) 0 + fold_in (λ s i. s + cond (p i) (g i) 0) 0 k (suc j)
        → length (flat f (cond b (j ∷ filter_in p k (suc j)) (filter_in p k (suc j)))) ≤ fold_in (λ s i. s + cond (p i) (g i) 0) 0 (suc k) j
    go true e r s =
        let c : cond (p j) (g j) 0 ≡ g j = ap (λ (b : Bool). cond b (g j) 0) e in
        let a = length-append (f j) (flat f (filter_in p k (suc j))) in
        let l = h j in
        omega (arith, r, s, c, a, l)
    go false e r s =
        let c : cond (p j) (g j) 0 ≡ 0 = ap (λ (b : Bool). cond b (g j) 0) e in
        omega (arith, r, s, c)
