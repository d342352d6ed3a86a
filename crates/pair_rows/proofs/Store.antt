-- What is written into a part of a list: read again, changed at one place, and written over. Assumes nothing.
use Prim.Native.Nat.{ℕ, ◌+◌, ◌<◌, ◌≤◌}
use native.Mathlib.Omega.{arith}
use native.Mathlib.Nat.{zero-add, suc-add}
use mathlib.Core.Path.{◌≡◌, sym, ap, ap₂, ◌∙◌}
use mathlib.Core.List.{List, [], ◌∷◌, ◌++◌, append_assoc}
use lib.ListN.{length, get_or, set, take, drop, replicate, length-set, length-drop, take-append-drop, length-replicate, replicate-append-replicate, get_or-append}
use lib.Seq.{sets, sets-eq, length-sets, length-take-le, get_or-append-add, set-append_left, drop_at, take_at, take-append_seam, drop-append_seam, drop-drop}
use Rattle.laws.proofs.Writing.{sets-append}

-- a store behind the seam
set-append_add : {A : Type 0} (xs ys : List A) (n : ℕ) (a : A) → set (xs ++ ys) (length xs + n) a ≡ xs ++ set ys n a
set-append_add [] ys n a = ap (λ (k : ℕ). set ys k a) (zero-add n)
set-append_add {A} (x ∷ xs) ys n a =
    ap (λ (k : ℕ). set (x ∷ (xs ++ ys)) k a) (suc-add (length xs) n) ∙ ap (λ (r : List A). x ∷ r) (set-append_add xs ys n a)

-- what stands before, what is written, and what stands behind
sets-as : {A : Type 0} (g l : List A) (at : ℕ) → at + length g ≤ length l → sets l at g ≡ take at l ++ (g ++ drop (at + length g) l)
sets-as g l at h = sets-eq g l at h ∙ append_assoc (take at l) g (drop (at + length g) l)

module _ {A : Type 0} (g l : List A) (at : ℕ) (h : at + length g ≤ length l) where
  front : length (take at l) ≡ at
  front = length-take-le at l (omega (arith, h))

  -- element c of what is written
  pub sets-get : (c : ℕ) (d : A) → c < length g → get_or (sets l at g) (at + c) d ≡ get_or g c d
  sets-get c d k =
      ap (λ (m : List A). get_or m (at + c) d) (sets-as g l at h)
      ∙ ap (λ (n : ℕ). get_or (take at l ++ (g ++ drop (at + length g) l)) (n + c) d) (sym front)
      ∙ get_or-append-add (take at l) (g ++ drop (at + length g) l) c d
      ∙ get_or-append g (drop (at + length g) l) d c k

  -- a store into what is written
  pub sets-set : (c : ℕ) (a : A) → c < length g → set (sets l at g) (at + c) a ≡ sets l at (set g c a)
  sets-set c a k =
      let n = length-set g c a in
      ap (λ (m : List A). set m (at + c) a) (sets-as g l at h)
      ∙ ap (λ (i : ℕ). set (take at l ++ (g ++ drop (at + length g) l)) (i + c) a) (sym front)
      ∙ set-append_add (take at l) (g ++ drop (at + length g) l) c a
      ∙ ap (λ (m : List A). take at l ++ m) (set-append_left g (drop (at + length g) l) c a k)
      ∙ ap (λ (i : ℕ). take at l ++ (set g c a ++ drop (at + i) l)) (sym n)
      ∙ sym (sets-as (set g c a) l at (omega (arith, n, h)))

  pub sets-read : take (length g) (drop at (sets l at g)) ≡ g
  sets-read =
      ap (λ (m : List A). take (length g) (drop at m)) (sets-as g l at h)
      ∙ ap (take (length g)) (drop_at (take at l) (g ++ drop (at + length g) l) at front)
      ∙ take-append_seam g (drop (at + length g) l)

  before-it : take at (sets l at g) ≡ take at l
  before-it = ap (take at) (sets-as g l at h) ∙ take_at (take at l) (g ++ drop (at + length g) l) at front

  behind-it : drop (at + length g) (sets l at g) ≡ drop (at + length g) l
  behind-it =
      ap (drop (at + length g)) (sets-as g l at h)
      ∙ sym (drop-drop (length g) at (take at l ++ (g ++ drop (at + length g) l)))
      ∙ ap (drop (length g)) (drop_at (take at l) (g ++ drop (at + length g) l) at front)
      ∙ drop-append_seam g (drop (at + length g) l)

  -- written over by as many
  pub sets_over : (f : List A) → length f ≡ length g → sets (sets l at g) at f ≡ sets l at f
  sets_over f e =
      let n = length-sets l at g in
      sets-as f (sets l at g) at (omega (arith, n, e, h))
      ∙ ap (λ (k : ℕ). take at (sets l at g) ++ (f ++ drop (at + k) (sets l at g))) e
      ∙ ap₂ (λ (x y : List A). x ++ (f ++ y)) before-it behind-it
      ∙ ap (λ (k : ℕ). take at l ++ (f ++ drop (at + k) l)) (sym e)
      ∙ sym (sets-as f l at (omega (arith, e, h)))

-- what is made from what was written, written over it
pub sets_then : {A : Type 0} (f : List A → List A) (g l y z : List A) (at n : ℕ) → ((x : List A) → length (f x) ≡ length x) → length g ≡ n → at + n ≤ length l
    → y ≡ sets l at g → z ≡ sets y at (f (take n (drop at y))) → z ≡ sets l at (f g)
sets_then {A} f g l y z at n k e h p q =
    let r : at + length g ≤ length l = omega (arith, e, h) in
    q ∙ ap (λ (m : List A). sets m at (f (take n (drop at m)))) p
    ∙ ap (λ (i : ℕ). sets (sets l at g) at (f (take i (drop at (sets l at g))))) (sym e)
    ∙ ap (λ (m : List A). sets (sets l at g) at (f m)) (sets-read g l at r)
    ∙ sets_over g l at r (f g) (k g)

-- one more of the same
pub sets_one_more : {A : Type 0} (l out : List A) (at i : ℕ) (a : A) → out ≡ sets l at (replicate i a) → set out (at + i) a ≡ sets l at (replicate (i + 1) a)
sets_one_more {A} l out at i a e =
    ap (λ (m : List A). set m (at + i) a) e
    ∙ ap (λ (k : ℕ). set (sets l at (replicate i a)) (at + k) a) (sym (length-replicate i a))
    ∙ sym (sets-append (replicate i a) (a ∷ []) l at)
    ∙ ap (sets l at) (replicate-append-replicate i 1 a)

-- a part of a list is as long as it is asked to be, and written where it stands changes nothing
pub part-long : {A : Type 0} (l : List A) (at n : ℕ) → at + n ≤ length l → length (take n (drop at l)) ≡ n
part-long l at n h = let e = length-drop at l in length-take-le n (drop at l) (omega (arith, e, h))

pub part_same : {A : Type 0} (l : List A) (at n : ℕ) → at + n ≤ length l → l ≡ sets l at (take n (drop at l))
part_same {A} l at n h =
    let e = part-long l at n h in
    sym
    (sets-as (take n (drop at l)) l at (omega (arith, e, h))
    ∙ ap (λ (k : ℕ). take at l ++ (take n (drop at l) ++ drop (at + k) l)) e
    ∙ ap (λ (m : List A). take at l ++ (take n (drop at l) ++ m)) (sym (drop-drop n at l))
    ∙ ap (λ (m : List A). take at l ++ m) (take-append-drop n (drop at l))
    ∙ take-append-drop at l)
