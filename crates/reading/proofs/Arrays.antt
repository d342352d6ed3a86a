-- Rows written to the front of two lent arrays: each is read back as it was, and what governs and bears is the same as of the rows themselves. Assumes nothing.
use Prim.Native.Nat.{ℕ, zero, suc, ◌+◌, ◌<◌, ◌≤◌}
use native.Mathlib.Omega.{arith}
use native.Mathlib.Nat.{zero-add}
use mathlib.Core.Path.{◌≡◌, refl, sym, ap, ap₂, ◌∙◌}
use mathlib.Core.Bool.{Bool, true, false, ◌&&◌, cond}
use mathlib.Core.List.{List, [], ◌∷◌, map}
use lib.Dec.{eqb}
use lib.ListN.{length, get_or, length-map}
use lib.Seq.{sets}
use lib.Ieee.{Float, lt}
use Rattle.laws.specs.Loops.{fold_in}
use Rattle.mechanism.specs.Rows.{place_row, value_row, row_in, pair_in, gap_in}
use Rattle.bodies.specs.declared.pose.Pose.{Pose}
use Rattle.mechanism.specs.declared.rows.Row.{Row}
use Rattle.sides.specs.declared.contacts.PairFeatures.{PairFeatures}
use Rattle.pair_rows.proofs.Store.{sets-get}
use Rattle.governing.specs.Governing.{least_of, governing_of, Governing}
use Rattle.governing.proofs.First.{governing-first}
use Rattle.bearings.specs.Bearing.{bearing_of, governed_bearing, row_at}
use Rattle.bearings.proofs.Repeats.{row-again}
use Rattle.std.proofs.Common.{Option, Some, None}
use Rattle.mechanism.specs.declared.bearing.Bearing.{Bearing}

-- ---- an entry that is written is read back
get_map : {A B : Type 0} (f : A → B) (l : List A) (j : ℕ) (d : A) (e : B) → j < length l → get_or (map f l) j e ≡ f (get_or l j d)
get_map f [] j d e h = absurd (omega arith)
get_map f (x ∷ l) zero d e h = refl
get_map f (x ∷ l) (suc j) d e h = get_map f l j d e (omega arith)

entry-back : {A B : Type 0} (f : A → B) (l : List A) (out : List B) (j : ℕ) (e : B) → length l ≤ length out → j < length l
    → get_or (sets out 0 (map f l)) j e ≡ get_or (map f l) j e
entry-back f l out j e h k =
    let n = length-map l f in
    ap (λ (i : ℕ). get_or (sets out 0 (map f l)) i e) (sym (zero-add j)) ∙ sets-get (map f l) out 0 (omega (arith, n, h)) j e (omega (arith, n, k))

pub read_back : (rows : List Row) (places : List (List ℕ)) (values : List (List Float)) (j : ℕ) (none : Row)
    → length rows ≤ length places → length rows ≤ length values → j < length rows
    → row_at (sets places 0 (map place_row rows)) (sets values 0 (map value_row rows)) j ≡ get_or rows j none
read_back rows places values j none hp hv h =
    ap₂ row_in (entry-back place_row rows places j [] hp h ∙ get_map place_row rows j none [] h)
    (entry-back value_row rows values j [] hv h ∙ get_map value_row rows j none [] h)
    ∙ row-again (get_or rows j none)

-- ---- the governing row of n records depends on those alone
abbrev Below : ℕ → Option ℕ → Type 0
Below n None = Unit {0}
Below n (Some a) = a < n

below-either : (n : ℕ) (b : Bool) (x y : Option ℕ) → Below n x → Below n y → Below n (cond b x y)
below-either n true x y p q = p
below-either n false x y p q = q

below_more : (pair : ℕ → ℕ) (gap : ℕ → Float) (p n : ℕ) (x : Option ℕ) (j : ℕ) → j < n → Below n x → Below n (least_of pair gap p x j)
below_more pair gap p n None j h b = below-either n (eqb (pair j) p) (Some j) None h tt
below_more pair gap p n (Some a) j h b = below-either n (eqb (pair j) p && lt (gap j) (gap a)) (Some j) (Some a) h b

inside : (pair : ℕ → ℕ) (gap : ℕ → Float) (n p : ℕ) (x : Option ℕ) → Governing pair gap n p x → Below n x
inside pair gap n p None g = tt
inside pair gap n p (Some a) g = g.inside

module _ (pair pair' : ℕ → ℕ) (gap gap' : ℕ → Float) (n : ℕ)
    (ep : (j : ℕ) → j < n → pair j ≡ pair' j) (eg : (j : ℕ) → j < n → gap j ≡ gap' j) (p : ℕ) where
  least_same : (x : Option ℕ) (j : ℕ) → j < n → Below n x → least_of pair gap p x j ≡ least_of pair' gap' p x j
  least_same None j h b = ap (λ (k : ℕ). cond (eqb k p) (Some j) None) (ep j h)
  least_same (Some a) j h b =
      ap (λ (k : ℕ). cond (eqb k p && lt (gap j) (gap a)) (Some j) (Some a)) (ep j h)
      ∙ ap₂ (λ (x y : Float). cond (eqb (pair' j) p && lt x y) (Some j) (Some a)) (eg j h) (eg a b)

  fold_same : (k j : ℕ) (x : Option ℕ) → j + k ≤ n → Below n x → fold_in (least_of pair gap p) x k j ≡ fold_in (least_of pair' gap' p) x k j
  unfolding fold_in
  fold_same zero j x h b = refl
  fold_same (suc k) j x h b =
      ap (λ (y : Option ℕ). fold_in (least_of pair gap p) y k (suc j)) (least_same x j (omega arith) b)
      ∙ fold_same k (suc j) (least_of pair' gap' p x j) (omega arith) (below_more pair' gap' p n x j (omega arith) b)

  governing-same : governing_of pair gap n p ≡ governing_of pair' gap' n p
  unfolding governing_of
  governing-same = fold_same n 0 None (omega arith) tt

-- and so does the bearing by it
module _ (f : PairFeatures) (q : Pose) (row row' : ℕ → Row) (n : ℕ) (er : (j : ℕ) → j < n → row j ≡ row' j) (p : ℕ) where
  bearing-same : (x : Option ℕ) → Below n x → governed_bearing f q row x ≡ governed_bearing f q row' x
  bearing-same None b = refl
  bearing-same (Some a) b = ap (bearing_of f q) (er a b)

  governed-same : governed_bearing f q row (governing_of (λ k. (row k).pair) (λ k. (row k).gap) n p)
      ≡ governed_bearing f q row' (governing_of (λ k. (row' k).pair) (λ k. (row' k).gap) n p)
  governed-same =
      let pair : ℕ → ℕ = λ k. (row k).pair in
      let gap : ℕ → Float = λ k. (row k).gap in
      bearing-same (governing_of pair gap n p) (inside pair gap n p (governing_of pair gap n p) (governing-first pair gap n p))
      ∙ ap (governed_bearing f q row')
      (governing-same pair (λ k. (row' k).pair) gap (λ k. (row' k).gap) n
      (λ j h. ap (λ (r : Row). r.pair) (er j h)) (λ j h. ap (λ (r : Row). r.gap) (er j h)) p)

-- the bearing by rows written to arrays is that by the rows
abbrev bearing_of_pair : PairFeatures → Pose → ℕ → ℕ → List (List ℕ) → List (List Float) → Option Bearing
bearing_of_pair f q n p places values = governed_bearing f q (row_at places values) (governing_of (pair_in places) (gap_in values) n p)

pub bearing-back : (f : PairFeatures) (q : Pose) (rows : List Row) (places : List (List ℕ)) (values : List (List Float)) (p : ℕ)
    → length rows ≤ length places → length rows ≤ length values
    → bearing_of_pair f q (length rows) p (sets places 0 (map place_row rows)) (sets values 0 (map value_row rows))
    ≡ bearing_of_pair f q (length rows) p (map place_row rows) (map value_row rows)
bearing-back f q rows places values p hp hv =
    governed-same f q (row_at (sets places 0 (map place_row rows)) (sets values 0 (map value_row rows)))
    (row_at (map place_row rows) (map value_row rows)) (length rows)
    (λ j h. ap₂ row_in (entry-back place_row rows places j [] hp h) (entry-back value_row rows values j [] hv h)) p

pub bearing-of-rows : (f : PairFeatures) (q : Pose) (rows : List Row) (none : Row) (p : ℕ)
    → bearing_of_pair f q (length rows) p (map place_row rows) (map value_row rows)
    ≡ governed_bearing f q (λ k. get_or rows k none) (governing_of (λ k. (get_or rows k none).pair) (λ k. (get_or rows k none).gap) (length rows) p)
bearing-of-rows f q rows none p =
    governed-same f q (row_at (map place_row rows) (map value_row rows)) (λ k. get_or rows k none) (length rows)
    (λ j h. ap₂ row_in (get_map place_row rows j none [] h) (get_map value_row rows j none [] h) ∙ row-again (get_or rows j none)) p
