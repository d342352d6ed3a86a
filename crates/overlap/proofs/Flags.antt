-- Flags by number, one for each of 32 parts: what a loop that sets them leaves, and the parts that they name. Once is named so that a wrong list of owners fails first at the
-- plain statement that none stands twice. Assumes nothing.
use Prim.Native.Nat.{ℕ, zero, suc, ◌+◌, ◌-◌, ◌<◌, ◌≤◌}
use native.Mathlib.Omega.{arith}
use native.Mathlib.Nat.{add-zero, add-suc, suc-add, zero-add}
use mathlib.Core.Path.{◌≡◌, refl, sym, ap, ap₂, ◌∙◌}
use mathlib.Core.Bool.{Bool, true, false, not, ◌&&◌, ◌||◌, cond}
use mathlib.Core.List.{List, [], ◌∷◌}
use lib.Dec.{eqb}
use lib.ListN.{get_or}
use lib.Seq.{take_all}
use Rattle.laws.specs.Fill.{Filling}
use Rattle.laws.specs.Lists.{list_in, any}
use Rattle.std.specs.List.{list_any, list_all}
use Rattle.laws.specs.Loops.{filter_in}
use Rattle.laws.proofs.Fill.{fill_end}
use Rattle.laws.proofs.Lists.{list_turn, list_done}
use Rattle.drawing.specs.Drawing.{what_is}
use Rattle.overlap.specs.Overlap.{owner_at, as_owners}
use Rattle.overlap.proofs.Once as once

-- ---- 32 flags, set from the front
module _ {A : Type 0} (f : ℕ → A) where
  pub flag_turn : (i : ℕ) (t : A) → i < 32 → t ≡ f i → list_in f (32 - i) i ≡ t ∷ list_in f (32 - (i + 1)) (i + 1)
  flag_turn i t h e = list_turn f 32 i h ∙ ap (λ (x : A). x ∷ list_in f (32 - (i + 1)) (i + 1)) (sym e)

  pub flags_done : {l : List A} {i : ℕ} → 32 ≤ i → Filling 32 (list_in f 32 0) l i (list_in f (32 - i) i) → l ≡ list_in f 32 0
  flags_done {l} {i} h w =
      let k = w.long in
      sym (take_all i l (omega (arith, k, h))) ∙ fill_end (list_done f 32 i h) w

  list_get : (d : A) (k j i : ℕ) → i < k → get_or (list_in f k j) i d ≡ f (j + i)
  unfolding list_in
  list_get d zero j i h = absurd (omega arith)
  list_get d (suc k) j zero h = ap f (sym (add-zero j))
  list_get d (suc k) j (suc i) h = list_get d k (suc j) i (omega arith) ∙ ap f (suc-add j i ∙ sym (add-suc j i))

  pub flag_at : (d : A) (i : ℕ) → i < 32 → get_or (list_in f 32 0) i d ≡ f i
  flag_at d i h = list_get d 32 0 i h ∙ ap f (zero-add i)

-- ---- tests that agree below the end
pub filter_same : (p r : ℕ → Bool) (k j : ℕ) → ((i : ℕ) → i < j + k → p i ≡ r i) → filter_in p k j ≡ filter_in r k j
unfolding filter_in
filter_same p r zero j e = refl
filter_same p r (suc k) j e =
    ap₂ (λ (b : Bool) (l : List ℕ). cond b (j ∷ l) l) (e j (omega arith)) (filter_same p r k (suc j) (λ i h. e i (omega arith)))

-- a part is a solid, a cut or neither
pub is-solid : (s t : Bool) → eqb (what_is s t) 1 ≡ s
is-solid true t = refl
is-solid false true = refl
is-solid false false = refl

pub owner-flag : (p : ℕ → Bool) (i : ℕ) → i < 32 → owner_at (as_owners p) i ≡ p i
owner-flag p i h = ap (λ (x : ℕ). eqb x 1) (flag_at (λ j. what_is (p j) false) 0 i h) ∙ is-solid (p i) false

-- the parts that the flags of a test name are those that pass it
pub owners-as : (p : ℕ → Bool) (n : ℕ) → n ≤ 32 → filter_in (owner_at (as_owners p)) n 0 ≡ filter_in p n 0
owners-as p n h = filter_same (owner_at (as_owners p)) p n 0 (λ i l. owner-flag p i (omega arith))

-- ---- std's words for a test of a list's elements
pub any_listed : (p : ℕ → Bool) (l : List ℕ) → list_any p l ≡ any p l
unfolding any
any_listed p [] = refl
any_listed p (x ∷ l) = ap (λ (b : Bool). p x || b) (any_listed p l)

pub all_listed : (p : ℕ → Bool) (l : List ℕ) → list_all p l ≡ not (any (λ i. not (p i)) l)
unfolding any
all_listed p [] = refl
all_listed p (x ∷ l) = go (p x) (all_listed p l)
  where
    go : (b : Bool) → list_all p l ≡ not (any (λ i. not (p i)) l) → (b && list_all p l) ≡ not (not b || any (λ i. not (p i)) l)
    go true e = e
    go false e = refl
