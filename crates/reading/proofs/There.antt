-- What the answer of a reading holds of each pair, and of a number that is no pair's. Assumes nothing.
use Prim.Native.Nat.{ℕ, zero, suc, ◌+◌, ◌-◌, ◌<◌, ◌≤◌}
use native.Mathlib.Omega.{arith}
use native.Mathlib.Nat.{zero-add}
use mathlib.Core.Path.{◌≡◌, refl, ap, ◌∙◌}
use mathlib.Core.List.{List, ◌++◌}
use lib.ListN.{length, get_or, drop, replicate}
use lib.Seq.{get_or-append-add, get_or-drop}
use lib.Ieee.{Float}
use Rattle.laws.specs.Fill.{filled}
use Rattle.laws.specs.Lists.{list_in}
use Rattle.laws.proofs.Fill.{filled_is, get_d_filled}
use Rattle.laws.proofs.Lists.{list_get, list_length}
use Rattle.mechanism.specs.declared.Mechanism.{Mechanism}
use Rattle.bodies.specs.declared.pose.Pose.{Pose}
use Rattle.reading.specs.Reading.{no_pair_reading, pair_reading, pair_readings}
use Rattle.reading.specs.declared.PairReading.{PairReading}

get_same : {A : Type 0} (n i : ℕ) (d : A) → get_or (replicate n d) i d ≡ d
get_same zero i d = refl
get_same (suc n) zero d = refl
get_same (suc n) (suc i) d = get_same n i d

-- behind a list in an array stands what stood there
pub past-filled : {A : Type 0} (n : ℕ) (d : A) (l : List A) (i : ℕ) → length l ≤ n → length l ≤ i → get_or (filled n d l) i d ≡ d
past-filled {A} n d l i h k =
    let e : i ≡ length l + (i - length l) = omega arith in
    ap (λ (x : List A). get_or x i d) (filled_is n d l h)
    ∙ ap (λ (j : ℕ). get_or (l ++ drop (length l) (replicate n d)) j d) e
    ∙ get_or-append-add l (drop (length l) (replicate n d)) (i - length l) d
    ∙ get_or-drop (length l) (replicate n d) (i - length l) d
    ∙ get_same n (length l + (i - length l)) d

module _ (m : Mechanism) (q : Pose) (places : List (List ℕ)) (values : List (List Float)) (n i : ℕ) (few : m.pairs.count ≤ 16) where
  abbrev of_pair : ℕ → PairReading
  of_pair = pair_reading m q places values n

  pub pair-there : i < m.pairs.count → get_or (pair_readings m q places values n) i no_pair_reading ≡ pair_reading m q places values n i
  pair-there h =
      let k = list_length of_pair m.pairs.count 0 in
      get_d_filled 16 no_pair_reading (list_in of_pair m.pairs.count 0) i no_pair_reading (omega (arith, k)) (omega (arith, k))
      ∙ list_get of_pair no_pair_reading m.pairs.count 0 i h
      ∙ ap of_pair (zero-add i)

  pub pair-not_there : m.pairs.count ≤ i → get_or (pair_readings m q places values n) i no_pair_reading ≡ no_pair_reading
  pair-not_there h =
      let k = list_length of_pair m.pairs.count 0 in
      past-filled 16 no_pair_reading (list_in of_pair m.pairs.count 0) i (omega (arith, k)) (omega (arith, k))
