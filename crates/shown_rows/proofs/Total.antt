-- All rows are no more than the mechanism's bound. Assumes nothing.
use Prim.Native.Nat.{ℕ, zero, suc, ◌≤◌}
use native.Mathlib.Omega.{arith}
use mathlib.Core.List.{List}
use lib.Ieee.{Float}
use lib.ListN.{length, length-append}
use Rattle.laws.specs.Lists.{list_in, flat}
use Rattle.laws.proofs.Sums.{sum_first}
use Rattle.mechanism.specs.Description.{pair_at, sum_in}
use Rattle.mechanism.specs.declared.Mechanism.{Mechanism}
use Rattle.bodies.specs.declared.pose.Pose.{Pose}
use Rattle.mechanism.specs.declared.rows.Row.{Row}
use Rattle.sides.specs.Contacts.{pair_bound, mechanism_bound}
use Rattle.shown_rows.specs.Rows.{rows_of_pair, rows_of}
use Rattle.shown_rows.proofs.OfPair.{rows_few}

pub flat-few : (f : ℕ → List Row) (b : ℕ → ℕ) → ((i : ℕ) → length (f i) ≤ b i) → (k j : ℕ) → length (flat f (list_in (λ i. i) k j)) ≤ sum_in b k j
unfolding flat list_in
flat-few f b h zero j = omega arith
flat-few f b h (suc k) j =
    let a = length-append (f j) (flat f (list_in (λ i. i) k (suc j))) in
    let e = h j in
    let r = flat-few f b h k (suc j) in
    let s = sum_first b k j in
    omega (arith, a, e, r, s)

pub all-few : (m : Mechanism) (q : Pose) (margin : Float) → length (rows_of m q margin) ≤ mechanism_bound m
unfolding rows_of mechanism_bound
all-few m q margin =
    flat-few (rows_of_pair m q margin) (pair_bound m)
    (λ i. rows_few m.bodies m.parts m.outlines q (pair_at m.pairs i) i margin) m.pairs.count 0
