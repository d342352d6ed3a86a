-- The bounds of a pair and of a mechanism: how large they are. Assumes nothing.
use Prim.Native.Nat.{ℕ, ◌+◌, ◌*◌, ◌<◌, ◌≤◌}
use native.Mathlib.Omega.{arith}
use native.Mathlib.Nat.{mul-le-mul}
use mathlib.Core.Path.{◌≡◌, refl, sym, subst, ◌∙◌}
use mathlib.Core.Bool.{true}
use Rattle.laws.proofs.Choice.{cond_yes}
use Rattle.laws.proofs.Sums.{sum-part}
use Rattle.mechanism.specs.Check.{check_of, pair_drawn}
use Rattle.mechanism.specs.declared.Outlines.{Outlines}
use Rattle.mechanism.specs.declared.Parts.{Parts}
use Rattle.mechanism.specs.declared.pair.ContactPair.{ContactPair}
use Rattle.mechanism.specs.Description.{sum_in}
use Rattle.mechanism.specs.declared.Mechanism.{Mechanism}
use Rattle.mechanism.proofs.Checks.{accepted-few}
use Rattle.sides.specs.Contacts.{pair_bound, mechanism_bound, pair_features, pair_features_at, no_pair_features}
use Rattle.sides.specs.declared.contacts.PairFeatures.{PairFeatures}
use Rattle.sides.specs.declared.SideFeatures.{SideFeatures}
use Rattle.sides.specs.Sizes.{FewOnSide}
use Rattle.sides.proofs.Accepted.{are_drawn}
use Rattle.sides.proofs.Few.{accepted-bound, pair-few}
use Rattle.std.proofs.Common.{Ok}

pub products_small : (a b : SideFeatures) → (a.faces ≤ 12) × (a.discs ≤ 28) × (b.faces ≤ 12) × (b.discs ≤ 28)
    → (a.discs * b.faces ≤ 336) × (b.discs * a.faces ≤ 336) × (a.discs * b.discs ≤ 784)
products_small a b h =
    let p : a.discs * b.faces ≤ 28 * 12 = mul-le-mul h.1 h.2 in
    let q : b.discs * a.faces ≤ 28 * 12 = mul-le-mul h.3 h.0 in
    let r : a.discs * b.discs ≤ 28 * 28 = mul-le-mul h.1 h.3 in
    (omega (arith, p), omega (arith, q), omega (arith, r))

pub bound-small : (m : Mechanism) → check_of m ≡ Ok tt → mechanism_bound m ≤ 12544
bound-small m e =
    let b = accepted-bound m e in
    let c = (accepted-few m e).pairs.count in
    omega (arith, b, c)

-- the bounds of the first i pairs, and of one more
pub bounds-part : (m : Mechanism) → (i : ℕ) → i < m.pairs.count → sum_in (pair_bound m) i 0 + pair_bound m i ≤ mechanism_bound m
unfolding mechanism_bound
bounds-part m i h = sum-part (pair_bound m) i m.pairs.count h

-- as many rows as the bounds of the first i pairs
pub rows-small : (m : Mechanism) → check_of m ≡ Ok tt → (i : ℕ) → i < m.pairs.count → {at : ℕ} → at ≤ sum_in (pair_bound m) i 0 → at ≤ 12544
rows-small m e i h few =
    let b = bounds-part m i h in
    let s = bound-small m e in
    omega (arith, b, s, few)

pub bounds-all : (m : Mechanism) → sum_in (pair_bound m) m.pairs.count 0 ≡ mechanism_bound m
unfolding mechanism_bound
bounds-all m = refl

-- what a call has read of a drawn pair is the pair's features
pub features_read : (ps : Parts) (o : Outlines) (p : ContactPair) {f : PairFeatures} → pair_drawn ps p ≡ true → f ≡ pair_features_at ps o p → f ≡ pair_features ps o p
unfolding pair_features_at
features_read ps o p d e = e ∙ cond_yes (pair_features ps o p) no_pair_features d

-- how few faces and discs it has
pub read_few : (ps : Parts) (o : Outlines) (p : ContactPair) {f : PairFeatures} → pair_drawn ps p ≡ true → f ≡ pair_features_at ps o p → FewOnSide f.a × FewOnSide f.b
read_few ps o p d e =
    let w = are_drawn ps p d in
    let f = pair-few ps o p w.1 w.2 in
    subst (λ (x : PairFeatures). FewOnSide x.a × FewOnSide x.b) (sym (features_read ps o p d e)) (f.a, f.b)
