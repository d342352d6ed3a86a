-- Every side of an accepted description is drawn: refusals 3 and 8 leave it so. Assumes nothing.
use Prim.Native.Nat.{ℕ, ◌<◌, ◌≤◌}
use native.Mathlib.Omega.{arith}
use mathlib.Core.Path.{◌≡◌}
use mathlib.Core.Bool.{true, false, not, ◌&&◌}
use lib.Dec.{ltb}
use borrow.Author.Tests.{ltb-true, ltb-false, leb-true}
use Rattle.laws.proofs.Choice.{neither, both, not_yes}
use Rattle.laws.proofs.Sums.{sum-part}
use Rattle.mechanism.specs.Check.{parts_over, side_over, part_draws, range_drawn, check_of, side_drawn, pair_drawn, FewParts}
use Rattle.mechanism.specs.Description.{part_at, pair_at, range_at, range_length, side_length}
use Rattle.mechanism.specs.declared.Mechanism.{Mechanism}
use Rattle.mechanism.specs.declared.Parts.{Parts}
use Rattle.mechanism.specs.declared.pair.ContactPair.{ContactPair}
use Rattle.mechanism.specs.declared.pair.Surface.{Surface}
use Rattle.mechanism.proofs.Checks.{accepted-sides, within-limits}
use Rattle.mechanism.proofs.Drawn.{RangesDrawn, side-ranges, accepted-ranges_a, accepted-ranges_b}
use Rattle.sides.specs.Bounds.{DrawnRange, DrawnSide}
use Rattle.sides.specs.Contacts.{DrawnPairs}
use Rattle.std.proofs.Common.{Ok}

module _ (ps : Parts) (u : Surface) where
  drawn-range : (k : ℕ) → k < u.count → side_length u ≤ 12 → range_drawn ps (range_at u k) ≡ true → DrawnRange ps (range_at u k)
  drawn-range k h few d =
      let r = range_at u k in
      let a = both (ltb r.part ps.count) (part_draws (part_at ps r.part) r) d in
      let b = both (ltb r.start r.end) _ a.1 in
      let s = sum-part (λ i. range_length (range_at u i)) k u.count h in
      record {
        part = ltb-true r.part ps.count a.0;
        some = ltb-true r.start r.end b.0;
        within = leb-true r.end _ b.1;
        few = omega arith;
      }

  drawn-side : RangesDrawn ps u → side_over u ≡ false → DrawnSide ps u
  drawn-side d e =
      let n = neither (ltb 4 u.count) (ltb 12 (side_length u)) e in
      let few : side_length u ≤ 12 = ltb-false 12 (side_length u) n.1 in
      record {
        some = d.some;
        ranges = ltb-false 4 u.count n.0;
        drawn = λ k h. drawn-range k h few (d.each k h);
        few = few;
      }

pub accepted-drawn : (m : Mechanism) → check_of m ≡ Ok tt → DrawnPairs m.parts m.pairs
accepted-drawn m e = record {
  a = λ i h. drawn-side m.parts (pair_at m.pairs i).a (accepted-ranges_a m e i h) (accepted-sides m e i h).0;
  b = λ i h. drawn-side m.parts (pair_at m.pairs i).b (accepted-ranges_b m e i h) (accepted-sides m e i h).1;
}

-- a side that 3, 8 and 9 let pass
pub is-drawn : (ps : Parts) (u : Surface) → side_drawn ps u ≡ true → FewParts ps × DrawnSide ps u
unfolding side_drawn
is-drawn ps u e =
    let b = both (not (parts_over ps) && not (side_over u)) _ e in
    let c = both (not (parts_over ps)) (not (side_over u)) b.0 in
    ((within-limits ps u b.0).0, drawn-side ps u (side-ranges ps u b.1) (not_yes (side_over u) c.1))

-- the two sides of a pair that is drawn
pub are_drawn : (ps : Parts) (p : ContactPair) → pair_drawn ps p ≡ true → FewParts ps × DrawnSide ps p.a × DrawnSide ps p.b
are_drawn ps p e =
    let b = both (side_drawn ps p.a) (side_drawn ps p.b) e in
    let x = is-drawn ps p.a b.0 in
    (x.0, x.1, (is-drawn ps p.b b.1).1)
