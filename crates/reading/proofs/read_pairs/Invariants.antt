use Prim.Native.Nat.{ℕ, ◌<◌}
use mathlib.Core.Path.{◌≡◌}
use Rattle.reading.specs.declared.PairReading.{PairReading}
use Rattle.reading.proofs.OfPairs.{PairsOf}
use Rattle.reading.proofs.read_pairs.Given as goal

abbrev pub invariant-loop-i : goal.invariant-loop-i
invariant-loop-i g l =
    (one : ℕ → PairReading) → ((i : ℕ) (r : PairReading) → i < l.pairs → goal.F-post g l.read_pair i r → r ≡ one i) → PairsOf one l.pairs l.pair l.i
