use mathlib.Core.List.{List}
use mathlib.Core.Path.{ap}
use Rattle.reading.specs.declared.PairReading.{PairReading}
use Rattle.reading.proofs.OfPairs.{of-start, of-turn, of_end}
use Rattle.reading.proofs.read_pairs.Goals as goal

pub loop-i-init : goal.loop-i-init
loop-i-init g c one reads = of-start _ _ c.no_pair-pair.ensures

pub loop-i-preserved : goal.loop-i-preserved
loop-i-preserved g c one reads =
    let h = c.loop-i-test.true in
    of-turn _ _ c.loop-i.i h (reads c.loop-i.i _ h c.read_pair.ensures) (c.loop-i.invariant one reads)

pub returns : goal.returns
returns g c one reads =
    let a = c.args in
    ap (λ (x : List PairReading). record { count = a.n; pairs = a.pairs; pair = x }) (of_end _ _ c.loop-i.i c.loop-i-test.false (c.loop-i.invariant one reads))
