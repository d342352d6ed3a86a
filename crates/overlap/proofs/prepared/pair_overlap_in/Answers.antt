use native.Mathlib.Omega.{arith}
use Rattle.strips.specs.Strips.{table_rows}
use Rattle.overlap.proofs.PairRows.{pair-none}
use Rattle.overlap.proofs.prepared.pair_overlap_in.Goals as goal

pub returns : goal.returns
returns c =
    let a = c.args in
    let n = c.all_drawn-n.ensures.0 in
    pair-none (table_rows a.t.now) a.q a.pair (omega (arith, n))
