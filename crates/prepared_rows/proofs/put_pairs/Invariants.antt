use Rattle.mechanism.specs.Rows.{lists_of}
use Rattle.strips.specs.Strips.{table_rows}
use Rattle.candidates.specs.Prepared.{bound_in}
use Rattle.prepared_rows.specs.Prepared.{rows_from, grads_from, slips_from}
use Rattle.shown_rows.proofs.AllPairs.{AllPairs}
use Rattle.pair_rows.specs.PairRows.{SameArrays}
use Rattle.prepared_rows.proofs.put_pairs.Given as goal

abbrev pub invariant-loop-pair : goal.invariant-loop-pair
invariant-loop-pair l =
    let k = l.asked in
    let t = table_rows k.tables.now in
    let b = k.bodies.now in
    AllPairs (rows_from t k.q k.margin) (grads_from t b k.q k.margin) (slips_from t b k.q k.margin) (bound_in t) l.n b.coords
    (lists_of l.initial.rows) (lists_of l.rows) l.at l.pair
    × SameArrays l.initial.rows l.rows
