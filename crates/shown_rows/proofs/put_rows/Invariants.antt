use mathlib.Core.Path.{◌≡◌}
use lib.ListN.{length}
use Rattle.mechanism.specs.Rows.{lists_of}
use Rattle.sides.specs.Contacts.{pair_bound}
use Rattle.shown_rows.specs.Rows.{rows_of_pair, grads_of_pair, slips_of_pair}
use Rattle.shown_rows.proofs.AllPairs.{AllPairs}
use Rattle.pair_rows.specs.PairRows.{SameArrays}
use Rattle.shown_rows.proofs.put_rows.Given as goal

abbrev pub invariant-loop-i : goal.invariant-loop-i
invariant-loop-i l =
    (length l.candidates ≡ 784)
    × AllPairs (rows_of_pair l.m l.q l.margin) (grads_of_pair l.m l.q l.margin) (slips_of_pair l.m l.q l.margin) (pair_bound l.m) l.m.pairs.count l.m.bodies.coords
    (lists_of l.initial.rows) (lists_of l.rows) l.at l.i
    × SameArrays l.initial.rows l.rows
