use lib.ListN.{length}
use Rattle.mechanism.specs.Rows.{lists_of, place_row, value_row}
use Rattle.showing.specs.Showing.{shows}
use Rattle.pair_rows.specs.PairRows.{candidate_at, gap_at, decides_at, alike_at, row_of, grad_in, slip_in, SameArrays}
use Rattle.pair_rows.proofs.Listing.{Listing}
use Rattle.pair_rows.proofs.put_there.Given as goal

abbrev pub invariant-loop-i : goal.invariant-loop-i
invariant-loop-i l =
    let cs = l.candidates in
    Listing (λ j. place_row (row_of l.s.pair (candidate_at cs j))) (λ j. value_row (row_of l.s.pair (candidate_at cs j)))
    (λ j. grad_in l.bodies l.q l.s (candidate_at cs j)) (λ j. slip_in l.bodies l.q l.s (candidate_at cs j))
    (shows (gap_at cs) (decides_at cs) (alike_at cs) (length cs) l.margin) (length cs) l.bodies.coords l.at
    (lists_of l.initial.rows) (lists_of l.rows) l.to l.i
    × SameArrays l.initial.rows l.rows
