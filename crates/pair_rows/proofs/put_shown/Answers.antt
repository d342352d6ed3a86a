use native.Mathlib.Omega.{arith}
use lib.ListN.{length}
use Rattle.laws.proofs.Choice.{and_no}
use Rattle.mechanism.specs.Rows.{lists_of}
use Rattle.pair_rows.specs.PairRows.{shown_of}
use Rattle.pair_rows.proofs.Behind.{small-sum, small_product, fits, fits-are, room-is, put-there-is, put-nothing, same_still}
use Rattle.pair_rows.proofs.put_shown.Goals as goal

pub overflow_add-end : goal.overflow_add-end
overflow_add-end c = let z = small-sum c.args.bodies.coords c.args.at (length c.args.candidates.now) c.if-coords-at.true in omega arith

pub overflow_mul-columns : goal.overflow_mul-columns
overflow_mul-columns c = let z = small_product c.args.bodies.coords c.args.at (length c.args.candidates.now) c.if-coords-at.true in omega arith

pub put_there-requires : goal.put_there-requires
put_there-requires c = fits-are c.args.bodies.coords c.args.at (length c.args.candidates.now) (lists_of c.args.rows.now) c.if-end-rows.true

pub returns-then-end-rows : goal.returns-then-end-rows
returns-then-end-rows c =
    let s = c.args in
    let cs = s.candidates.now in
    let there = room-is s.bodies.coords s.at (length cs) (lists_of s.rows.now) c.if-coords-at.true c.if-end-rows.true in
    record { written = put-there-is s.bodies s.q s.s cs (shown_of cs s.margin) there c.put_there.ensures.written; same = c.put_there.ensures.same }

pub returns-else-end-rows : goal.returns-else-end-rows
returns-else-end-rows c =
    let s = c.args in
    let cs = s.candidates.now in
    let l = lists_of s.rows.now in
    let none = room-is s.bodies.coords s.at (length cs) l c.if-coords-at.true c.if-end-rows.false in
    record { written = put-nothing s.bodies s.q s.s cs (shown_of cs s.margin) s.at l none; same = same_still }

pub returns-else-coords-at : goal.returns-else-coords-at
returns-else-coords-at c =
    let s = c.args in
    let cs = s.candidates.now in
    let l = lists_of s.rows.now in
    let none = and_no (fits s.bodies.coords s.at (length cs) l) c.if-coords-at.false in
    record { written = put-nothing s.bodies s.q s.s cs (shown_of cs s.margin) s.at l none; same = same_still }
