use native.Mathlib.Omega.{arith}
use mathlib.Core.Path.{◌≡◌, sym, ap, ◌∙◌}
use lib.ListN.{length}
use Rattle.governing.proofs.Entries.{row_room, copied_start, copied_long, copied_more, copied_ends, entries_there, no_row}
use Rattle.governing.proofs.row_entries.Goals as goal
use Rattle.std.proofs.Common.{Ok}

pub overflow_mul-at : goal.overflow_mul-at
overflow_mul-at c =
    let s = c.args in
    let r = row_room (length s.entries.now) s.coords s.n s.i (sym c.row_there.ensures ∙ c.if-not-row_there.false) in
    omega arith

pub loop-k-init : goal.loop-k-init
loop-k-init c = copied_start _ _ _ _ (sym c.row_there.ensures ∙ c.if-not-row_there.false)

pub bounds-entry-k : goal.bounds-entry-k
bounds-entry-k c = let w = c.loop-k.invariant in let e = copied_long w in omega arith

pub loop-k-preserved : goal.loop-k-preserved
loop-k-preserved c = copied_more c.loop-k.invariant c.loop-k-test.true

pub returns : goal.returns
returns c =
    let s = c.args in
    let e : c.loop-k.k ≡ s.coords = omega arith in
    ap (λ l. Ok (record { count = s.coords; entry = l })) (copied_ends c.loop-k.invariant e)
    ∙ sym (entries_there _ _ _ _ (sym c.row_there.ensures ∙ c.if-not-row_there.false))

pub returns-then-not-row_there : goal.returns-then-not-row_there
returns-then-not-row_there c = sym (no_row _ _ _ _ (sym c.row_there.ensures ∙ c.if-not-row_there.true))
