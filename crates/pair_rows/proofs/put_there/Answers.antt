use native.Mathlib.Omega.{arith}
use mathlib.Core.Path.{sym, ap, ◌∙◌}
use Rattle.mechanism.specs.Rows.{lists_of}
use Rattle.showing.specs.Showing.{shown}
use Rattle.pair_rows.specs.PairRows.{shown_of, with_row}
use Rattle.pair_rows.proofs.Along.{along-long}
use Rattle.pair_rows.proofs.Behind.{still_same, same_still}
use Rattle.pair_rows.proofs.Listing.{listing_start, listing_room, listing_more, listing_skip, listing_end}
use Rattle.pair_rows.proofs.put_there.Goals as goal
use Rattle.pair_rows.proofs.put_there.Goals.{then-is_shown, else-is_shown}

pub loop-i-init : goal.loop-i-init
loop-i-init c = (listing_start _ _ _ _ _ _ _ _ _, same_still)

pub put_row-requires : goal.put_row-requires
put_row-requires c = listing_room c.loop-i.invariant.0 c.requires (omega arith) (sym c.is_shown.ensures ∙ c.if-is_shown.true)

pub overflow_add-to : goal.overflow_add-to
overflow_add-to c =
    let r = (listing_room c.loop-i.invariant.0 c.requires (omega arith) (sym c.is_shown.ensures ∙ c.if-is_shown.true)).places_room in
    let x = c.loop-i.invariant.0.placed.long in
    omega arith

pub loop-i-preserved : goal.loop-i-preserved
loop-i-preserved c = let s = c.args in elim c.if-is_shown.branch [
  | then-is_shown w ↦
      rw (w.rows-is, w.to-is) (
        listing_more c.loop-i.invariant.0 (omega arith) (sym c.is_shown.ensures ∙ w.if-is_shown.true) (along-long _ _ _ _ _ _) (along-long _ _ _ _ _ _)
            (w.put_row.ensures.written ∙ ap (λ x. with_row s.bodies s.q s.s x c.loop-i.to (lists_of c.loop-i.rows)) w.candidate.ensures),
        still_same c.loop-i.invariant.1 w.put_row.ensures.same,
      )
  | else-is_shown w ↦ rw (w.rows-is, w.to-is) (listing_skip c.loop-i.invariant.0 (omega arith) (sym c.is_shown.ensures ∙ w.if-is_shown.false), c.loop-i.invariant.1)
]

pub returns : goal.returns
unfolding shown shown_of
returns c = record { written = listing_end c.loop-i.invariant.0 (omega arith); same = c.loop-i.invariant.1 }
