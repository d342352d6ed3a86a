use mathlib.Core.Path.{sym, ◌∙◌}
use lib.ListN.{length}
use Rattle.laws.proofs.Choice.{cond_yes, cond_no}
use Rattle.proximities.proofs.Wrote.{wrote_nothing, wrote_same}
use Rattle.candidates.proofs.Sides.{has_room}
use Rattle.candidates.proofs.pair_candidates.Goals as goal

pub drawn_candidates-requires : goal.drawn_candidates-requires
drawn_candidates-requires c = has_room c.args.ps c.args.p (length c.args.out.now) (sym c.candidate_room.ensures ∙ c.if-candidate_room.true)

pub returns-then-candidate_room : goal.returns-then-candidate_room
returns-then-candidate_room c = wrote_same (sym (cond_yes _ _ (sym c.candidate_room.ensures ∙ c.if-candidate_room.true))) c.drawn_candidates.ensures

pub returns : goal.returns
returns c = wrote_same (sym (cond_no _ _ (sym c.candidate_room.ensures ∙ c.if-candidate_room.false))) (wrote_nothing 0 c.args.out.now)
