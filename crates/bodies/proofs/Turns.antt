-- The laws of a loop's turn, for the loops here and above.
use Rattle.laws.proofs.Loops.{any-yes, any-no, any-done, first-hit, first-miss, first_done, fold_turn, fold_done}

pub ruleset any_turns = (any-yes, any-no, any-done)

pub ruleset first_turns = (first-hit, first-miss, first_done)

pub ruleset fold_turns = (fold_turn, fold_done)
