use native.Mathlib.Omega.{arith}
use mathlib.Core.Path.{refl}
use Rattle.laws.proofs.Fill.{fill_from, fill_put}
use Rattle.drawing.proofs.Sides.{what_at, what_turn, what_done}
use Rattle.drawing.proofs.side_chosen.Goals as goal

pub loop-i-init : goal.loop-i-init
loop-i-init c = fill_from refl refl

pub bounds-what-i : goal.bounds-what-i
bounds-what-i c = let k = c.loop-i.invariant.long in omega arith

pub loop-i-preserved : goal.loop-i-preserved
loop-i-preserved c =
    let s = c in
    fill_put (omega arith) (what_turn s.args.ps s.args.u s.args.cuts c.loop-i.i _ (omega arith)
    (what_at s.args.ps s.args.u s.args.cuts c.loop-i.i c.what_is.ensures c.body_of_side-body.ensures c.has_own-own.ensures c.is_sampled.ensures
    c.is_own.ensures c.is_read_cut.ensures)) c.loop-i.invariant

pub returns : goal.returns
returns c =
    let s = c in
    what_done s.args.ps s.args.u s.args.cuts (omega arith) c.loop-i.invariant
