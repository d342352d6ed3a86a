use native.Mathlib.Omega.{arith}
use native.Mathlib.Nat.{min-le_right}
use mathlib.Core.Path.{refl}
use Rattle.laws.proofs.Fill.{fill_from, fill_put}
use Rattle.mechanism.specs.Description.{segs_of}
use Rattle.drawing.proofs.Starts.{starts_first, starts_turn, starts_more, starts_done}
use Rattle.drawing.proofs.part_starts.Goals as goal

pub loop-i-init : goal.loop-i-init
loop-i-init c = (starts_first c.args.ps.now, omega arith, fill_from refl refl)

pub loop-i-preserved : goal.loop-i-preserved
loop-i-preserved c =
    let ps = c.args.ps.now in
    let i = c.loop-i.i in
    let v = c.loop-i.invariant in
    let e = c.min-at.ensures in
    let m = min-le_right (segs_of ps i) 48 in
    let w = v.1 in
    (starts_more ps i v.0 e, omega (arith, e, m, w), fill_put (omega arith) (starts_turn ps i _ (omega arith) v.0) v.2)

pub returns : goal.returns
returns c = starts_done c.args.ps.now (omega arith) c.loop-i.invariant.2
