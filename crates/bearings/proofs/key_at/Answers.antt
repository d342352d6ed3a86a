use native.Mathlib.Omega.{arith}
use mathlib.Core.Path.{refl, ◌∙◌}
use lib.ListN.{replicate}
use Rattle.ieee.specs.Consts.{zero_f}
use Rattle.sides.specs.Features.{faces_in, discs_in}
use Rattle.bearings.specs.Bearing.{ends_of, reach_of, key_at}
use Rattle.bearings.proofs.Best.{best_written}
use Rattle.std.proofs.Common.{rules, tests}
use Rattle.bearings.proofs.key_at.Goals as goal

pub returns : goal.returns
unfolding key_at
returns g c =
    let s = c.args in
    let a = g.S.Side.features s.a.now.side.now in
    let score = reach_of s.a.now.place s.corner s.toward in
    let p = c.put_ends-n.ensures in
    let e = p.0 in
    let h = p.1 in
    c.best_face.ensures score (λ f x k. search (rules, tests))
    ∙ best_written (ends_of s.piece (discs_in a)) (replicate 56 (replicate 2 zero_f)) score (faces_in a) e (omega arith) p.2 refl
