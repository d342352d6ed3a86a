use native.Mathlib.Omega.{arith}
use mathlib.Core.Path.{refl, ◌∙◌}
use lib.ListN.{replicate}
use Rattle.ieee.specs.Consts.{zero_f}
use Rattle.geometry.specs.Geometry.{vector_of}
use Rattle.sides.specs.Features.{faces_in, discs_in}
use Rattle.bearings.specs.Bearing.{ends_of, facing_of, stop_at}
use Rattle.bearings.proofs.Best.{best_written}
use Rattle.std.proofs.Common.{rules, tests}
use Rattle.bearings.proofs.stop_at.Goals as goal

pub returns : goal.returns
unfolding stop_at
returns g c =
    let s = c.args in
    let b = g.S.Side.features s.b.now.side.now in
    let score = facing_of s.b.now.place (vector_of s.r.normal) in
    let p = c.put_ends-n.ensures in
    let e = p.0 in
    let h = p.1 in
    c.best_face.ensures score (λ f x k. search (rules, tests, c.vector-normal.ensures))
    ∙ best_written (ends_of s.r.feature.b (discs_in b)) (replicate 56 (replicate 2 zero_f)) score (faces_in b) e (omega arith) p.2 refl
