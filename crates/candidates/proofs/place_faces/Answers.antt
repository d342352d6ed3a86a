use Rattle.std.proofs.Common.{rules}
use lib.ListN.{get_or}
use Rattle.sides.specs.Features.{faces_in, no_face}
use Rattle.candidates.specs.Candidates.{place_face}
use Rattle.candidates.proofs.Placed.{placed-taken}
use Rattle.candidates.proofs.place_faces.Goals as goal

pub returns-clause-placed : goal.returns-clause-placed
returns-clause-placed g c =
    let s = g.S.Side.features c.args.s.now in
    let p = c.args.place in
    let a = c.put_front.ensures (λ i. place_face p (get_or (faces_in s) i no_face)) (λ i x h k. search rules) in
    placed-taken (place_face p) (faces_in s) no_face _ c.faces-faces.ensures.0 (search rules) a
