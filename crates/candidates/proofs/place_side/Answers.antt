use Rattle.std.proofs.Common.{rules}
use mathlib.Core.Path.{ap, ◌∙◌}
use mathlib.Core.List.{map}
use lib.ListN.{get_or}
use Rattle.bodies.specs.Pose.{placement_at}
use Rattle.sides.specs.Features.{faces_in, discs_in, no_disc}
use Rattle.candidates.specs.Candidates.{place_face, place_disc}
use Rattle.candidates.proofs.Placed.{placed-taken}
use Rattle.candidates.proofs.place_side.Goals as goal

pub returns-clause-placed : goal.returns-clause-placed
returns-clause-placed g c =
    let s = g.S.Side.features c.args.s.now in
    let p = c.placement_at-place.result in
    let b = c.put_front.ensures (λ i. place_disc p (get_or (discs_in s) i no_disc)) (λ i x h k. search rules) in
    let e = c.placement_at-place.ensures ∙ ap (placement_at c.args.q) c.body.ensures in (
      c.place_faces-out.ensures.placed ∙ ap (λ z. map (place_face z) (faces_in s)) e,
      placed-taken (place_disc p) (discs_in s) no_disc _ c.discs-discs.ensures.0 (search rules) b ∙ ap (λ z. map (place_disc z) (discs_in s)) e,
    )
