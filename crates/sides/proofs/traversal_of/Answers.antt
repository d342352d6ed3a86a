use mathlib.Core.Path.{ap, ◌∙◌}
use Rattle.mechanism.specs.Description.{part_at}
use Rattle.mechanism.proofs.Known.{outlines-long}
use Rattle.sides.specs.Features as F
use Rattle.sides.proofs.Silhouettes.{read_within, read_few, read_segs}
use Rattle.sides.proofs.traversal_of.Goals as goal

pub traverse-requires : goal.traverse-requires
traverse-requires c =
    let s = c in
    let d = s.requires.1 in
    let k = outlines-long s.args.o _ s.well_formed.1.0 in
    let e = c.silhouette_at-sil.ensures in
    (d.some, read_within s.args.ps s.args.o k s.requires.0 s.args.range d e, read_few s.args.ps s.args.o k s.requires.0 s.args.range d e, d.few)

pub returns : goal.returns
returns c =
    let s = c in
    let k = outlines-long s.args.o _ s.well_formed.1.0 in
    let r = s.args.range in
    c.traverse.ensures ∙ ap (λ l. F.traverse_of r l (part_at s.args.ps r.part).role) (read_segs s.args.ps s.args.o k s.requires.0 r s.requires.1 c.silhouette_at-sil.ensures)
