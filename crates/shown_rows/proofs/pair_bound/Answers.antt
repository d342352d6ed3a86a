use mathlib.Core.Path.{ap, ◌∙◌}
use Rattle.sides.specs.Bounds.{row_bound}
use Rattle.shown_rows.proofs.Bound.{features_read, read_few}
use Rattle.shown_rows.proofs.pair_bound.Goals as goal

pub bound_by-requires : goal.bound_by-requires
bound_by-requires c =
    let f = read_few c.args.ps c.args.o c.args.p c.requires c.pair_features_at-f.ensures in
    (f.0.faces, f.0.discs, f.1.faces, f.1.discs)

pub returns : goal.returns
returns c = c.bound_by.ensures ∙ ap (λ f. row_bound c.args.p.geometry f.a f.b) (features_read c.args.ps c.args.o c.args.p c.requires c.pair_features_at-f.ensures)
