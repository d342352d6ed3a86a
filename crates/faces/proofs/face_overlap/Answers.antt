use Rattle.std.proofs.lemmas.Result.{err_from_is_err_and}
use Rattle.faces.proofs.Answered.{pair-few, is-answered, is-refused}
use Rattle.faces.proofs.face_overlap.Goals as goal

pub pair_at-requires : goal.pair_at-requires
pair_at-requires c = pair-few c.args.m c.args.q c.args.pair c.fits.ensures c.call_checked.ensures c.in_ok-call_checked.was

pub returns-in_err-call_checked : goal.returns-in_err-call_checked
returns-in_err-call_checked c =
    let p = err_from_is_err_and c.from_residual.result c.from_residual.ensures.1 in
    rw (p.1, p.2) (is-refused c.args.m c.args.q c.args.pair c.fits.ensures c.call_checked.ensures c.in_err-call_checked.was)

pub returns : goal.returns
returns c =
    is-answered c.args.m c.args.q c.args.pair c.fits.ensures c.call_checked.ensures c.in_ok-call_checked.was c.pair_at.ensures c.pair_features_at.ensures c.sides_overlap.ensures
