use Rattle.std.proofs.lemmas.Result.{err_from_is_err_and}
use Rattle.mechanism.proofs.Known.{description_long}
use Rattle.overlap.proofs.Answers.{all-refused, pairs-few, all-answered}
use Rattle.overlap.proofs.overlap.Goals as goal

pub overlap_of_pairs-requires : goal.overlap_of_pairs-requires
overlap_of_pairs-requires c = (pairs-few c.args.m c.args.q c.fits.ensures c.call_checked.ensures c.in_ok-call_checked.was, description_long c.args.m _ c.well_formed.0)

pub returns-in_err-call_checked : goal.returns-in_err-call_checked
returns-in_err-call_checked c =
    let p = err_from_is_err_and c.from_residual.result c.from_residual.ensures.1 in
    rw (p.1, p.2) (all-refused c.args.m c.args.q c.fits.ensures c.call_checked.ensures c.in_err-call_checked.was)

pub returns : goal.returns
returns c = all-answered c.args.m c.args.q c.fits.ensures c.call_checked.ensures c.in_ok-call_checked.was c.overlap_of_pairs.ensures
