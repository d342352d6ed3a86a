use Rattle.std.proofs.lemmas.Result.{err_from_is_err_and}
use mathlib.Core.Path.{◌∙◌}
use Rattle.mechanism.proofs.Known.{description_long}
use Rattle.overlap.proofs.Flags.{all_listed}
use Rattle.overlap.proofs.Answers.{parts-refused, parts-there, parts-answered}
use Rattle.overlap.proofs.parts_overlap.Goals as goal

pub overlap_of_parts-requires : goal.overlap_of_parts-requires
overlap_of_parts-requires c =
    let s = c.args in
    let p = parts-there s.m s.q c.fits.ensures s.a.now s.b.now (c.all_parts.ensures ∙ all_listed _ _) (c.all_parts-2.ensures ∙ all_listed _ _) c.call_checked.ensures c.in_ok-call_checked.was in
    (p.0, p.1, p.2, description_long s.m _ c.well_formed.0)

pub returns-in_err-call_checked : goal.returns-in_err-call_checked
returns-in_err-call_checked c =
    let s = c.args in
    let p = err_from_is_err_and c.from_residual.result c.from_residual.ensures.1 in
    rw (p.1, p.2) (parts-refused s.m s.q c.fits.ensures s.a.now s.b.now (c.all_parts.ensures ∙ all_listed _ _)
    (c.all_parts-2.ensures ∙ all_listed _ _) c.call_checked.ensures c.in_err-call_checked.was)

pub returns : goal.returns
returns c =
    let s = c.args in
    parts-answered s.m s.q c.fits.ensures s.a.now s.b.now (c.all_parts.ensures ∙ all_listed _ _)
    (c.all_parts-2.ensures ∙ all_listed _ _) c.call_checked.ensures c.in_ok-call_checked.was c.overlap_of_parts.ensures
