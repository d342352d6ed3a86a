use Rattle.row_records.proofs.Answered.{pair-few, is-answered}
use Rattle.row_records.proofs.bearing_found.Goals as goal

pub pair_at-requires : goal.pair_at-requires
pair_at-requires c =
    let s = c.args in
    pair-few s.m s.q s.found s.pair c.fits.ensures c.call_checked.ensures c.in_ok-call_checked.was c.if-pair-m.true

pub returns-then-pair-m : goal.returns-then-pair-m
returns-then-pair-m c =
    let s = c.args in
    is-answered s.m s.q s.found s.pair c.fits.ensures c.call_checked.ensures c.in_ok-call_checked.was c.if-pair-m.true c.pair_at.ensures c.pair_features_at-f.ensures c.bearing_at.ensures
