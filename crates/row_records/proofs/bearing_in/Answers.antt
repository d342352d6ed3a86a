use Rattle.bearings.specs.Bearing.{row_at}
use Rattle.bearings.proofs.Answered.{pair-few, is-answered}
use Rattle.row_records.proofs.bearing_in.Goals as goal

pub pair_at-requires : goal.pair_at-requires
pair_at-requires c =
    let s = c.args in
    let r = s.rows.now in
    pair-few s.m s.q (row_at r.places.now r.values.now) r.count s.pair c.fits.ensures c.call_checked.ensures c.in_ok-call_checked.was c.if-pair-m.true

pub returns-then-pair-m : goal.returns-then-pair-m
returns-then-pair-m c =
    let s = c.args in
    let r = s.rows.now in
    is-answered s.m s.q (row_at r.places.now r.values.now) _ s.pair c.fits.ensures c.call_checked.ensures c.in_ok-call_checked.was c.if-pair-m.true c.pair_at.ensures
    c.pair_features_at-f.ensures c.governed.ensures
