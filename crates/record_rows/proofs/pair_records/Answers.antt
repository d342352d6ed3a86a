use mathlib.Core.Path.{refl}
use Rattle.record_rows.proofs.Read.{pair-room, records_there, pair_read}
use Rattle.record_rows.proofs.pair_records.Goals as goal

pub put_pair-n-requires : goal.put_pair-n-requires
put_pair-n-requires c =
    let s = c.args in
    (c.requires.accepted, c.requires.there, pair-room s.m s.q s.margin s.i s.at s.grad.now s.slip.now c.requires _ _ refl refl)

pub records_from-requires : goal.records_from-requires
records_from-requires c =
    let s = c.args in
    records_there s.m s.q s.margin s.i s.at s.grad.now s.slip.now c.requires _ _ refl refl c.put_pair-n.ensures

pub returns : goal.returns
returns c =
    let s = c.args in
    pair_read s.m s.q s.margin s.i s.at s.grad.now s.slip.now c.requires _ _ refl refl c.put_pair-n.ensures c.records_from.ensures
