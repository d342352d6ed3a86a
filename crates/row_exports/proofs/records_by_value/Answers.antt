use lib.ListN.{replicate}
use Rattle.row_exports.proofs.Few.{put-taken}
use Rattle.row_exports.proofs.records_by_value.Goals as goal

pub returns : goal.returns
returns c =
    let r = c.args.rows.now in
    put-taken r.places.now r.values.now r.count (replicate 64 c.from-none.result) c.requires c.records.ensures.1
