use mathlib.Core.Path.{sym, ap, ◌∙◌}
use lib.Seq.{length-take-le}
use Rattle.strips.specs.Strips.{table_rows, side_at}
use Rattle.prepared_rows.proofs.FromRows.{written-few, put-from}
use Rattle.prepared_rows.proofs.put_pair_by.Goals as goal

pub slice_bounds-put_shown-end : goal.slice_bounds-put_shown-end
slice_bounds-put_shown-end c = written-few (table_rows c.args.asked.now.tables.now) c.args.asked.now.q c.args.i c.requires.1 c.pair_candidates_in-n.ensures

pub slice_bounds-put_shown-end-2 : goal.slice_bounds-put_shown-end-2
slice_bounds-put_shown-end-2 c = sym (length-take-le _ _ (written-few (table_rows c.args.asked.now.tables.now) c.args.asked.now.q c.args.i c.requires.1 c.pair_candidates_in-n.ensures))

pub returns : goal.returns
returns c =
    let k = c.args.asked.now in
    let t = table_rows k.tables.now in
    let written = put-from t k.q c.args.i c.requires.1 c.pair_candidates_in-n.ensures k.bodies.now k.margin
    (ap (λ f. f.body) c.facts.ensures.0 ∙ ap (λ n. (side_at t n).body) c.row_a.ensures)
    (ap (λ f. f.body) c.facts-2.ensures.0 ∙ ap (λ n. (side_at t n).body) c.row_b.ensures)
    c.requires.2.0 c.requires.2.1 c.requires.0 c.requires.2.2 c.put_shown.ensures.written in
    record { written = written; same = c.put_shown.ensures.same }
