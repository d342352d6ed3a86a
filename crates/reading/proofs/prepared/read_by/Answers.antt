use Prim.Native.Nat.{ℕ}
use lib.ListN.{length}
use mathlib.Core.Path.{ap, ◌∙◌}
use Rattle.std.proofs.Common.{rules}
use Rattle.governing.specs.Governing.{records_in}
use Rattle.mechanism.specs.Rows.{lists_of}
use Rattle.strips.specs.Strips.{table_rows}
use Rattle.reading.specs.Prepared.{pair_reading_in, pair_readings_in}
use Rattle.reading.specs.declared.Reading.{Reading}
use Rattle.reading.proofs.OfPairs.{all-records}
use Rattle.reading.proofs.prepared.read_by.Goals as goal

pub returns : goal.returns
returns c =
    let t = table_rows c.args.t.now in
    let q = c.args.q in
    let n = c.args.n in
    let l = lists_of c.args.rows.now in
    let k = records_in n (length l.places) (length l.values) in
    let made : ℕ → Reading = λ j. record { count = n; pairs = c.args.pairs; pair = pair_readings_in t q l.places l.values j c.args.pairs } in
    c.read_pairs.ensures (pair_reading_in t q l.places l.values k) (λ i r h e. search rules)
    ∙ ap made (all-records n (length l.places) (length l.values) c.requires.1 c.requires.2)
