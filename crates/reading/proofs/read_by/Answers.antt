use Prim.Native.Nat.{ℕ}
use lib.ListN.{length}
use mathlib.Core.Path.{ap, ◌∙◌}
use Rattle.std.proofs.Common.{rules}
use Rattle.governing.specs.Governing.{records_in}
use Rattle.mechanism.proofs.Checks.{accepted-few}
use Rattle.mechanism.specs.Rows.{lists_of}
use Rattle.reading.specs.Reading.{pair_reading, pair_readings}
use Rattle.reading.specs.declared.Reading.{Reading}
use Rattle.reading.proofs.OfPairs.{all-records}
use Rattle.reading.proofs.read_by.Goals as goal

pub read_pairs-requires : goal.read_pairs-requires
read_pairs-requires c =
    let e = c.requires.0 in
    record { few = (accepted-few c.args.m.now e).pairs.count; one = λ i h. search rules }

pub returns : goal.returns
returns c =
    let m = c.args.m.now in
    let q = c.args.q in
    let n = c.args.n in
    let l = lists_of c.args.rows.now in
    let k = records_in n (length l.places) (length l.values) in
    let made : ℕ → Reading = λ j. record { count = n; pairs = m.pairs.count; pair = pair_readings m q l.places l.values j } in
    c.read_pairs.ensures (pair_reading m q l.places l.values k) (λ i r h e. search rules)
    ∙ ap made (all-records n (length l.places) (length l.values) c.requires.1 c.requires.2)
