use mathlib.Core.Path.{◌≡◌}
use lib.Seq.{sets}
use Rattle.row_records.specs.Records.{records_of}
use Rattle.row_records.proofs.put_records.Given as goal

abbrev pub invariant-loop-i : goal.invariant-loop-i
invariant-loop-i l = l.out ≡ sets l.initial.out 0 (records_of l.rows.places.now l.rows.values.now l.i)
