use native.Mathlib.Omega.{arith}
use Prim.Native.Nat.{◌+◌, ◌<◌}
use mathlib.Core.Path.{◌≡◌, ap, ◌∙◌}
use mathlib.Core.List.{List}
use lib.ListN.{length, set, get_or}
use mir.Val.{Val}
use denote.Laws.{Is}
use Rattle.bodies.proofs.Known.{array_length}
use Rattle.mechanism.specs.contracts.rows.Row as T
use Rattle.mechanism.specs.declared.rows.Row.{Row}
use Rattle.record_rows.specs.contracts.PairRecords as S
use Rattle.record_rows.specs.declared.PairRecords.{PairRecords}
use Rattle.record_rows.proofs.Put.{put-more}
use Rattle.record_rows.proofs.put_records.Goals as goal

-- the array of the records has its declared length
records_long : (p : PairRecords) (vs : List Val) → Is S.the_row p vs → length p.row ≡ 784
records_long p vs h = array_length T.the_row 784 p.row _ h.1.1.0

pub loop-k-preserved : goal.loop-k-preserved
loop-k-preserved c =
    let s = c.args in
    let l = c.loop-k in
    let z = records_long s.p _ c.well_formed.1.1.0 in
    let h : l.k < length s.p.row = omega (arith, z) in
    ap (λ (o : List Row). set o (s.at + l.k) (get_or s.p.row l.k _)) l.invariant ∙ put-more s.out.now s.p.row s.at l.k _ h
