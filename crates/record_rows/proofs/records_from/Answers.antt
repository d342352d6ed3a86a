use native.Mathlib.Omega.{arith}
use native.Mathlib.Nat.{sub-zero}
use Prim.Native.Nat.{◌+◌, ◌-◌}
use mathlib.Core.Path.{◌≡◌, refl, sym, ap, ◌∙◌}
use mathlib.Core.List.{◌∷◌}
use lib.ListN.{take}
use Rattle.laws.specs.Lists.{list_in}
use Rattle.laws.proofs.Lists.{list_turn, list_done}
use Rattle.laws.proofs.Fill.{fill_from, fill_put, fill_end}
use Rattle.record_rows.specs.Steps.{row_at}
use Rattle.record_rows.proofs.records_from.Goals as goal

pub loop-i-init : goal.loop-i-init
loop-i-init c = fill_from refl (rw sub-zero)

pub loop-i-preserved : goal.loop-i-preserved
loop-i-preserved c =
    let s = c.args in
    let turned = list_turn (row_at s.places.now s.values.now) s.n c.loop-i.i (omega arith) in
    fill_put (omega arith) (turned ∙ ap (λ r. r ∷ list_in (row_at s.places.now s.values.now) (s.n - (c.loop-i.i + 1)) (c.loop-i.i + 1)) (sym c.from.ensures)) c.loop-i.invariant

pub returns : goal.returns
returns c =
    let s = c in
    let e : c.loop-i.i ≡ s.args.n = omega arith in
    (refl, ap (λ k. take k c.loop-i.row) (sym e) ∙ fill_end (list_done (row_at s.args.places.now s.args.values.now) s.args.n c.loop-i.i (omega arith)) c.loop-i.invariant)
