use Rattle.std.proofs.Common.{rules}
use native.Mathlib.Omega.{arith}
use mathlib.Core.Path.{◌≡◌, sym, ap, ◌∙◌}
use mathlib.Core.Bool.{cond}
use mathlib.Core.List.{◌++◌, append-nil}
use Rattle.laws.specs.Loops.{join_in}
use Rattle.mechanism.specs.declared.features.Piece.TheVariants as Piece
use Rattle.sides.specs.Features.{range_discs}
use Rattle.sides.specs.Features as F
use Rattle.sides.proofs.Growth.{grown-as, grown-then}
use Rattle.sides.proofs.Few.{steps_few}
use Rattle.sides.proofs.read_range.Goals.{then-meet, else-meet}
use Rattle.sides.proofs.read_range.Goals as goal

pub add-requires : goal.add-requires
add-requires c =
    let s = c.args in
    let y = c.read_steps-g.ensures.more_discs in
    let q = steps_few (F.run_of s.t) c.if-meet.first s.t.count in
    (omega arith, omega arith)

pub returns : goal.returns
unfolding range_discs
returns c =
    let s = c.args in
    let t = s.t in
    let e = c.meet.ensures ∙ ap (F.meets s.last) c.first_seg.ensures in
    let o : c.if-meet.first ≡ F.opening (F.run_of t) s.last = elim c.if-meet.branch [
      | then-meet w ↦ w.first-is ∙ ap (λ b. cond b s.last t.before) (sym w.if-meet.true ∙ e)
      | else-meet w ↦ w.first-is ∙ ap (λ b. cond b s.last t.before) (sym w.if-meet.false ∙ e)
    ] in
    grown-as (append-nil _)
    (ap (λ x. join_in (F.step_discs (F.run_of t) x) t.count 0 ++ F.placed_disc (Piece.Vertex t.part t.ends) c.end_disc.result) o
    ∙ ap (λ x. join_in (F.step_discs (F.run_of t) (F.opening (F.run_of t) s.last)) t.count 0 ++ x) c.end_disc.ensures)
    (grown-then c.read_steps-g.ensures (search rules))
