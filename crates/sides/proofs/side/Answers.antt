use native.Mathlib.Omega.{arith}
use mathlib.Core.Path.{sym, ap, subst, ◌∙◌}
use Rattle.mechanism.specs.Description.{part_at}
use Rattle.mechanism.specs.declared.features.Piece.TheVariants as Piece
use Rattle.sides.specs.Features as F
use Rattle.sides.specs.Features.{side_of}
use Rattle.sides.specs.Bounds.{Runs}
use Rattle.sides.proofs.Growth.{side-by}
use Rattle.sides.proofs.Sizes.{drawn-runs}
use Rattle.sides.proofs.side.Goals as goal

pub read_all-f-requires : goal.read_all-f-requires
read_all-f-requires c =
    let p = c.requires.1 in
    let s = c.args in
    let e = c.traversals_of.ensures in
    let k = p.ranges in
    (omega arith, subst Runs (sym e.1) (drawn-runs s.ps s.o s.u p))

pub offset_bounds-ps-i : goal.offset_bounds-ps-i
offset_bounds-ps-i c =
    let p = c.requires in
    let d = (p.1.drawn 0 p.1.some).part in
    let f = p.0.count in
    omega arith

pub bounds-ps-i : goal.bounds-ps-i
bounds-ps-i c =
    let p = c.requires in
    let d = (p.1.drawn 0 p.1.some).part in
    let f = p.0.count in
    omega arith

pub returns : goal.returns
unfolding side_of
returns c =
    let s = c.args in
    let first = (F.first_range s.u).part in
    let body = (part_at s.ps first).body in
    let ts = F.runs_in c.traversals_of.result in
    let e = c.read_all-f.ensures in
    side-by body (Piece.Center first) (F.faces_of ts) (F.discs_of ts) (e.faces.0, e.faces.1, e.discs.0, e.discs.1) c.center_at.ensures
    ∙ ap (λ l. F.side_from body (F.faces_of l) (F.discs_of l) (Piece.Center first) (F.center_at s.ps s.o s.u s.wanted)) c.traversals_of.ensures.1
