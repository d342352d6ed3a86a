use Prim.Native.Nat.{◌-◌}
use native.Mathlib.Omega.{arith}
use Rattle.mechanism.specs.Segments.{outlines_in}
use Rattle.sides.proofs.SameCenter.{center_started}
use Rattle.sides.proofs.center_in.Goals as goal

pub offset_bounds-ps-i : goal.offset_bounds-ps-i
offset_bounds-ps-i c =
    let p = c.requires in
    let d = (p.1.drawn 0 p.1.some).part in
    let f = p.0.count in
    omega arith

pub bounds-ps-i : goal.bounds-ps-i
bounds-ps-i c =
    let p = c.requires in
    let d = (p.1.drawn 0 p.1.some).part in
    let f = p.0.count in
    omega arith

pub offset_bounds-ps-j : goal.offset_bounds-ps-j
offset_bounds-ps-j c =
    let s = c in
    let some = s.requires.1.some in
    let d = (s.requires.1.drawn (s.args.u.count - 1) (omega arith)).part in
    let f = s.requires.0.count in
    omega arith

pub bounds-ps-j : goal.bounds-ps-j
bounds-ps-j c =
    let s = c in
    let some = s.requires.1.some in
    let d = (s.requires.1.drawn (s.args.u.count - 1) (omega arith)).part in
    let f = s.requires.0.count in
    omega arith

pub center-requires : goal.center-requires
center-requires c =
    let s = c in
    let some = s.requires.1.some in
    ((s.requires.1.drawn 0 some).some, (s.requires.1.drawn (s.args.u.count - 1) (omega arith)).some)

pub returns : goal.returns
returns c =
    let s = c in
    center_started s.args.ps (outlines_in s.args.segs.now) s.args.u s.args.wanted s.requires.0 s.requires.1 c.start_of_part.ensures c.start_of_part-2.ensures c.center.ensures
