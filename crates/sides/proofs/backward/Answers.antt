use Prim.Native.Nat.{◌+◌, ◌-◌}
use native.Mathlib.Omega.{arith}
use native.Mathlib.Nat.{mod-lt}
use Rattle.silhouette.proofs.Known.{silhouette_long}
use Rattle.sides.proofs.Walked.{backward_run}
use Rattle.sides.proofs.backward.Goals as goal

pub offset_bounds-sil-i : goal.offset_bounds-sil-i
offset_bounds-sil-i c =
    let s = c.args in
    let h = mod-lt (s.range.start + s.sil.count - 1) {m = s.sil.count} (omega arith) in
    omega arith

pub bounds-sil-i : goal.bounds-sil-i
bounds-sil-i c =
    let s = c.args in
    let h = mod-lt (s.range.start + s.sil.count - 1) {m = s.sil.count} (omega arith) in
    omega arith

pub offset_bounds-sil-j : goal.offset_bounds-sil-j
offset_bounds-sil-j c =
    let s = c.args in
    let h = mod-lt s.range.end {m = s.sil.count} (omega arith) in
    omega arith

pub bounds-sil-j : goal.bounds-sil-j
bounds-sil-j c =
    let s = c.args in
    let h = mod-lt s.range.end {m = s.sil.count} (omega arith) in
    omega arith

pub returns : goal.returns
returns c =
    let s = c in
    let l = silhouette_long s.args.sil _ s.well_formed.1.0 in
    backward_run s.args.range s.args.sil c.backward_steps-s.result (omega arith) s.requires.0 s.requires.1 c.backward_steps-s.ensures.0
    c.run_back.result c.run_back-2.result c.backward_steps-s.ensures.1 c.run_back.ensures c.run_back-2.ensures
