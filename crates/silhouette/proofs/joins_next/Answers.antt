use native.Mathlib.Omega.{arith}
use Prim.Native.Nat.{◌+◌, ◌≤◌, ◌%◌}
use native.Mathlib.Nat.{mod-lt}
use lib.ListN.{length}
use Rattle.silhouette.proofs.Known.{outline-long}
use Rattle.silhouette.proofs.Walks.{held_at, held-long}
use Rattle.silhouette.proofs.joins_next.Goals as goal

pub offset_bounds-o-k : goal.offset_bounds-o-k
offset_bounds-o-k c =
    let h = mod-lt (c.args.i + 1) {m = c.args.o.count} (omega arith) in
    omega arith

pub bounds-o-k : goal.bounds-o-k
bounds-o-k c =
    let h = mod-lt (c.args.i + 1) {m = c.args.o.count} (omega arith) in
    omega arith

pub returns : goal.returns
returns c =
    let s = c in
    let k = outline-long s.args.o _ s.well_formed.0 in
    let n : s.args.o.count ≤ length s.args.o.seg = omega arith in
    let h = mod-lt (s.args.i + 1) {m = s.args.o.count} (omega arith) in
    let e = held_at s.args.o.count s.args.o.seg s.args.i n s.requires.0 in
    let f = held_at s.args.o.count s.args.o.seg ((s.args.i + 1) % s.args.o.count) n h in
    simp (held-long s.args.o.count s.args.o.seg n, e, f, c.same_point.ensures, c.start.ensures, c.end.ensures)
