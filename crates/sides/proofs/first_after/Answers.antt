use Prim.Native.Nat.{◌+◌}
use native.Mathlib.Omega.{arith}
use Rattle.sides.proofs.Sizes.{sized}
use Rattle.sides.proofs.Known.{runs_long}
use Rattle.sides.proofs.first_after.Goals as goal

pub first_seg-requires : goal.first_seg-requires
first_seg-requires c =
    let s = c in
    (sized s.args.ts (s.args.k + 1) (omega arith) (runs_long s.args.ts _ s.well_formed.0) s.requires.1 s.requires.2).0
