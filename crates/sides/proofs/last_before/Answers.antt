use Prim.Native.Nat.{◌-◌}
use native.Mathlib.Omega.{arith}
use mathlib.Core.Path.{sym, ap, ◌∙◌}
use borrow.Author.Tests.{lt-ltb}
use Rattle.laws.proofs.Choice.{cond_yes}
use Rattle.sides.specs.Features as F
use Rattle.sides.proofs.Sizes.{sized}
use Rattle.sides.proofs.Known.{runs_long}
use Rattle.sides.proofs.Walked.{run_at_lem}
use Rattle.sides.proofs.last_before.Goals as goal

pub last_seg-requires : goal.last_seg-requires
last_seg-requires c =
    let s = c in
    sized s.args.ts (s.args.k - 1) (omega arith) (runs_long s.args.ts _ s.well_formed.0) s.requires.1 s.requires.2

pub returns-then-k-gt0 : goal.returns-then-k-gt0
returns-then-k-gt0 c =
    let s = c in
    c.last_seg.ensures ∙ ap F.last_seg (sym (run_at_lem s.args.ts (s.args.k - 1) (omega arith))) ∙ sym (cond_yes _ _ (lt-ltb 0 s.args.k c.if-k-gt0.true))
