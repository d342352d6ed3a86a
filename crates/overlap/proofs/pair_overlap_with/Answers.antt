use native.Mathlib.Omega.{arith}
use mathlib.Core.Path.{sym, subst}
use Prim.Native.Nat.{ℕ, ◌≤◌}
use lib.ListN.{replicate, length-replicate}
use Rattle.ieee.specs.Consts.{zero_f}
use Rattle.overlap.proofs.Same.{answer-put}
use Rattle.overlap.proofs.pair_overlap_with.Goals as goal

pub returns : goal.returns
returns g c =
    let k = c.segs_counted.ensures in
    let room = subst (λ (n : ℕ). c.segs_counted.result ≤ n) (sym (length-replicate g.row.SEGS (replicate 8 zero_f))) (omega (arith, k.0, c.requires.0)) in
    answer-put c.args.m.now (replicate g.row.SEGS (replicate 8 zero_f)) c.requires.6 k room c.put_segs.ensures c.args.q c.args.pair c.pair_answer.ensures
