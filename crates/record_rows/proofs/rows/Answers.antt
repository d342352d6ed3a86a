use mathlib.Core.Path.{sym, ap, ◌∙◌}
use lib.ListN.{length}
use lib.Seq.{sets}
use Rattle.std.proofs.Common.{Ok}
use Rattle.record_rows.proofs.First.{all-rows, all-grads, all-slips}
use Rattle.record_rows.proofs.rows.Goals as goal

pub put_pairs-requires : goal.put_pairs-requires
put_pairs-requires c = sym c.rows_checked.ensures ∙ c.in_ok-rows_checked.was

pub returns : goal.returns
returns c =
    let s = c.args in
    let e = sym c.rows_checked.ensures ∙ c.in_ok-rows_checked.was in
    let put = c.put_pairs.ensures in
    record {
      value = rw e (ap (λ k. Ok k) (put.0 ∙ ap length (all-rows s.m s.q s.margin)));
      out_after = rw e (put.1 ∙ ap (sets s.out.now 0) (all-rows s.m s.q s.margin));
      grad_after = rw e (put.2 ∙ ap (sets s.grad.now 0) (all-grads s.m s.q s.margin));
      slip_after = rw e (put.3 ∙ ap (sets s.slip.now 0) (all-slips s.m s.q s.margin));
    }
