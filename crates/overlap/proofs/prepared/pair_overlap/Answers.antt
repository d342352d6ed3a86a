use Rattle.std.proofs.lemmas.Result.{err_from_is_err_and}
use Prim.Native.Nat.{ℕ}
use mathlib.Core.Path.{◌≡◌, sym, ap, ◌∙◌}
use Rattle.bodies.specs.declared.Bodies.{Bodies}
use Rattle.bodies.specs.declared.pose.Pose.{Pose}
use Rattle.mechanism.specs.Check.{answer_of}
use Rattle.strips.specs.Strips.{TableRows, table_rows}
use Rattle.overlap.specs.Prepared.{pair_overlap_in, ask_checked, pair_overlap_answer_in}
use Rattle.overlap.proofs.prepared.pair_overlap.Goals as goal
use Rattle.std.proofs.Common.{Ok}
use Rattle.bodies.specs.Check.{Checked}

-- the answer by what the check was
answered : (t : TableRows) (b : Bodies) (n : ℕ) (q : Pose) (i : ℕ) {x c : Checked}
    → x ≡ ask_checked b n q i → x ≡ c → pair_overlap_answer_in t b n q i ≡ answer_of c (pair_overlap_in t q i)
unfolding pair_overlap_answer_in
answered t b n q i e f = ap (λ (k : Checked). answer_of k (pair_overlap_in t q i)) (sym e ∙ f)

pub returns-in_err-ask_checked : goal.returns-in_err-ask_checked
returns-in_err-ask_checked c =
    let a = c.args in
    let p = err_from_is_err_and c.from_residual.result c.from_residual.ensures.1 in
    rw (p.1, p.2) (sym (answered (table_rows a.t.now) a.bodies a.pairs a.q a.pair c.ask_checked.ensures c.in_err-ask_checked.was))

pub returns : goal.returns
returns c =
    let a = c.args in
    ap Ok c.pair_overlap_in.ensures
    ∙ sym (answered (table_rows a.t.now) a.bodies a.pairs a.q a.pair c.ask_checked.ensures c.in_ok-ask_checked.was)
