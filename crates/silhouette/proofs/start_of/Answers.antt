use native.Mathlib.Omega.{arith}
use Prim.Native.Nat.{◌+◌}
use mathlib.Core.Path.{◌≡◌, refl, sym, ap, ◌∙◌}
use Rattle.laws.specs.Loops.{fold_in}
use Rattle.laws.proofs.Sums.{sum_more}
use Rattle.mechanism.specs.Description.{segs_of, start_of_part}
use Rattle.silhouette.proofs.start_of.Goals as goal

pub loop-k-init : goal.loop-k-init
unfolding fold_in
loop-k-init c = refl

pub offset_bounds-ps-k : goal.offset_bounds-ps-k
offset_bounds-ps-k c = let h = c.requires.0.count in omega arith

pub bounds-ps-k : goal.bounds-ps-k
bounds-ps-k c = let h = c.requires.0.count in omega arith

pub overflow_add-at : goal.overflow_add-at
overflow_add-at c = let h = c.requires.0.all c.loop-k.k (omega arith) in let e = c.loop-k.invariant in omega arith

pub loop-k-preserved : goal.loop-k-preserved
loop-k-preserved c = ap (λ n. n + segs_of c.args.ps c.loop-k.k) c.loop-k.invariant ∙ sym (sum_more (segs_of c.args.ps) c.loop-k.k)

pub returns : goal.returns
returns c =
    let e : c.loop-k.k ≡ c.args.i = omega arith in
    c.loop-k.invariant ∙ ap (start_of_part c.args.ps) e
