use Rattle.std.proofs.Common.{rules}
use Rattle.ieee.specs.Consts.{zero_f}
use Rattle.ieee.specs.Operators.{◌⊕◌, ◌⊖◌}
use Rattle.geometry.specs.Signed.{dot_of}
use Rattle.pair_rows.proofs.Along.{along-is}
use Rattle.pair_rows.proofs.put_along.Goals as goal

pub returns : goal.returns
returns c =
    let v = c.args.v in
    along-is (λ x k. x ⊕ dot_of v k.column) (λ x k. x ⊖ dot_of v k.column) _ _ zero_f c.args.at c.args.coords c.args.out.now _ _ _ c.requires.0 c.put_zeros.ensures
    (c.put_sums.ensures ◌⊕◌ (λ x y r e. search rules)) (c.put_sums-2.ensures ◌⊖◌ (λ x y r e. search rules))
