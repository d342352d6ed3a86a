use Prim.Native.Nat.{◌+◌}
use native.Mathlib.Omega.{arith}
use Rattle.ieee.proofs.Values.{no_nan_pattern}
use Rattle.ieee.proofs.Result.{subnormal_moved, result_is, result_no_nan}
use Rattle.ieee.proofs.root.subnormal.Goals as goal

pub float_from_bits-v : goal.float_from_bits-v
float_from_bits-v c = let h = c.digits-v.ensures in no_nan_pattern (4607182418800017408 + c.digits-v.result) (omega arith)

pub float_from_bits-result : goal.float_from_bits-result
float_from_bits-result c =
    let n = c.normalized-n in
    let m = n.result.m in
    let j = n.result.j in
    let v = subnormal_moved c.args.b m j c.requires.1 n.ensures in
    result_no_nan c.args.b m j c.significand-q.result c.requires.0 (omega arith) v c.significand-q.ensures

pub returns : goal.returns
returns c =
    let n = c.normalized-n in
    let m = n.result.m in
    let j = n.result.j in
    let v = subnormal_moved c.args.b m j c.requires.1 n.ensures in
    result_is c.args.b m j c.significand-q.result c.requires.0 (omega arith) v c.significand-q.ensures
