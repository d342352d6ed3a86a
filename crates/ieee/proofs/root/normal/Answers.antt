use native.Mathlib.Omega.{arith}
use Rattle.ieee.proofs.Result.{normal_m, normal_j, normal_range, normal_moved, result_is, result_no_nan}
use Rattle.ieee.proofs.root.normal.Goals as goal

pub overflow_mul-m : goal.overflow_mul-m
overflow_mul-m c = let r = normal_range c.args.b c.requires.0 c.requires.1 in omega arith

pub significand-q-requires : goal.significand-q-requires
significand-q-requires c = record { in_range = normal_range c.args.b c.requires.0 c.requires.1; few_bits = c.guess.ensures }

pub float_from_bits-result : goal.float_from_bits-result
float_from_bits-result c =
    let b = c.args.b in
    result_no_nan b (normal_m b) (normal_j b) c.significand-q.result (omega arith) c.requires.1 (normal_moved b c.requires.0 c.requires.1) c.significand-q.ensures

pub returns : goal.returns
returns c =
    let b = c.args.b in
    result_is b (normal_m b) (normal_j b) c.significand-q.result (omega arith) c.requires.1 (normal_moved b c.requires.0 c.requires.1) c.significand-q.ensures
