use native.Mathlib.Omega.{arith}
use Rattle.ieee.proofs.Halves.{square, excess, lower-fits, excess-is}
use Rattle.ieee.proofs.Steps.{around, guess_pos}
use Rattle.ieee.proofs.root.significand.Goals as goal

pub overflow_mul-s : goal.overflow_mul-s
overflow_mul-s c = omega (arith, square c.args.g c.requires.few_bits)

pub overflow_mul-h : goal.overflow_mul-h
overflow_mul-h c = omega (arith, square c.args.g c.requires.few_bits)

pub overflow_add-h : goal.overflow_add-h
overflow_add-h c = omega (arith, square c.args.g c.requires.few_bits)

pub overflow_mul-l-2 : goal.overflow_mul-l-2
overflow_mul-l-2 c = omega (arith, square c.args.g c.requires.few_bits)

pub overflow_add-l : goal.overflow_add-l
overflow_add-l c = omega (arith, square c.args.g c.requires.few_bits)

pub overflow_sub-d : goal.overflow_sub-d
overflow_sub-d c = lower-fits c.args.m c.args.g c.requires.few_bits c.if-h-m.true

pub overflow_sub-result-then-i-lt67 : goal.overflow_sub-result-then-i-lt67
overflow_sub-result-then-i-lt67 c =
    let m = c.args.m in
    let g = c.args.g in
    let p = guess_pos m g (excess m g) c.requires.in_range (excess-is m g c.requires.few_bits c.if-h-m.true) c.if-i-lt67.true in
    omega arith

pub returns-then-i-lt67 : goal.returns-then-i-lt67
returns-then-i-lt67 c =
    let m = c.args.m in
    let g = c.args.g in
    around m g (excess m g) c.requires.in_range c.requires.few_bits (excess-is m g c.requires.few_bits c.if-h-m.true) c.if-i-ge61.true c.if-i-lt67.true
