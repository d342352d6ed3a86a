use native.Mathlib.Omega.{arith}
use mathlib.Core.Path.{◌∙◌, ap}
use mathlib.Core.List.{List}
use lib.Ieee.{Float}
use lib.Seq.{sets}
use Rattle.geometry.specs.declared.Point.{Point}
use Rattle.pair_rows.specs.PairRows.{along_of, left_of}
use Rattle.pair_rows.proofs.Along.{found-few, along-found, next_row}
use Rattle.pair_rows.proofs.put_columns.Goals as goal

pub overflow_mul-at : goal.overflow_mul-at
overflow_mul-at c = let r = next_row c.args.at c.args.bodies.coords _ c.requires.0 in omega arith

pub put_along-requires : goal.put_along-requires
put_along-requires c = (next_row c.args.at c.args.bodies.coords _ c.requires.0, found-few _ _ _ _ _ c.columns_at-ka.ensures, found-few _ _ _ _ _ c.columns_at-kb.ensures)

pub overflow_mul-at-2 : goal.overflow_mul-at-2
overflow_mul-at-2 c = let r = next_row c.args.at c.args.bodies.coords _ c.requires.1 in omega arith

pub put_along-requires-2 : goal.put_along-requires-2
put_along-requires-2 c = (next_row c.args.at c.args.bodies.coords _ c.requires.1, found-few _ _ _ _ _ c.columns_at-ka.ensures, found-few _ _ _ _ _ c.columns_at-kb.ensures)

pub returns : goal.returns
returns c =
    let s = c.args in
    let along : Point → List Float = λ v. along_of s.bodies s.q v s.c.near.point s.s.a s.s.b in (
      c.put_along.ensures ∙ ap (sets _ _) (along-found s.bodies s.q _ _ _ _ _ _ c.columns_at-ka.ensures c.columns_at-kb.ensures ∙ ap along c.vector-n.ensures),
      c.put_along-2.ensures ∙ ap (sets _ _) (along-found s.bodies s.q _ _ _ _ _ _ c.columns_at-ka.ensures c.columns_at-kb.ensures ∙ ap (λ v. along (left_of v)) c.vector-n.ensures),
    )
