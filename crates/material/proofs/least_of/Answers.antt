use Prim.Native.Nat.{ℕ, ◌+◌, ◌-◌, ◌%◌, ◌<◌}
use mathlib.Core.Path.{◌≡◌, sym, ap, subst, ◌∙◌}
use mathlib.Core.Bool.{true, false, cond}
use mathlib.Core.Logic.{inl}
use mathlib.Core.List.{List, []}
use native.Mathlib.Nat.{sub-zero}
use native.Mathlib.Omega.{arith}
use lib.ListN.{length, get_or}
use lib.Ieee.{Float, is_nan, lt, le}
use Rattle.laws.specs.Lists.{list_in}
use Rattle.laws.proofs.Choice.{holds}
use Rattle.laws.proofs.Lists.{fold_on, fold_done}
use Rattle.ieee.specs.Num.{min_of}
use Rattle.ieee.proofs.MinRoot.{min_numbers, min_number}
use Rattle.geometry.specs.declared.Point.{Point}
use Rattle.material.specs.Material.{square_of, edges_of, point_of, points_of, Serves, least_in}
use Rattle.material.proofs.Parts.{row_edge, edges-of-rows}
use Rattle.material.proofs.Serves.{of_edge, edge-keeps, comes-early}
use Rattle.material.proofs.least_of.Goals as goal

-- a turn of the loop: the edge i is looked at
module _ (poly : List (List Float)) (p : Point) (from best : Float) (i : ℕ) (h : i < length poly) (number : is_nan best ≡ false)
    (inv : least_in p best (list_in (row_edge poly) (length poly - i) i) ≡ least_in p from (list_in (row_edge poly) (length poly) 0))
    {j : ℕ} {q next : Float} (wrapped : j ≡ (i + 1) % length poly)
    (squared : q ≡ square_of p (record { a = point_of (get_or poly i []); b = point_of (get_or poly j []) })) (chosen : next ≡ cond (lt q best) q best) where
  taken : min_of best (square_of p (row_edge poly i)) ≡ next
  taken =
      ap (min_of best) (sym (squared ∙ ap (λ (j : ℕ). square_of p (record { a = point_of (get_or poly i []); b = point_of (get_or poly j []) })) wrapped))
      ∙ min_numbers best q number ∙ sym chosen

  next-number : is_nan next ≡ false
  next-number = ap is_nan (sym taken) ∙ min_number best (square_of p (row_edge poly i)) number

  next-inv : least_in p next (list_in (row_edge poly) (length poly - (i + 1)) (i + 1)) ≡ least_in p from (list_in (row_edge poly) (length poly) 0)
  next-inv = fold_on (of_edge p) (row_edge poly) (length poly) i h taken ∙ inv

  early : (enough : Float) → le next enough ≡ true → Serves enough next (least_in p from (edges_of (points_of poly)))
  early enough t =
      subst (λ l. Serves enough next (least_in p from l)) (sym (edges-of-rows poly))
      (comes-early (of_edge p) enough (edge-keeps p enough) (list_in (row_edge poly) (length poly - (i + 1)) (i + 1)) (inl next-inv) (holds t))

pub loop-i-init : goal.loop-i-init
loop-i-init c = (c.requires, rw sub-zero)

pub returns-then-best-enough : goal.returns-then-best-enough
returns-then-best-enough c =
    let l = c.loop-i in
    let s = c.args in
    let w = c.wrap.ensures.0 in
    let q = c.square-q.ensures in
    let n : c.if-q-best.best ≡ cond (lt c.square-q.result l.best) c.square-q.result l.best = grind (arith, c.if-q-best.branch) in (
      early s.poly.now s.p s.from l.best l.i (omega arith) l.invariant.0 l.invariant.1 w q n s.enough c.if-best-enough.true,
      next-number s.poly.now s.p s.from l.best l.i (omega arith) l.invariant.0 l.invariant.1 w q n,
    )

pub loop-i-preserved : goal.loop-i-preserved
loop-i-preserved c =
    let l = c.loop-i in
    let s = c.args in
    let w = c.wrap.ensures.0 in
    let q = c.square-q.ensures in
    let n : c.if-q-best.best ≡ cond (lt c.square-q.result l.best) c.square-q.result l.best = grind (arith, c.if-q-best.branch) in (
      next-number s.poly.now s.p s.from l.best l.i (omega arith) l.invariant.0 l.invariant.1 w q n,
      next-inv s.poly.now s.p s.from l.best l.i (omega arith) l.invariant.0 l.invariant.1 w q n,
    )

pub returns : goal.returns
returns c =
    let l = c.loop-i in
    let s = c.args in (
      inl (sym (fold_done (of_edge s.p) (row_edge s.poly.now) l.best (length s.poly.now) l.i (omega arith)) ∙ l.invariant.1 ∙ ap (least_in s.p s.from) (sym (edges-of-rows s.poly.now))),
      l.invariant.0,
    )
