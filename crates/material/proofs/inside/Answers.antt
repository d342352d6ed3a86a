use Prim.Native.Nat.{ℕ, ◌+◌, ◌-◌, ◌<◌}
use mathlib.Core.Path.{◌≡◌, sym, ap, ◌∙◌}
use mathlib.Core.Bool.{Bool, false, not, cond}
use mathlib.Core.List.{List, []}
use native.Mathlib.Omega.{arith}
use lib.Ieee.{Float}
use lib.ListN.{length, get_or}
use Rattle.laws.specs.Lists.{list_in, foldl}
use Rattle.laws.proofs.Choice.{cond_yes, cond_no}
use Rattle.laws.proofs.Lists.{fold_on, fold_done}
use Rattle.geometry.specs.declared.Point.{Point}
use Rattle.material.specs.Material.{cross_of, turned_by, inside_of, point_of, points_of}
use Rattle.material.proofs.Parts.{row_edge, edges-of-rows, wraps, wraps-over}
use Rattle.material.proofs.inside.Goals as goal
use Rattle.material.proofs.inside.Goals.{then-crosses, else-crosses}

-- whether the edge from corner i to corner j crosses the ray from p
abbrev crossed : Point → List (List Float) → ℕ → ℕ → Bool
crossed p l i j = cross_of p (record { a = point_of (get_or l i []); b = point_of (get_or l j []) })

-- the closing edge, taken after the others
closes : (p : Point) (l : List (List Float)) (i : ℕ) (odd : Bool) {next x : Bool} → 0 < length l → length l - 1 ≡ i → x ≡ crossed p l (length l - 1) 0
    → foldl (turned_by p) odd (list_in (row_edge l) (length l - i) i) ≡ foldl (turned_by p) false (list_in (row_edge l) (length l) 0)
    → cond x (not odd) odd ≡ next → next ≡ inside_of p (points_of l)
unfolding inside_of
closes p l i odd {next} h z e inv t =
    let n = length l in
    let k = n - 1 in
    let turned : turned_by p odd (row_edge l k) ≡ next =
    ap (λ (b : Bool). cond b (not odd) odd) (sym (e ∙ ap (crossed p l k) (wraps-over (k + 1) n (omega arith) (omega arith)))) ∙ t in
    sym (fold_done (turned_by p) (row_edge l) next n (k + 1) (omega arith)) ∙ fold_on (turned_by p) (row_edge l) n k (omega arith) turned
    ∙ ap (λ (j : ℕ). foldl (turned_by p) odd (list_in (row_edge l) (n - j) j)) z ∙ inv ∙ ap (foldl (turned_by p) false) (sym (edges-of-rows l))

pub returns-then-n-eq0 : goal.returns-then-n-eq0
unfolding inside_of foldl list_in
returns-then-n-eq0 c =
    let s = c.args in
    sym (ap (foldl (turned_by s.p) false) (edges-of-rows s.poly.now) ∙ ap (λ (n : ℕ). foldl (turned_by s.p) false (list_in (row_edge s.poly.now) n 0)) c.if-n-eq0.true)

pub loop-i-preserved : goal.loop-i-preserved
loop-i-preserved c =
    let s = c.args in
    let edge = row_edge s.poly.now c.loop-i.i in
    let e : c.crosses.result ≡ cross_of s.p edge =
    c.crosses.ensures ∙ ap (crossed s.p s.poly.now c.loop-i.i) (wraps (c.loop-i.i + 1) (length s.poly.now) (omega arith)) in
    let turned : turned_by s.p c.loop-i.odd edge ≡ c.if-crosses.odd =
    elim c.if-crosses.branch [
      | then-crosses w ↦ cond_yes _ _ (sym e ∙ w.if-crosses.true) ∙ sym w.odd-is
      | else-crosses w ↦ cond_no _ _ (sym e ∙ w.if-crosses.false) ∙ sym w.odd-is
    ] in
    fold_on (turned_by s.p) (row_edge s.poly.now) (length s.poly.now) c.loop-i.i (omega arith) turned ∙ c.loop-i.invariant

pub returns-then-crosses-2 : goal.returns-then-crosses-2
returns-then-crosses-2 c = closes c.args.p c.args.poly.now c.loop-i.i c.loop-i.odd (omega arith) (omega arith) c.crosses-2.ensures c.loop-i.invariant (cond_yes _ _ c.if-crosses-2.true)

pub returns : goal.returns
returns c = closes c.args.p c.args.poly.now c.loop-i.i c.loop-i.odd (omega arith) (omega arith) c.crosses-2.ensures c.loop-i.invariant (cond_no _ _ c.if-crosses-2.false)
