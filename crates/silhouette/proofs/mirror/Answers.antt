use native.Mathlib.Omega.{arith}
use Prim.Native.Nat.{ℕ, ◌+◌, ◌≤◌, ◌-◌}
use native.Mathlib.Nat.{add-zero, sub-zero, add_assoc}
use mathlib.Core.Path.{◌≡◌, refl, ap, ◌∙◌}
use mathlib.Core.List.{◌∷◌, map, reverse}
use lib.ListN.{length, take}
use lib.Seq.{take_all}
use Rattle.laws.proofs.Writing.{starts, puts, ends}
use Rattle.silhouette.specs.Silhouette.{boxed, reversed_of, mirrored, outline_in}
use Rattle.silhouette.proofs.Known.{outline-long, silhouette_long}
use Rattle.silhouette.proofs.Walks.{held-long, walk-down}
use Rattle.silhouette.proofs.mirror.Goals as goal

pub loop-i-init : goal.loop-i-init
loop-i-init c =
    let o = c.args.o in
    let k = outline-long o _ c.well_formed.0 in
    let n : o.count ≤ length o.seg = omega arith in
    let z = held-long o.count o.seg n in
    rw (add-zero, sub-zero) (starts (ap (λ m. map boxed (map (mirrored c.args.axis) (reverse m))) (take_all o.count (outline_in o) (omega arith))))

pub offset_bounds-seg-s : goal.offset_bounds-seg-s
offset_bounds-seg-s c =
    let k = silhouette_long c.args.s _ c.well_formed.1.1.0 in
    let w = c.loop-i.invariant.long in
    omega arith

pub bounds-seg-s : goal.bounds-seg-s
bounds-seg-s c =
    let k = silhouette_long c.args.s _ c.well_formed.1.1.0 in
    let w = c.loop-i.invariant.long in
    omega arith

pub loop-i-preserved : goal.loop-i-preserved
loop-i-preserved c =
    let o = c.args.o in
    let l = c.loop-i in
    let k = outline-long o _ c.well_formed.0 in
    let e : o.count - l.i ≡ o.count - 1 - l.i + 1 = omega arith in
    let d : o.count - 1 - l.i ≡ o.count - (l.i + 1) = omega arith in
    let n : o.count ≤ length o.seg = omega arith in
    let left = λ (m : ℕ). map boxed (map (mirrored c.args.axis) (reverse (take m (outline_in o)))) in
    rw (← add_assoc c.args.s.count l.i 1) (puts (ap left e ∙ walk-down (mirrored c.args.axis) o.seg o.count (o.count - 1 - l.i) _ n (omega arith) (c.reversed.ensures ∙ ap reversed_of c.about_axis.ensures) ∙ ap (λ (m : ℕ). boxed c.reversed.result ∷ left m) d) l.invariant)

pub returns : goal.returns
returns c =
    let o = c.args.o in
    let z : o.count - c.loop-i.i ≡ 0 = omega arith in
    (refl, ends (ap (λ i. map boxed (map (mirrored c.args.axis) (reverse (take i (outline_in o))))) z) c.loop-i.invariant)
