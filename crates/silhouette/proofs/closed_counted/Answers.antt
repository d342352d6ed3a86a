use native.Mathlib.Omega.{arith}
use Prim.Native.Nat.{◌≤◌}
use native.Mathlib.Nat.{sub-zero}
use mathlib.Core.Path.{◌≡◌, sym, ap, ◌∙◌}
use mathlib.Core.Bool.{true, false, not}
use lib.ListN.{length}
use Rattle.laws.specs.Loops.{any_in}
use Rattle.laws.proofs.Loops.{any-yes, any-no, any-done}
use Rattle.silhouette.specs.Silhouette.{joins_next, outline_in}
use Rattle.silhouette.proofs.Known.{outline-long}
use Rattle.silhouette.proofs.Walks.{held-long, closed-few, closed_is}
use Rattle.silhouette.proofs.closed_counted.Goals as goal

pub returns-then-o-lt2 : goal.returns-then-o-lt2
returns-then-o-lt2 c =
    let s = c in
    let k = outline-long s.args.o _ s.well_formed.0 in
    let n : s.args.o.count ≤ length s.args.o.seg = omega arith in
    let z = held-long s.args.o.count s.args.o.seg n in
    sym (closed-few (outline_in s.args.o) (omega arith))

pub loop-i-init : goal.loop-i-init
loop-i-init c = rw sub-zero

pub returns-then-not-joins_next : goal.returns-then-not-joins_next
returns-then-not-joins_next c =
    let s = c in
    let k = outline-long s.args.o _ s.well_formed.0 in
    let n : s.args.o.count ≤ length s.args.o.seg = omega arith in
    let z = held-long s.args.o.count s.args.o.seg n in
    let l = c.loop-i in
    let q : any_in (λ k. not (joins_next (outline_in s.args.o) k)) s.args.o.count 0 ≡ true = sym l.invariant ∙ any-yes (λ k. not (joins_next (outline_in s.args.o) k)) s.args.o.count l.i c.loop-i-test.true (ap not (sym c.joins_next.ensures) ∙ (ap not c.if-not-joins_next.true)) in
    sym (closed_is (outline_in s.args.o) z c.if-o-lt2.false q)

pub loop-i-preserved : goal.loop-i-preserved
loop-i-preserved c =
    let s = c in
    let l = c.loop-i in
    sym (any-no (λ k. not (joins_next (outline_in s.args.o) k)) s.args.o.count l.i c.loop-i-test.true (ap not (sym c.joins_next.ensures) ∙ (ap not c.if-not-joins_next.false))) ∙ l.invariant

pub returns : goal.returns
returns c =
    let s = c in
    let k = outline-long s.args.o _ s.well_formed.0 in
    let n : s.args.o.count ≤ length s.args.o.seg = omega arith in
    let z = held-long s.args.o.count s.args.o.seg n in
    let l = c.loop-i in
    let q : any_in (λ k. not (joins_next (outline_in s.args.o) k)) s.args.o.count 0 ≡ false = sym l.invariant ∙ any-done (λ k. not (joins_next (outline_in s.args.o) k)) s.args.o.count l.i c.loop-i-test.false in
    sym (closed_is (outline_in s.args.o) z c.if-o-lt2.false q)
