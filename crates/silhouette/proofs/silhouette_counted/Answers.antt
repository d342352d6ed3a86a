use native.Mathlib.Omega.{arith}
use Prim.Native.Nat.{◌≤◌}
use mathlib.Core.Path.{refl, sym, ap, ◌∙◌}
use lib.ListN.{length}
use Rattle.silhouette.specs.Silhouette.{outline_in, as_silhouette}
use Rattle.silhouette.proofs.Known.{outline-long}
use Rattle.silhouette.proofs.Walks.{held-long, about-none, about-few, about-some}
use Rattle.silhouette.proofs.silhouette_counted.Goals as goal

pub returns-in-None : goal.returns-in-None
returns-in-None c =
    let s = c in
    c.plain.ensures ∙ ap as_silhouette (sym (about-none s.args.sweep (outline_in s.args.o) c.in-None.ensures refl))

pub returns-then-o-lt2 : goal.returns-then-o-lt2
returns-then-o-lt2 c =
    let s = c in
    let k = outline-long s.args.o _ s.well_formed.0 in
    let n : s.args.o.count ≤ length s.args.o.seg = omega arith in
    let z = held-long s.args.o.count s.args.o.seg n in
    c.no_silhouette.ensures ∙ ap as_silhouette (sym (about-few s.args.sweep (outline_in s.args.o) c.in-Some.ensures refl (omega arith)))

pub returns-else-o-lt2 : goal.returns-else-o-lt2
returns-else-o-lt2 c =
    let s = c in
    let k = outline-long s.args.o _ s.well_formed.0 in
    let n : s.args.o.count ≤ length s.args.o.seg = omega arith in
    let z = held-long s.args.o.count s.args.o.seg n in
    c.revolved.ensures ∙ ap as_silhouette (sym (about-some s.args.sweep (outline_in s.args.o) c.in-Some.ensures refl (omega arith)))
