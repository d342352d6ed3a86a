use native.Mathlib.Omega.{arith}
use Prim.Native.Nat.{◌≤◌}
use mathlib.Core.Path.{◌≡◌, sym, ap, ◌∙◌}
use lib.ListN.{length, length-map}
use Rattle.silhouette.specs.Silhouette.{turned_seg, revolved_of, outline_in, as_silhouette}
use Rattle.silhouette.proofs.Known.{outline-long}
use Rattle.silhouette.proofs.Walks.{held-long, revolved_law}
use Rattle.silhouette.proofs.revolved.Goals as goal

pub mirror-requires : goal.mirror-requires
mirror-requires c =
    let h = c.chain-c in
    let k = outline-long h.result _ h.type_inv in
    let e = h.ensures.0 in
    let n : h.result.count ≤ length h.result.seg = omega arith in
    let z : length (outline_in h.result) ≡ h.result.count = held-long _ _ n in
    let t : c.turned-t.result.count ≡ length (outline_in h.result) = ap (λ x. x.count) c.turned-t.ensures ∙ length-map (outline_in h.result) (turned_seg c.args.axis) in
    (omega arith, omega arith)

pub returns : goal.returns
returns c =
    let s = c in
    let h = c.chain-c in
    let k = outline-long h.result _ h.type_inv in
    let e = h.ensures.0 in
    let n : h.result.count ≤ length h.result.seg = omega arith in
    revolved_law s.args.axis (outline_in h.result) h.result.count c.turned-t.result c.mirror.result (sym (held-long _ _ n)) c.turned-t.ensures c.mirror.ensures.0 c.mirror.ensures.1 ∙ ap (λ l. as_silhouette (revolved_of s.args.axis l)) h.ensures.1
