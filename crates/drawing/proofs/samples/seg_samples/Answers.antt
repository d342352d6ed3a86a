use native.Mathlib.Omega.{arith}
use native.Mathlib.Nat.{zero-add}
use mathlib.Core.Path.{◌∙◌}
use Rattle.std.proofs.Common.{rules}
use Rattle.bodies.specs.Pose.{world_of}
use Rattle.drawing.specs.Samples.{mouths_in}
use Rattle.drawing.proofs.Mouths.{samples_short}
use Rattle.drawing.proofs.samples.seg_samples.Goals as goal

pub returns : goal.returns
returns c =
    let s = c.args in
    let h = samples_short (mouths_in s.mouths.now) s.s in
    let e = c.put_seg.ensures.next in
    (e ∙ zero-add _, c.put_seg.ensures.written (world_of s.place) (λ p r k. search rules), omega arith)
