use Prim.Native.Nat.{◌+◌}
use native.Mathlib.Nat.{add-zero}
use mathlib.Core.Path.{sym, ap, ◌∙◌}
use mathlib.Core.List.{List, map}
use lib.ListN.{length}
use lib.Seq.{sets}
use Rattle.geometry.specs.declared.Point.{Point}
use Rattle.drawing.specs.Drawing.{row_of}
use Rattle.drawing.specs.Samples.{mouths_in}
use Rattle.drawing.proofs.Mouths.{seg-none, seg-some}
use Rattle.drawing.proofs.samples.put_seg.Goals as goal

pub returns-then-is_mouth : goal.returns-then-is_mouth
returns-then-is_mouth f c =
    let s = c.args in
    let e = seg-none (mouths_in s.mouths.now) s.s c.start.ensures c.end.ensures c.is_mouth.ensures c.if-is_mouth.true in
    record {
      next = sym (add-zero s.at) ∙ ap (λ (l : List Point). s.at + length l) (sym e);
      written = λ g h. ap (λ (l : List Point). sets s.samples.now s.at (map row_of (map g l))) (sym e);
    }

pub returns : goal.returns
returns f c =
    let s = c.args in
    let e = seg-some (mouths_in s.mouths.now) s.s c.start.ensures c.end.ensures c.is_mouth.ensures c.if-is_mouth.false in
    record {
      next = c.put_points.ensures.next ∙ ap (λ (l : List Point). s.at + length l) (sym e);
      written = λ g h. c.put_points.ensures.written g h ∙ ap (λ (l : List Point). sets s.samples.now s.at (map row_of (map g l))) (sym e);
    }
