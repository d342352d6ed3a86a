use mathlib.Core.Path.{ap, ◌∙◌}
use mathlib.Core.List.{List, map}
use lib.Seq.{sets}
use Rattle.geometry.specs.declared.Point.{Point}
use Rattle.drawing.specs.Drawing.{row_of}
use Rattle.drawing.proofs.Mouths.{line-points, line-count}
use Rattle.drawing.proofs.samples.put_points.Goals as goal

pub returns-in-Line : goal.returns-in-Line
returns-in-Line f c =
    let s = c.args in
    record {
      next = line-count s.at c.in-Line.is c.put_line.ensures.next;
      written = λ g h. c.put_line.ensures.written g h ∙ ap (λ (l : List Point). sets s.samples.now s.at (map row_of (map g l))) (line-points c.in-Line.is);
    }
