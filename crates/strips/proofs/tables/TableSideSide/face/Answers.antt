use native.Mathlib.Omega.{arith}
use mathlib.Core.Path.{◌∙◌}
use Rattle.strips.proofs.Sides.{faces_counted, face_held}
use Rattle.strips.proofs.tables.TableSideSide.face.Goals as goal

pub returns-then-i-faces : goal.returns-then-i-faces
returns-then-i-faces c =
    let s = c.args.self.now in
    let e = faces_counted s in
    c.face.ensures ∙ face_held s c.args.i (omega (arith, e, c.faces.ensures.0))
