-- The arrays of the structs have their declared lengths. Assumes nothing.
use mathlib.Core.Path.{◌≡◌}
use mathlib.Core.List.{List}
use lib.ListN.{length}
use mir.Val.{Val}
use denote.Laws.{Is}
use Rattle.bodies.proofs.Known.{array_length}
use Rattle.mechanism.specs.declared.Mechanism.{Mechanism}
use Rattle.mechanism.specs.declared.Outlines.{Outlines}
use Rattle.mechanism.specs.contracts.part.OutlineSeg as G
use Rattle.mechanism.specs.contracts.Outlines as A
use Rattle.mechanism.specs.contracts.Mechanism as M

pub outlines-long : (s : Outlines) (vs : List Val) → Is A.the_row s vs → length s.seg ≡ 384
outlines-long s vs p = array_length G.the_row 384 s.seg _ p.1.1.0

pub description_long : (m : Mechanism) (vs : List Val) → Is M.the_row m vs → length m.outlines.seg ≡ 384
description_long m vs p = outlines-long m.outlines _ p.1.1.1.1.0
