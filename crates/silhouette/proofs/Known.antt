-- The arrays of the structs have their declared lengths. Assumes nothing.
use mathlib.Core.Path.{◌≡◌}
use mathlib.Core.List.{List}
use lib.ListN.{length}
use mir.Val.{Val}
use denote.Laws.{Is}
use Rattle.bodies.proofs.Known.{array_length}
use Rattle.mechanism.specs.contracts.part.OutlineSeg as G
use Rattle.silhouette.specs.declared.Outline.{Outline}
use Rattle.silhouette.specs.declared.SilhouetteSegs.{SilhouetteSegs}
use Rattle.silhouette.specs.contracts.Outline as O
use Rattle.silhouette.specs.contracts.SilhouetteSegs as S

pub outline-long : (s : Outline) (vs : List Val) → Is O.the_row s vs → length s.seg ≡ 48
outline-long s vs p = array_length G.the_row 48 s.seg _ p.1.1.1.0

pub silhouette_long : (s : SilhouetteSegs) (vs : List Val) → Is S.the_row s vs → length s.seg ≡ 94
silhouette_long s vs p = array_length G.the_row 94 s.seg _ p.1.1.1.0
