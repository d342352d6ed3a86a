-- A side of tables. Definitions only.
use Rattle.sides.specs.declared.SideFeatures.{SideFeatures}
use Rattle.strips.specs.Strips.{table_rows, features_by}
use Rattle.strips.specs.declared.held.TableSide.{TableSide}

-- its features, as one value
abbrev pub features_of : TableSide → SideFeatures
features_of s = features_by (table_rows s.tables) s.facts s.center
