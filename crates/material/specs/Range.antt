-- The range of the ordinates of points, and the ordinates that lie outside a range. Definitions only.
use Rattle.std.specs.Prelude.{Bool, cond, ◌||◌, List, Float}
use Rattle.std.specs.Float.{nan}
use Rattle.std.specs.Float.Ieee.{neg, lt, le}
use Rattle.laws.specs.Lists.{foldl}
use Rattle.ieee.specs.Consts.{infinity_f}
use Rattle.geometry.specs.declared.Point.{Point}
use Rattle.material.specs.declared.Range.{Range}
use Rattle.material.specs.Material.{points_of}

-- the lower of lo and an ordinate; a NaN where one of the two is a NaN
abbrev pub low_of : Float → Float → Float
low_of lo y = cond (le lo y) lo (cond (lt y lo) y nan)

-- the higher of hi and an ordinate; hi where one of the two is a NaN
abbrev pub high_of : Float → Float → Float
high_of hi y = cond (lt hi y) y hi

-- a range with one point more
abbrev pub range_with : Range → Point → Range
range_with r p = record { lo = low_of r.lo p.y; hi = high_of r.hi p.y }

-- the range of the ordinates of points in rows: from +infinity to -infinity for no point, then with one point more after the other, in order
unfoldable pub range_of : List (List Float) → Range
range_of l = foldl range_with (record { lo = infinity_f; hi = neg infinity_f }) (points_of l)

-- below the low end, or at the high end or above it
abbrev pub outside_of : Float → Float → Float → Bool
outside_of lo hi y = lt y lo || le hi y
