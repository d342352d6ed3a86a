-- The segments of all outlines as rows of numbers in a lent array: what the rows say. Definitions only.
use Rattle.std.specs.Prelude.{ℕ, ◌<◌, ◌≡◌, Bool, ◌&&◌, cond, List, [], ◌∷◌, map, leb, get_or, take, Float}
use Rattle.std.specs.Float.{nan}
use Rattle.std.specs.Float.Ieee.{eq}
use Rattle.ieee.specs.Consts.{zero_f, one_f}
use Rattle.geometry.specs.declared.Dir.{Dir}
use Rattle.geometry.specs.declared.Point.{Point}
use Rattle.geometry.specs.declared.Seg.{Seg}
use Rattle.geometry.specs.declared.Seg.TheVariants.{Line, Arc}
use Rattle.bodies.specs.declared.Bodies.{Bodies}
use Rattle.mechanism.specs.Description.{seg_at, start_of_part}
use Rattle.mechanism.specs.Check.{parts_over}
use Rattle.mechanism.specs.declared.Mechanism.{Mechanism}
use Rattle.mechanism.specs.declared.Outlines.{Outlines}
use Rattle.mechanism.specs.declared.Pairs.{Pairs}
use Rattle.mechanism.specs.declared.Parts.{Parts}
use Rattle.mechanism.specs.declared.part.OutlineSeg.{OutlineSeg}

-- ---- a row: 0 and a line's two ends, or 1 and an arc's centre, radius and two directions
abbrev pub seg_row : Seg → List Float
seg_row (Line a b) = zero_f ∷ a.x ∷ a.y ∷ b.x ∷ b.y ∷ zero_f ∷ zero_f ∷ zero_f ∷ []
seg_row (Arc c r from to) = one_f ∷ c.x ∷ c.y ∷ r ∷ from.x ∷ from.y ∷ to.x ∷ to.y ∷ []

abbrev pub point_in : List Float → ℕ → ℕ → Point
point_in l k m = record { x = get_or l k nan; y = get_or l m nan }

abbrev pub dir_in : List Float → ℕ → ℕ → Dir
dir_in l k m = record { x = get_or l k nan; y = get_or l m nan }

unfoldable pub seg_from : List Float → Seg
seg_from l = cond (eq (get_or l 0 nan) one_f) (Arc (point_in l 1 2) (get_or l 3 nan) (dir_in l 4 5) (dir_in l 6 7)) (Line (point_in l 1 2) (point_in l 3 4))

abbrev pub outline_seg_from : List Float → OutlineSeg
outline_seg_from l = record { seg = seg_from l }

-- the outlines that rows hold, and the description with these outlines
unfoldable pub outlines_in : List (List Float) → Outlines
outlines_in rows = record { seg = map outline_seg_from rows }

abbrev pub described : Bodies → Parts → List (List Float) → Pairs → Mechanism
described b ps rows pairs = record { bodies = b; parts = ps; outlines = outlines_in rows; pairs = pairs }

-- ---- rows written: of the first n segments, where there are so many and the array has room
abbrev pub row_of_seg : OutlineSeg → List Float
row_of_seg b = seg_row b.seg

abbrev pub seg_rows : Outlines → ℕ → List (List Float)
seg_rows o n = map row_of_seg (take n o.seg)

abbrev pub segs_fit : ℕ → ℕ → Bool
segs_fit n room = leb n 384 && leb n room

-- how many segments the parts have; none where they pass a limit
abbrev pub segs_counted : Parts → ℕ
segs_counted p = cond (parts_over p) 0 (start_of_part p p.count)

-- the first n segments of two outlines are the same
pub record SameSegs (n : ℕ) (o o' : Outlines) : Type 0 where
  pub seg : (k : ℕ) → k < n → seg_at o k ≡ seg_at o' k
