-- An answer's floats by number: 0 is 1.0 where there is an answer and 0.0 where there is none, then the floats in the order of the fields. A number past them gives 0.0. Definitions only.
use Rattle.std.specs.Prelude.{ℕ, ◌/◌, ◌%◌, cond, eqb, get_or, Float, Option, Some, None}
use Rattle.std.specs.Float.{nan}
use Rattle.ieee.specs.Consts.{zero_f, one_f}
use Rattle.geometry.specs.declared.Point.{Point}
use Rattle.geometry.specs.declared.Dir.{Dir}
use Rattle.geometry.specs.declared.Drawn.{Drawn}
use Rattle.geometry.specs.declared.Seg.{Seg}
use Rattle.geometry.specs.declared.Seg.TheVariants.{Arc}
use Rattle.geometry.specs.Signed.{reversed_of, on_a, on_b}
use Rattle.geometry.specs.declared.signed.Disc.{Disc}
use Rattle.geometry.specs.declared.signed.Face.{Face}
use Rattle.geometry.specs.declared.signed.Proximity.{Proximity}

abbrev pub point_at : Float → Float → Point
point_at x y = record { x = x; y = y }

abbrev pub dir_at : Float → Float → Dir
dir_at x y = record { x = x; y = y }

abbrev pub disc_at : Float → Float → Float → Float → Float → Float → Float → Disc
disc_at cx cy r fx fy tx ty = record { center = point_at cx cy; radius = r; from = dir_at fx fy; to = dir_at tx ty }

abbrev pub face_at : Float → Float → Float → Float → Float → Float → Face
face_at ax ay bx by nx ny = record { a = point_at ax ay; b = point_at bx by; normal = dir_at nx ny }

-- the one of two or five floats
abbrev pub of_two : ℕ → Float → Float → Float
of_two n x y = cond (eqb n 1) x (cond (eqb n 2) y zero_f)

abbrev pub of_five : ℕ → Float → Float → Float → Float → Float → Float
of_five n a b c d e = cond (eqb n 1) a (cond (eqb n 2) b (cond (eqb n 3) c (cond (eqb n 4) d (cond (eqb n 5) e zero_f))))

unfoldable pub dir_field : Option Dir → ℕ → Float
dir_field (Some d) n = cond (eqb n 0) one_f (of_two n d.x d.y)
dir_field None n = zero_f

unfoldable pub proximity_field : Option Proximity → ℕ → Float
proximity_field (Some p) n = cond (eqb n 0) one_f (of_five n p.gap p.normal.x p.normal.y p.point.x p.point.y)
proximity_field None n = zero_f

-- coordinate n of the eight points that an arc is drawn through
unfoldable pub drawn_field : Drawn → ℕ → Float
drawn_field drawn n = let p = get_or drawn.points (n / 2 % 8) (point_at nan nan) in cond (eqb (n % 2) 0) p.x p.y

-- of a meeting turned round its floats, then the surface points of A and B
unfoldable pub meeting_field : Proximity → ℕ → Float
meeting_field p n =
    cond (eqb n 6) (on_a p).x
    (cond (eqb n 7) (on_a p).y (cond (eqb n 8) (on_b p).x (cond (eqb n 9) (on_b p).y (proximity_field (Some (reversed_of p)) n))))

abbrev pub arc_at : Float → Float → Float → Float → Float → Float → Float → Seg
arc_at cx cy r fx fy tx ty = Arc (point_at cx cy) r (dir_at fx fy) (dir_at tx ty)

abbrev pub proximity_at : Float → Float → Float → Float → Float → Proximity
proximity_at gap nx ny px py = record { gap = gap; normal = dir_at nx ny; point = point_at px py }
