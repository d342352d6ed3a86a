-- A direction of a sheet is stored as `Dir::new` of the two floats, and as the two floats themselves where that is none. The check asks `Dir::new` of what is stored (refusal 5):
-- it answers none there exactly where it does of the two floats that the sheet holds. Assumes nothing.
use mathlib.Core.Path.{◌≡◌, refl, ap, ap₂}
use mathlib.Core.Bool.{Bool, ◌||◌}
use mathlib.Core.List.{List}
use Prim.Native.Nat.{ℕ, ◌+◌}
use lib.Ieee.{Float}
use Rattle.geometry.specs.Geometry.{dir_of}
use Rattle.geometry.specs.declared.Point.{Point}
use Rattle.geometry.specs.declared.Dir.{Dir}
use Rattle.geometry.specs.declared.Seg.TheVariants.{Arc}
use Rattle.geometry.proofs.DirAgain.{dir_again}
use Rattle.bodies.specs.Check.{dir_lacks, joint_lacks}
use Rattle.mechanism.specs.Check.{seg_lacks}
use Rattle.bodies.specs.declared.Joint.TheVariants.{Prismatic}
use Rattle.text.specs.Fields.{real_at}
use Rattle.text.specs.Records.{dir_at}
use Rattle.std.proofs.Common.{Option, Some, None, unwrap_or, is_none}

-- the two floats as they are
abbrev plain : Float → Float → Dir
plain x y = record { x = x; y = y }

stored-as : (x y : Float) (m : Option Dir) → dir_of x y ≡ m → dir_lacks (unwrap_or m (plain x y)) ≡ is_none m
stored-as x y (Some d) h = ap is_none (dir_again x y d h).1
stored-as x y None h = ap is_none h

pub stored-lacks : (x y : Float) → dir_lacks (unwrap_or (dir_of x y) (record { x = x; y = y })) ≡ is_none (dir_of x y)
stored-lacks x y = stored-as x y (dir_of x y) refl

-- a direction read from the fields of a line
pub dir_lacks_lem : (fs : List (List ℕ)) (j : ℕ) → dir_lacks (dir_at fs j) ≡ is_none (dir_of (real_at fs j) (real_at fs (j + 1)))
dir_lacks_lem fs j = stored-lacks (real_at fs j) (real_at fs (j + 1))

-- the arc that an A line draws, whose two directions are its fields 4 to 7
pub arc_lacks : (fs : List (List ℕ)) (c : Point) (r : Float)
    → seg_lacks (Arc c r (dir_at fs 4) (dir_at fs 6)) ≡ (is_none (dir_of (real_at fs 4) (real_at fs 5)) || is_none (dir_of (real_at fs 6) (real_at fs 7)))
arc_lacks fs c r = ap₂ (λ (a b : Bool). a || b) (dir_lacks_lem fs 4) (dir_lacks_lem fs 6)

-- the joint that a JP line hangs a body on, whose axis is its fields 6 and 7
pub slide_lacks : (fs : List (List ℕ)) (o : Point) (c : ℕ) → joint_lacks (Prismatic o (dir_at fs 6) c) ≡ is_none (dir_of (real_at fs 6) (real_at fs 7))
slide_lacks fs o c = dir_lacks_lem fs 6
