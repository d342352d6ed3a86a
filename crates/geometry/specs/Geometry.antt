-- geometry/mod.rs, operation by operation. Definitions only.
use Rattle.std.specs.Prelude.{cond, ◌&&◌, List, [], ◌∷◌, map, Float, Option, Some, None, unwrap_or}
use Rattle.std.specs.Float.Ieee.{lt, neg}
use Rattle.ieee.specs.Operators.{◌⊕◌, ◌⊖◌, ◌⊗◌, ◌⊘◌}
use Rattle.ieee.specs.Consts.{zero_f}
use Rattle.ieee.specs.Num.{finite}
use Rattle.ieee.specs.Root.{root_of}
use Rattle.geometry.specs.declared.Point.{Point}
use Rattle.geometry.specs.declared.Dir.{Dir}
use Rattle.geometry.specs.declared.Seg.{Seg}
use Rattle.geometry.specs.declared.Seg.TheVariants.{Line, Arc}
use Rattle.geometry.specs.declared.Drawn.{Drawn}

-- ---- Dir
abbrev pub vector_of : Dir → Point
vector_of d = record { x = d.x; y = d.y }

-- (x, y) over its length, where that is finite and above zero
abbrev pub over_length : Float → Float → Float → Option Dir
over_length x y length = cond (finite length && lt zero_f length) (Some (record { x = x ⊘ length; y = y ⊘ length })) None

unfoldable pub dir_of : Float → Float → Option Dir
dir_of x y = over_length x y (root_of (x ⊗ x ⊕ y ⊗ y))

-- Under a half turn the normalized sum, over it its opposite, at a half turn the left quarter turn; equal directions are halfway themselves.
unfoldable pub halfway_of : Dir → Dir → Dir
halfway_of d to =
    let cross = d.x ⊗ to.y ⊖ d.y ⊗ to.x in
    let dot = d.x ⊗ to.x ⊕ d.y ⊗ to.y in
    let sx = d.x ⊕ to.x in
    let sy = d.y ⊕ to.y in
    cond (lt zero_f cross) (unwrap_or (dir_of sx sy) d)
    (cond (lt cross zero_f) (unwrap_or (dir_of (neg sx) (neg sy)) d)
    (cond (lt dot zero_f) (record { x = neg d.y; y = d.x }) d))

-- ---- Seg
abbrev pub on_circle : Point → Float → Dir → Point
on_circle c r d = record { x = c.x ⊕ r ⊗ d.x; y = c.y ⊕ r ⊗ d.y }

abbrev pub start_of : Seg → Point
start_of (Line a b) = a
start_of (Arc c r from to) = on_circle c r from

abbrev pub end_of : Seg → Point
end_of (Line a b) = b
end_of (Arc c r from to) = on_circle c r to

-- one halving: between each two directions the one halfway
unfoldable pub finer : List Dir → List Dir
finer [] = []
finer (d ∷ []) = d ∷ []
finer (d ∷ e ∷ l) = d ∷ halfway_of d e ∷ finer (e ∷ l)

-- a list without its last element
unfoldable pub popped : List Dir → List Dir
popped [] = []
popped (d ∷ []) = []
popped (d ∷ e ∷ l) = d ∷ popped (e ∷ l)

-- DRAWN_HALVINGS is three
abbrev pub drawn_of : Seg → Drawn
drawn_of (Line a b) = record { count = 1; points = a ∷ a ∷ a ∷ a ∷ a ∷ a ∷ a ∷ a ∷ [] }
drawn_of (Arc c r from to) = record { count = 8; points = map (on_circle c r) (popped (finer (finer (finer (from ∷ to ∷ []))))) }
