-- Small sides, computed from the definitions: the pieces of their faces and discs, and centres. The part of every range is 0, or 1 where a second part is read. Assumes nothing.
use Prim.Native.Nat.{ℕ}
use mathlib.Core.Path.{◌≡◌, refl}
use mathlib.Core.Bool.{true, false}
use mathlib.Core.List.{List, [], ◌∷◌, map}
use lib.Ieee.{Float, of_bits, binary64, add, sub, mul, div, lt, eq, neg, is_nan, to_bits}
use Rattle.laws.specs.Loops.{join_in}
use Rattle.laws.specs.Fill.{indexes}
use Rattle.ieee.specs.Consts.{zero_f, half_f, one_f, two_f}
use Rattle.ieee.specs.Root.{root_of}
use Rattle.geometry.specs.Geometry.{dir_of}
use Rattle.geometry.specs.declared.Point.{Point}
use Rattle.geometry.specs.declared.Seg.{Seg}
use Rattle.geometry.specs.declared.Seg.TheVariants.{Line, Arc}
use Rattle.mechanism.specs.declared.features.Piece.{Piece}
use Rattle.mechanism.specs.declared.part.Role.TheVariants.{Solid, Cut}
use Rattle.mechanism.specs.declared.part.Sweep.TheVariants.{Revolved}
use Rattle.mechanism.specs.declared.part.SurfaceRef.{SurfaceRef}
use Rattle.silhouette.specs.Silhouette.{silhouette_of, chain_of, about_axis}
use Rattle.sides.specs.declared.PlacedFace.{PlacedFace}
use Rattle.sides.specs.declared.PlacedDisc.{PlacedDisc}
use Rattle.corners.specs.Corners.{face_of, vertex_of, ends_normals, normal_of, convex_of}
use Rattle.sides.specs.Features.{Run, traverse_of, forward_of, backward_of, faces_of, discs_of, range_faces, range_discs, step_discs, end_discs, crossing_of, center_of}
use Rattle.std.proofs.Common.{Some, None}

abbrev three_f : Float
three_f = of_bits binary64 0x4008_0000_0000_0000

abbrev point : Float → Float → Point
point x y = record { x = x; y = y }

abbrev line : Float → Float → Float → Float → Seg
line a b c d = Line (point a b) (point c d)

abbrev of : ℕ → ℕ → ℕ → SurfaceRef
of p a e = record { part = p; start = a; end = e }

abbrev face_pieces : List Run → List Piece
face_pieces ts = map (λ (f : PlacedFace). f.piece) (faces_of ts)

abbrev disc_pieces : List Run → List Piece
disc_pieces ts = map (λ (d : PlacedDisc). d.piece) (discs_of ts)

-- ---- the square (0,0), (1,0), (1,1), (0,1)
abbrev square : List Seg
square = line zero_f zero_f one_f zero_f ∷ line one_f zero_f one_f one_f ∷ line one_f one_f zero_f one_f ∷ line zero_f one_f zero_f zero_f ∷ []

-- its top: one face, the corner that it starts at, and the one that it ends at
top-face : face_pieces (traverse_of (of 0 2 3) square Solid ∷ []) ≡ Piece.Segment 0 2 ∷ []
unfolding faces_of forward_of range_faces join_in indexes face_of normal_of dir_of root_of of_bits add sub mul div lt eq neg is_nan to_bits
top-face = refl

top-discs : disc_pieces (traverse_of (of 0 2 3) square Solid ∷ []) ≡ Piece.Vertex 0 2 ∷ Piece.Vertex 0 3 ∷ []
unfolding discs_of forward_of range_discs step_discs end_discs join_in indexes vertex_of ends_normals normal_of convex_of dir_of root_of of_bits add sub mul div lt eq neg is_nan to_bits
top-discs = refl

-- the top twice: the same pieces twice
twice-discs : disc_pieces (traverse_of (of 0 2 3) square Solid ∷ traverse_of (of 0 2 3) square Solid ∷ []) ≡ Piece.Vertex 0 2 ∷ Piece.Vertex 0 3 ∷ Piece.Vertex 0 2 ∷ Piece.Vertex 0 3 ∷ []
unfolding discs_of forward_of range_discs step_discs end_discs join_in indexes vertex_of ends_normals normal_of convex_of dir_of root_of of_bits add sub mul div lt eq neg is_nan to_bits
twice-discs = refl

-- the whole square: four corners, none twice
whole-discs : disc_pieces (traverse_of (of 0 0 4) square Solid ∷ []) ≡ Piece.Vertex 0 0 ∷ Piece.Vertex 0 1 ∷ Piece.Vertex 0 2 ∷ Piece.Vertex 0 3 ∷ []
unfolding discs_of forward_of range_discs step_discs end_discs join_in indexes vertex_of ends_normals normal_of convex_of dir_of root_of of_bits add sub mul div lt eq neg is_nan to_bits
whole-discs = refl

-- the same square cut out of wood: its walls, backwards, and no corner
cut_faces : face_pieces (traverse_of (of 0 0 3) square Cut ∷ []) ≡ Piece.Segment 0 2 ∷ Piece.Segment 0 1 ∷ Piece.Segment 0 0 ∷ []
unfolding faces_of forward_of backward_of range_faces join_in indexes face_of normal_of dir_of root_of of_bits add sub mul div lt eq neg is_nan to_bits
cut_faces = refl

cut_discs : disc_pieces (traverse_of (of 0 0 3) square Cut ∷ []) ≡ []
unfolding discs_of forward_of backward_of range_discs step_discs end_discs join_in indexes vertex_of ends_normals normal_of convex_of dir_of root_of of_bits add sub mul div lt eq neg is_nan to_bits
cut_discs = refl

-- ---- a slot cut into wood: the wood's underside runs to the slot's mouth at (1,0), and the slot's wall up from there. The corner between the two is read once,
-- and named as the cut draws it; the slot is (1,0), (2,0), (2,1), (1,1), and its wall at x = 1 its segment 3
abbrev wood : List Seg
wood = line zero_f zero_f one_f zero_f ∷ line one_f zero_f three_f zero_f ∷ line three_f zero_f three_f two_f ∷ line three_f two_f zero_f two_f ∷ line zero_f two_f zero_f zero_f ∷ []

abbrev slot : List Seg
slot = line one_f zero_f two_f zero_f ∷ line two_f zero_f two_f one_f ∷ line two_f one_f one_f one_f ∷ line one_f one_f one_f zero_f ∷ []

mouth : disc_pieces (traverse_of (of 0 0 1) wood Solid ∷ traverse_of (of 1 3 4) slot Cut ∷ []) ≡ Piece.Vertex 0 0 ∷ Piece.Vertex 1 0 ∷ []
unfolding discs_of forward_of backward_of range_discs step_discs end_discs join_in indexes vertex_of ends_normals normal_of convex_of dir_of root_of of_bits add sub mul div lt eq neg is_nan to_bits
mouth = refl

-- the wall alone: the corner at its mouth is the cut's own, and concave
wall_alone : disc_pieces (traverse_of (of 1 3 4) slot Cut ∷ []) ≡ []
unfolding discs_of forward_of backward_of range_discs step_discs end_discs join_in indexes vertex_of ends_normals normal_of convex_of dir_of root_of of_bits add sub mul div lt eq neg is_nan to_bits
wall_alone = refl

-- the wood's left side and its underside as two ranges: the corner between them is read once, at the start of the second
joined-discs : disc_pieces (traverse_of (of 0 4 5) wood Solid ∷ traverse_of (of 0 0 1) wood Solid ∷ []) ≡ Piece.Vertex 0 4 ∷ Piece.Vertex 0 0 ∷ []
unfolding discs_of forward_of range_discs step_discs end_discs join_in indexes vertex_of ends_normals normal_of convex_of dir_of root_of of_bits add sub mul div lt eq neg is_nan to_bits
joined-discs = refl

-- ---- a half disc: the line from (-1,0) to (1,0), and the arc back over (0,1)
abbrev bow : List Seg
bow = line (neg one_f) zero_f one_f zero_f ∷ Arc (point zero_f zero_f) one_f (record { x = one_f; y = zero_f }) (record { x = neg one_f; y = zero_f }) ∷ []

bow-discs : disc_pieces (traverse_of (of 0 0 2) bow Solid ∷ []) ≡ Piece.Vertex 0 0 ∷ Piece.Arc 0 1 ∷ Piece.Vertex 0 1 ∷ []
unfolding discs_of forward_of range_discs step_discs end_discs join_in indexes vertex_of ends_normals normal_of convex_of dir_of root_of of_bits add sub mul div lt eq neg is_nan to_bits
bow-discs = refl

-- a cut's arc gives nothing
bow-cut_faces : face_pieces (traverse_of (of 0 1 2) bow Cut ∷ []) ≡ []
unfolding faces_of backward_of range_faces join_in indexes face_of
bow-cut_faces = refl

bow-cut_discs : disc_pieces (traverse_of (of 0 1 2) bow Cut ∷ []) ≡ []
unfolding discs_of forward_of backward_of range_discs step_discs end_discs join_in indexes vertex_of ends_normals normal_of convex_of dir_of root_of of_bits add sub mul div lt eq neg is_nan to_bits
bow-cut_discs = refl

-- ---- there and back again: the outline turns straight back at both ends
abbrev blade : List Seg
blade = line zero_f zero_f one_f zero_f ∷ line one_f zero_f zero_f zero_f ∷ []

blade-discs : disc_pieces (traverse_of (of 0 0 2) blade Solid ∷ []) ≡ Piece.Vertex 0 0 ∷ Piece.Vertex 0 1 ∷ []
unfolding discs_of forward_of range_discs step_discs end_discs join_in indexes vertex_of ends_normals normal_of convex_of dir_of root_of of_bits add sub mul div lt eq neg is_nan to_bits
blade-discs = refl

-- ---- a rod turned about x = 2: its silhouette is (2,0), (3,0), (3,1), (2,1), (1,1), (1,0)
abbrev rod : List Seg
rod = silhouette_of (Revolved two_f) square

-- from its top's right end round to its left foot: the top crosses the axis at (2,1)
rod-center : center_of true (Some two_f) rod (of 0 2 5) rod (of 0 2 5) ≡ point two_f one_f
unfolding center_of crossing_of silhouette_of chain_of about_axis indexes of_bits add sub mul div lt eq neg is_nan to_bits
rod-center = refl

-- where the centre on the axis is not asked for, or there is no axis: the middle of the chord from (3,1) to (1,0)
rod-middle : center_of false (Some two_f) rod (of 0 2 5) rod (of 0 2 5) ≡ point two_f half_f
unfolding center_of silhouette_of chain_of about_axis indexes of_bits add sub mul div lt eq neg is_nan to_bits
rod-middle = refl

no_axis_middle : center_of true None rod (of 0 2 5) rod (of 0 2 5) ≡ point two_f half_f
unfolding center_of silhouette_of chain_of about_axis indexes of_bits add sub mul div lt eq neg is_nan to_bits
no_axis_middle = refl
