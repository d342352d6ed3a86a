-- Drawn material as polygons (contact/rows.rs: `Material`, `inside`), in the Rust's order of operations. Definitions only.
use Rattle.std.specs.Prelude.{ℕ, ◌+◌, ◌-◌, ◌%◌, ◌≡◌, ◌⊎◌, Bool, false, not, ◌&&◌, cond, List, ◌++◌, map, T, length, get_or, take, drop, Float}
use Rattle.std.specs.Bool.{beq}
use Rattle.std.specs.Float.{nan}
use Rattle.std.specs.Float.Ieee.{lt, le}
use Rattle.laws.specs.Lists.{list_in, foldl, flat, any}
use Rattle.ieee.specs.Consts.{zero_f, infinity_f}
use Rattle.ieee.specs.Num.{max_of, min_of, clamp_of}
use Rattle.ieee.specs.Operators.{◌⊕◌, ◌⊖◌, ◌⊗◌, ◌⊘◌}
use Rattle.ieee.specs.Root.{root_of}
use Rattle.material.specs.declared.DrawnMaterial.{DrawnMaterial}
use Rattle.geometry.specs.declared.Point.{Point}

-- ---- polygons
pub record Edge : Type 0 where
  pub a : Point
  pub b : Point

abbrev pub nowhere : Point
nowhere = record { x = nan; y = nan }

-- edge i of n runs from point i to point (i + 1) % n
abbrev pub edge_at : (ℕ → Point) → ℕ → ℕ → Edge
edge_at q n i = record { a = q i; b = q ((i + 1) % n) }

abbrev pub edges_of : List Point → List Edge
edges_of poly = list_in (edge_at (λ i. get_or poly i nowhere) (length poly)) (length poly) 0

-- ---- inside: the parity of a ray's crossings
unfoldable pub cross_of : Point → Edge → Bool
cross_of p e =
    cond (not (beq (lt p.y e.a.y) (lt p.y e.b.y)))
    (lt p.x (e.a.x ⊕ (p.y ⊖ e.a.y) ⊗ (e.b.x ⊖ e.a.x) ⊘ (e.b.y ⊖ e.a.y)))
    false

abbrev pub turned_by : Point → Bool → Edge → Bool
turned_by p odd e = cond (cross_of p e) (not odd) odd

unfoldable pub inside_of : Point → List Point → Bool
inside_of p poly = foldl (turned_by p) false (edges_of poly)

-- ---- the material: parts, less cuts
pub record Material : Type 0 where
  pub solids : List (List Point)
  pub cuts : List (List Point)

-- inside a part and outside every cut
abbrev pub holds_of : Material → Point → Bool
holds_of m p = any (inside_of p) m.solids && not (any (inside_of p) m.cuts)

-- ---- how far a point stands from an edge: the place t along it, the square of the distance there, and its root
abbrev pub along_at : Point → Edge → Float → Float → Float → Float
along_at p e ex ey e2 = cond (lt zero_f e2) (clamp_of (((p.x ⊖ e.a.x) ⊗ ex ⊕ (p.y ⊖ e.a.y) ⊗ ey) ⊘ e2)) zero_f

abbrev pub square_at : Point → Edge → Float → Float → Float → Float
square_at p e ex ey t =
    (p.x ⊖ e.a.x ⊖ t ⊗ ex) ⊗ (p.x ⊖ e.a.x ⊖ t ⊗ ex) ⊕ (p.y ⊖ e.a.y ⊖ t ⊗ ey) ⊗ (p.y ⊖ e.a.y ⊖ t ⊗ ey)

unfoldable pub square_of : Point → Edge → Float
square_of p e =
    let ex = e.b.x ⊖ e.a.x in
    let ey = e.b.y ⊖ e.a.y in
    square_at p e ex ey (along_at p e ex ey (ex ⊗ ex ⊕ ey ⊗ ey))

abbrev pub distance_of : Point → Edge → Float
distance_of p e = root_of (square_of p e)

-- the least of x and the squares of p's distances from edges, and from the edges of polygons
abbrev pub least_in : Point → Float → List Edge → Float
least_in p x l = foldl (λ x e. min_of x (square_of p e)) x l

abbrev pub least_among : Point → Float → List (List Point) → Float
least_among p x l = foldl (λ x l. least_in p x (edges_of l)) x l

-- r serves for x where numbers up to d make no difference: it is x, or neither is above d
abbrev pub Serves : (d r x : Float) → Type 0
Serves d r x = (r ≡ x) ⊎ (T (le r d) × T (le x d))

-- zero outside; inside the least of the squares of the distances to all edges
unfoldable pub square_depth : Material → Point → Float
square_depth m p = cond (holds_of m p) (foldl min_of infinity_f (map (square_of p) (flat edges_of (m.solids ++ m.cuts)))) zero_f

-- zero outside; inside the least of the distances to all edges, the parts' then the cuts'
unfoldable pub depth_of : Material → Point → Float
depth_of m p = cond (holds_of m p) (foldl min_of infinity_f (map (distance_of p) (flat edges_of (m.solids ++ m.cuts)))) zero_f

-- the deepest of d and the depths of points
abbrev pub deepest_of : Material → Float → List Point → Float
deepest_of m d l = foldl (λ x p. max_of x (depth_of m p)) d l

-- the largest of the square d and the squares of the depths of points
abbrev pub deepest_square : Material → Float → List Point → Float
deepest_square m d l = foldl (λ x p. max_of x (square_depth m p)) d l

-- ---- as the code holds them: points are rows of two numbers, and polygon k runs from starts k to starts (k + 1)
abbrev pub point_of : List Float → Point
point_of l = record { x = get_or l 0 nan; y = get_or l 1 nan }

abbrev pub points_of : List (List Float) → List Point
points_of l = map point_of l

abbrev pub between : List (List Float) → ℕ → ℕ → List (List Float)
between l a e = take (e - a) (drop a l)

abbrev pub poly_at : List (List Float) → List ℕ → ℕ → List Point
poly_at l starts k = points_of (between l (get_or starts k 0) (get_or starts (k + 1) 0))

-- the first `solids` of `all` polygons are parts, the others cuts
abbrev pub material_of : List (List Float) → List ℕ → ℕ → ℕ → Material
material_of l starts solids all = record { solids = list_in (poly_at l starts) solids 0; cuts = list_in (poly_at l starts) (all - solids) solids }

-- that of lent arrays
abbrev pub drawn_material : DrawnMaterial → Material
drawn_material m = material_of m.points.now m.starts.now m.solids m.all
