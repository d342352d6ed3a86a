-- Laws on parts of lists and on edges, as the code meets them. Assumes nothing.
use mathlib.Core.Path.{◌≡◌, sym, ap, ◌∙◌}
use mathlib.Core.List.{List, [], map}
use Prim.Native.Nat.{ℕ, ◌+◌, ◌%◌, ◌≤◌, ◌<◌}
use native.Mathlib.Nat.{mod-eq_of_lt, mod_self}
use native.Mathlib.Omega.{arith}
use lib.ListN.{length, get_or, length-map, get_or-map}
use lib.Ieee.{Float}
use Rattle.laws.specs.Lists.{list_in}
use Rattle.laws.proofs.Lists.{list_same, list_map}
use Rattle.ieee.proofs.MinRoot.{Plain, squares-plain}
use Rattle.geometry.specs.declared.Point.{Point}
use Rattle.material.specs.Material.{Edge, nowhere, edge_at, edges_of, square_of, point_of, points_of}

-- the index after i of n, without a division
pub wraps : (i n : ℕ) → i < n → i ≡ i % n
wraps i n h = sym (mod-eq_of_lt h)

pub wraps-over : (i n : ℕ) → n ≤ i → i ≤ n → 0 ≡ i % n
wraps-over i n h k = let e : i ≡ n = omega arith in sym (ap (λ (x : ℕ). x % n) e ∙ mod_self n)

-- the points that rows of two hold, and the edges of them
abbrev pub row_point : List (List Float) → ℕ → Point
row_point l i = point_of (get_or l i [])

pub points_of-rows : (l : List (List Float)) → points_of l ≡ list_in (row_point l) (length l) 0
points_of-rows l = list_map point_of l []

abbrev pub row_edge : List (List Float) → ℕ → Edge
row_edge l i = edge_at (row_point l) (length l) i

pub edges-of-rows : (l : List (List Float)) → edges_of (points_of l) ≡ list_in (row_edge l) (length l) 0
edges-of-rows l =
    ap (λ (n : ℕ). list_in (edge_at (λ i. get_or (map point_of l) i nowhere) n) n 0) (length-map l point_of)
    ∙ list_same (edge_at (λ i. get_or (map point_of l) i nowhere) (length l)) (row_edge l) same (length l) 0
  where
    same : (i : ℕ) → edge_at (λ i. get_or (map point_of l) i nowhere) (length l) i ≡ row_edge l i
    same i = rw (get_or-map point_of l i [], get_or-map point_of l ((i + 1) % length l) [])

-- ---- the square of a distance
pub square-plain : (p : Point) (e : Edge) → Plain (square_of p e)
unfolding square_of
square-plain p e = squares-plain _ _
