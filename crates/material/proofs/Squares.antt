-- Squares of depths: the root of the largest is the largest of the roots. Assumes nothing.
use mathlib.Core.Path.{◌≡◌, refl, sym, ap, subst, ◌∙◌}
use mathlib.Core.Bool.{Bool, true, false, cond}
use mathlib.Core.List.{List, [], ◌∷◌, ◌++◌, map}
use lib.Ieee.{Float, lt, is_nan, fits, of_bits}
use Rattle.laws.specs.Lists.{foldl, flat}
use Rattle.laws.proofs.Lists.{foldl-map, foldl-flat, foldl-append}
use Rattle.ieee.specs.Consts.{zero_f, infinity_f}
use Rattle.ieee.specs.Num.{max_of, min_of}
use Rattle.ieee.specs.Root.{root_of}
use Rattle.ieee.proofs.MinRoot.{Plain, infinity_plain, root_number, min_numbers, min_root, max_numbers, max_number, least_root}
use Rattle.geometry.specs.declared.Point.{Point}
use Rattle.material.specs.Material.{Material, edges_of, holds_of, square_of, distance_of, square_depth, depth_of, deepest_of, deepest_square, least_in, least_among}
use Rattle.material.proofs.Parts.{square-plain}
use Rattle.material.proofs.Sets.{least_number, least_plain, infinity_number}

-- ---- a number with no sign
pub record PlainNumber (x : Float) : Type 0 where
  pub plain : Plain x
  pub number : is_nan x ≡ false

pub zero_plain : PlainNumber zero_f
unfolding fits of_bits is_nan
zero_plain = record { plain = record { held = tt; no_sign = tt }; number = refl }

pub zero_root : root_of zero_f ≡ zero_f
unfolding root_of of_bits
zero_root = refl

-- ---- the largest of two
module _ (x y : Float) (p : PlainNumber x) (q : PlainNumber y) where
  by_order : (t b : Bool) → cond t (root_of x) (root_of y) ≡ root_of (cond b x y) → cond t (root_of y) (root_of x) ≡ root_of (cond b y x)
  by_order true true e = refl
  by_order true false e = sym e
  by_order false true e = sym e
  by_order false false e = refl

  pub max_root : max_of (root_of x) (root_of y) ≡ root_of (max_of x y)
  max_root =
      max_numbers (root_of x) (root_of y) (root_number x p.plain p.number)
      ∙ by_order (lt (root_of x) (root_of y)) (lt x y)
      (sym (min_numbers (root_of y) (root_of x) (root_number y q.plain q.number)) ∙ min_root y x q.plain p.plain ∙ ap root_of (min_numbers y x q.number))
      ∙ ap root_of (sym (max_numbers x y p.number))

  max_sign : Plain (max_of x y)
  max_sign = go (is_nan x) (lt x y)
    where
      go : (a b : Bool) → Plain (cond a y (cond b y x))
      go true b = q.plain
      go false true = q.plain
      go false false = p.plain

  pub max_plain : PlainNumber (max_of x y)
  max_plain = record { plain = max_sign; number = max_number x y p.number }

-- ---- the least of the squares
module _ (m : Material) (p : Point) where
  abbrev squares : List Float
  squares = map (square_of p) (flat edges_of (m.solids ++ m.cuts))

  abbrev distances : List Float
  distances = map (distance_of p) (flat edges_of (m.solids ++ m.cuts))

  -- as the code folds it: the parts' polygons, then the cuts'
  pub square-is : foldl min_of infinity_f squares ≡ least_among p (least_among p infinity_f m.solids) m.cuts
  square-is =
      foldl-map min_of (square_of p) infinity_f (flat edges_of (m.solids ++ m.cuts))
      ∙ foldl-flat (λ x e. min_of x (square_of p e)) edges_of infinity_f (m.solids ++ m.cuts)
      ∙ foldl-append (λ x l. least_in p x (edges_of l)) infinity_f m.solids m.cuts

  least_squares : root_of (foldl min_of infinity_f squares) ≡ foldl min_of infinity_f distances
  least_squares =
      ap root_of (foldl-map min_of (square_of p) infinity_f (flat edges_of (m.solids ++ m.cuts)))
      ∙ sym (foldl-map min_of (distance_of p) infinity_f (flat edges_of (m.solids ++ m.cuts)) ∙ least_root (square_of p) (square-plain p) (flat edges_of (m.solids ++ m.cuts)))

  -- the root of the square of a depth is the depth
  pub square-root : root_of (square_depth m p) ≡ depth_of m p
  unfolding square_depth depth_of
  square-root = go (holds_of m p)
    where
      go : (b : Bool) → root_of (cond b (foldl min_of infinity_f squares) zero_f) ≡ cond b (foldl min_of infinity_f distances) zero_f
      go true = least_squares
      go false = zero_root

  folded_plain : PlainNumber (foldl min_of infinity_f squares)
  folded_plain =
      let l = flat edges_of (m.solids ++ m.cuts) in
      subst PlainNumber (sym (foldl-map min_of (square_of p) infinity_f l))
      (record { plain = least_plain (square_of p) (square-plain p) l infinity_f infinity_plain; number = least_number (square_of p) l infinity_f infinity_number })

  pub depth_plain : PlainNumber (square_depth m p)
  unfolding square_depth
  depth_plain = go (holds_of m p)
    where
      go : (b : Bool) → PlainNumber (cond b (foldl min_of infinity_f squares) zero_f)
      go true = folded_plain
      go false = zero_plain

-- ---- THE LAW: the root of the largest square is the largest of the depths
module _ (m : Material) where
  pub deepest_root : (l : List Point) (d : Float) → PlainNumber d → deepest_of m (root_of d) l ≡ root_of (deepest_square m d l)
  unfolding foldl
  deepest_root [] d h = refl
  deepest_root (p ∷ l) d h =
      ap (λ (x : Float). deepest_of m x l) (ap (max_of (root_of d)) (sym (square-root m p)) ∙ max_root d (square_depth m p) h (depth_plain m p))
      ∙ deepest_root l (max_of d (square_depth m p)) (max_plain d (square_depth m p) h (depth_plain m p))

  pub deepest_plain : (l : List Point) (d : Float) → PlainNumber d → PlainNumber (deepest_square m d l)
  unfolding foldl
  deepest_plain [] d h = h
  deepest_plain (p ∷ l) d h = deepest_plain l (max_of d (square_depth m p)) (max_plain d (square_depth m p) h (depth_plain m p))
