-- Laws of polygons drawn from the points of a prepared description. Assumes nothing.
use Prim.Native.Nat.{ℕ, suc, ◌+◌, ◌-◌, ◌<◌, ◌≤◌}
use native.Mathlib.Omega.{arith}
use native.Mathlib.Nat.{add-zero, sub-zero}
use mathlib.Core.Path.{◌≡◌, sym, ap, ap₂, ◌∙◌}
use mathlib.Core.Bool.{true}
use mathlib.Core.List.{List, [], ◌∷◌, ◌++◌, map}
use lib.Dec.{leb}
use lib.Ieee.{Float}
use lib.ListN.{length, length-map}
use lib.Seq.{sets}
use borrow.Author.Tests.{leb-true, le-leb}
use Rattle.laws.specs.Lists.{list_in, flat}
use Rattle.laws.proofs.Choice.{both, and_yes}
use Rattle.laws.proofs.Lists.{list_length}
use Rattle.geometry.specs.declared.Point.{Point}
use Rattle.bodies.specs.declared.pose.Placement.{Placement}
use Rattle.bodies.specs.declared.pose.Pose.{Pose}
use Rattle.strips.specs.declared.PartFacts.{PartFacts}
use Rattle.bodies.specs.Pose.{placement_at, world_of}
use Rattle.strips.specs.Strips.{TableRows, part_at, drawn_at}
use Rattle.strips.proofs.Bounds.{at-most_small}
use Rattle.drawing.specs.Drawing.{row_of, same, rows_of}
use Rattle.drawing.specs.Prepared.{parts_in, drawn_in, all_drawn, polygon_in, solids_in, cuts_in, room_in}
use Rattle.drawing.specs.declared.Chosen.{Chosen}
use Rattle.drawing.proofs.Draws.{points-within, polygons-within}

-- ---- lists made by an index that does not start at 0
pub turn-from : {A : Type 0} (f : ℕ → A) (first n i : ℕ) → i < n → list_in f (n - i) (first + i) ≡ f (first + i) ∷ list_in f (n - (i + 1)) (first + (i + 1))
unfolding list_in
turn-from f first n i h =
    let e : n - i ≡ suc (n - (i + 1)) = omega arith in
    let g : suc (first + i) ≡ first + (i + 1) = omega arith in
    ap (λ (k : ℕ). list_in f k (first + i)) e ∙ ap (λ (k : ℕ). f (first + i) ∷ list_in f (n - (i + 1)) k) g

pub done-from : {A : Type 0} (f : ℕ → A) (first n i : ℕ) → n ≤ i → list_in f (n - i) (first + i) ≡ []
unfolding list_in
done-from f first n i h = let e : n - i ≡ 0 = omega arith in ap (λ (k : ℕ). list_in f k (first + i)) e

-- rows of placed points
pub row-turn : (g : Point → Point) (f : ℕ → Point) (first n i : ℕ) (p : Point) → i < n → p ≡ g (f (first + i))
    → map row_of (map g (list_in f (n - i) (first + i))) ≡ row_of p ∷ map row_of (map g (list_in f (n - (i + 1)) (first + (i + 1))))
row-turn g f first n i p h e =
    ap (λ (l : List Point). map row_of (map g l)) (turn-from f first n i h) ∙ ap (λ (x : Point). row_of x ∷ map row_of (map g (list_in f (n - (i + 1)) (first + (i + 1))))) (sym e)

pub row_done : (g : Point → Point) (f : ℕ → Point) (first n i : ℕ) → n ≤ i → map row_of (map g (list_in f (n - i) (first + i))) ≡ []
row_done g f first n i h = ap (λ (l : List Point). map row_of (map g l)) (done-from f first n i h)

pub row-start : (g : Point → Point) (f : ℕ → Point) (first n : ℕ) → map row_of (map g (list_in f (n - 0) (first + 0))) ≡ map row_of (map g (list_in f n first))
row-start g f first n = ap₂ (λ (a b : ℕ). map row_of (map g (list_in f a b))) (sub-zero n) (add-zero first)

-- ---- the polygon of a prepared part
module _ (t : TableRows) (q : Pose) where
  pub polygon_long : (i : ℕ) → length (polygon_in t q i) ≡ drawn_in t i
  unfolding polygon_in
  polygon_long i = length-map (list_in (drawn_at t) (drawn_in t i) (part_at t i).drawn) (world_of (placement_at q (part_at t i).body)) ∙ list_length (drawn_at t) (drawn_in t i) (part_at t i).drawn

  -- a part's points, placed, are its polygon
  pub part-drawn : (i at : ℕ) (points : List (List Float)) {p : PartFacts} {place : Placement} {points' : List (List Float)}
      → p ≡ part_at t i → place ≡ placement_at q p.body → points' ≡ sets points at (map row_of (map (world_of place) (list_in (drawn_at t) p.points p.drawn)))
      → (at + p.points ≡ at + length (polygon_in t q i)) × (points' ≡ sets points at (map row_of (polygon_in t q i)))
  unfolding polygon_in
  part-drawn i at points {p} {place} {points'} e f g = (
    ap (λ (n : ℕ). at + n) (ap (λ (x : PartFacts). x.points) e ∙ sym (polygon_long i)),
    g ∙ ap₂ (λ (x : PartFacts) (y : Placement). sets points at (map row_of (map (world_of y) (list_in (drawn_at t) x.points x.drawn)))) e (f ∙ ap (λ (x : PartFacts). placement_at q x.body) e),
  )

  -- ---- how much room the parts need
  module _ (c : Chosen) where
    pub points_fit : length (rows_of (solids_in t q c ++ cuts_in t q c)) ≤ all_drawn t
    points_fit =
        let a = points-within (parts_in t) (polygon_in t q) c (drawn_in t) (λ i. let e = polygon_long i in omega (arith, e)) in
        let b = length-map (flat same (solids_in t q c ++ cuts_in t q c)) row_of in
        omega (arith, a, b)

    pub polygons_few : length (solids_in t q c) + length (cuts_in t q c) ≤ parts_in t
    polygons_few = polygons-within (parts_in t) (polygon_in t q) c

    pub polygons_32 : length (solids_in t q c) + length (cuts_in t q c) ≤ 32
    polygons_32 = let a = polygons_few in let b = at-most_small (length t.parts) 32 in omega (arith, a, b)

pub room-known : (t : TableRows) (n m : ℕ) → room_in t n m ≡ true → (all_drawn t ≤ n) × (33 ≤ m)
room-known t n m e =
    let b = both (leb (all_drawn t) n) (leb 33 m) e in
    (leb-true (all_drawn t) n b.0, leb-true 33 m b.1)

pub room-here : (t : TableRows) (n m : ℕ) → all_drawn t ≤ n → 33 ≤ m → room_in t n m ≡ true
room-here t n m a b = and_yes _ (le-leb (all_drawn t) n a) ∙ le-leb 33 m b
