-- The faces of a side from a place on, and folds that walk them. Assumes nothing.
use Prim.Native.Nat.{ℕ, ◌+◌, ◌<◌, ◌≤◌}
use native.Mathlib.Omega.{arith}
use mathlib.Core.Path.{◌≡◌, sym, ap, ◌∙◌}
use mathlib.Core.List.{List, map}
use lib.ListN.{length, drop, get_or, drop_of_length-le}
use Rattle.laws.specs.Lists.{foldl}
use Rattle.laws.proofs.Fill.{map-drop}
use Rattle.geometry.specs.declared.signed.Face.{Face}
use Rattle.sides.specs.Features.{no_face}
use Rattle.sides.specs.declared.PlacedFace.{PlacedFace}
use Rattle.faces.specs.Faces.{face_of}

-- what is left at place i
abbrev pub left : ℕ → List PlacedFace → List Face
left i l = map face_of (drop i l)

-- n faces are walked
module _ {A : Type 0} (step : A → Face → A) (l : List PlacedFace) (i : ℕ) {n : ℕ} (all : n ≡ length l) where
  -- a turn of the loop that takes the state a to b; x is the face as the code reads it
  pub held_on : {a b : A} {x : PlacedFace} → i < n → x ≡ get_or l i no_face → step a (face_of x) ≡ b → foldl step b (left (i + 1) l) ≡ foldl step a (left i l)
  unfolding foldl
  held_on {a} h r e =
      ap (λ (x : A). foldl step x (left (i + 1) l)) (sym e ∙ ap (λ (p : PlacedFace). step a (face_of p)) r)
      ∙ ap (foldl step a) (sym (map-drop face_of l i no_face (omega arith)))

  pub held-end : (a : A) → n ≤ i → foldl step a (left i l) ≡ a
  unfolding foldl
  held-end a h = ap (λ (m : List PlacedFace). foldl step a (map face_of m)) (drop_of_length-le l (omega arith))
