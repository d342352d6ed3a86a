-- One face of side B against one of side A, and one of A against all of B, as the code comes to them step by step. Assumes nothing.
use mathlib.Core.Path.{◌≡◌, sym, ap, ap₂, ◌∙◌}
use mathlib.Core.Bool.{Bool, true, false, ◌&&◌, ◌||◌}
use mathlib.Core.List.{List}
use lib.Ieee.{Float, lt, le}
use Rattle.laws.specs.Lists.{foldl}
use Rattle.laws.proofs.Choice.{cond_yes, cond_no}
use Rattle.ieee.specs.Consts.{zero_f, one_f}
use Rattle.ieee.specs.Num.{max_of, min_of}
use Rattle.ieee.specs.Operators.{◌⊖◌, ◌⊘◌}
use Rattle.ieee.proofs.MinRoot.{not_zero}
use Rattle.geometry.specs.Geometry.{vector_of}
use Rattle.geometry.specs.Signed.{sub_of, dot_of}
use Rattle.geometry.specs.declared.Point.{Point}
use Rattle.geometry.specs.declared.signed.Face.{Face}
use Rattle.bodies.specs.Pose.{rotate_of, world_of}
use Rattle.bodies.specs.declared.pose.Placement.{Placement}
use Rattle.faces.specs.Faces.{along_of, within_of, cut_of, over_of, past_of, is_long, step_of}

-- one face of B: t0 and t1 are where its ends fall along A's face
module _ (a0 a1 n b0 b1 : Point) (d : Float) {t0 t1 : Float} (p : t0 ≡ along_of b0 a0 a1) (q : t1 ≡ along_of b1 a0 a1) where
  -- whether these are two places
  abbrev differ : Bool
  differ = lt zero_f (t1 ⊖ t0) || lt (t1 ⊖ t0) zero_f

  is_cut : cut_of a0 n b0 b1 d t0 t1 ≡ over_of a0 a1 n b0 b1 d
  unfolding over_of
  is_cut = ap₂ (cut_of a0 n b0 b1 d) p q

  abbrev start : Float
  start = (zero_f ⊖ t0) ⊘ (t1 ⊖ t0)

  abbrev end : Float
  end = (one_f ⊖ t0) ⊘ (t1 ⊖ t0)

  -- the part over A's face is taken
  pub over_part : {u lo v hi r : Float} → differ ≡ true → u ≡ min_of start end → lo ≡ max_of zero_f u → v ≡ max_of start end → hi ≡ min_of one_f v
      → r ≡ within_of a0 n b0 b1 d lo hi → r ≡ over_of a0 a1 n b0 b1 d
  over_part h e f g i w =
      w ∙ ap₂ (within_of a0 n b0 b1 d) (f ∙ ap (max_of zero_f) e) (i ∙ ap (min_of one_f) g)
      ∙ sym (cond_yes _ _ (sym (not_zero (t1 ⊖ t0)) ∙ h)) ∙ is_cut

  -- it stands square to A's face, over it
  pub over_whole : {r : Float} → differ ≡ false → (le zero_f t0 && le t0 one_f) ≡ true → r ≡ within_of a0 n b0 b1 d zero_f one_f → r ≡ over_of a0 a1 n b0 b1 d
  over_whole h e w = w ∙ sym (cond_yes _ _ e) ∙ sym (cond_no _ _ (sym (not_zero (t1 ⊖ t0)) ∙ h)) ∙ is_cut

  -- it stands square to A's face, beside it, or its places along it are no numbers
  pub over_none : differ ≡ false → (le zero_f t0 && le t0 one_f) ≡ false → d ≡ over_of a0 a1 n b0 b1 d
  over_none h e = sym (cond_no _ _ e) ∙ sym (cond_no _ _ (sym (not_zero (t1 ⊖ t0)) ∙ h)) ∙ is_cut

-- one face of B, placed
pub past-taken : (a0 a1 n : Point) (place : Placement) (d : Float) (f : Face) {b0 b1 : Point} {r : Float} → b0 ≡ world_of place f.a → b1 ≡ world_of place f.b → r ≡ over_of a0 a1 n b0 b1 d
    → past_of a0 a1 n place d f ≡ r
past-taken a0 a1 n place d f p q e = sym (e ∙ ap₂ (λ (x : Point) (y : Point). over_of a0 a1 n x y d) p q)

-- one face of A, as the code reads it: its ends a0 and a1, the square e2 of its length, and whether it has a length
module _ (pa pb : Placement) (fs : List Face) (d : Float) (f : Face) {a0 a1 e : Point} {e2 : Float} {long : Bool}
    (p : a0 ≡ world_of pa f.a) (q : a1 ≡ world_of pa f.b) (r : e ≡ sub_of a1 a0) (s : e2 ≡ dot_of e e) (t : long ≡ is_long e2) where
  abbrev spans : Point → Point → Bool
  spans x y = is_long (dot_of (sub_of y x) (sub_of y x))

  long-is : long ≡ spans (world_of pa f.a) (world_of pa f.b)
  long-is = t ∙ ap is_long (s ∙ ap (λ (x : Point). dot_of x x) r) ∙ ap₂ spans p q

  -- it is taken against all faces of B
  pub step-taken : {v n : Point} {x : Float} → long ≡ true → v ≡ vector_of f.normal → n ≡ rotate_of pa v → x ≡ foldl (past_of a0 a1 n pb) d fs → step_of pa pb fs d f ≡ x
  step-taken {v} {n} h u w g =
      cond_yes _ _ (sym long-is ∙ h)
      ∙ sym (g ∙ ap₂ (λ (x : Point) (y : Point). foldl (past_of x y n pb) d fs) p q
      ∙ ap (λ (x : Point). foldl (past_of (world_of pa f.a) (world_of pa f.b) x pb) d fs) (w ∙ ap (rotate_of pa) u))

  -- it is passed over
  pub step_left : long ≡ false → step_of pa pb fs d f ≡ d
  step_left h = cond_no _ _ (sym long-is ∙ h)
