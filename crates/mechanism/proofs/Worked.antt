-- Worked descriptions, computed from the definitions. Assumes nothing.
use Prim.Native.Nat.{ℕ, ◌-◌}
use mathlib.Core.Path.{◌≡◌, refl}
use mathlib.Core.Bool.{true, false}
use mathlib.Core.List.{List, [], ◌∷◌, ◌++◌}
use lib.ListN.{length, replicate}
use lib.Ieee.{of_bits, to_bits}
use Rattle.laws.specs.Loops.{any_in, fold_in, first_in}
use Rattle.ieee.specs.Consts.{zero_f, one_f}
use Rattle.geometry.specs.declared.Point.{Point}
use Rattle.geometry.specs.declared.Seg.TheVariants.{Line}
use Rattle.bodies.specs.Description.{no_body}
use Rattle.mechanism.specs.Description.{no_part, no_seg, no_range, no_surface, no_pair}
use Rattle.bodies.specs.Check.{bodies_checked, bodies_lack}
use Rattle.mechanism.specs.Check.{parts_over, pairs_over, limit_passed, parts_lack, outlines_lack, outline_open, parts_checked, range_drawn, side_body, pairs_checked, check_of, call_checked}
use Rattle.bodies.specs.declared.Body.{Body}
use Rattle.bodies.specs.declared.Joint.TheVariants.{Ground}
use Rattle.bodies.specs.declared.Bodies.{Bodies}
use Rattle.mechanism.specs.declared.Parts.{Parts}
use Rattle.mechanism.specs.declared.Outlines.{Outlines}
use Rattle.mechanism.specs.declared.Pairs.{Pairs}
use Rattle.mechanism.specs.declared.Mechanism.{Mechanism}
use Rattle.mechanism.specs.declared.part.Part.{Part}
use Rattle.mechanism.specs.declared.part.OutlineSeg.{OutlineSeg}
use Rattle.mechanism.specs.declared.part.Role.TheVariants.{Solid}
use Rattle.mechanism.specs.declared.part.Sweep.{Sweep}
use Rattle.mechanism.specs.declared.part.Sweep.TheVariants.{Extruded, Revolved}
use Rattle.mechanism.specs.declared.part.SurfaceRef.{SurfaceRef}
use Rattle.mechanism.specs.declared.pair.Surface.{Surface}
use Rattle.mechanism.specs.declared.pair.PairGeometry.TheVariants.{Features}
use Rattle.bodies.specs.declared.Problem.TheVariants.{BodyNotPlaced, PartOnNoSuchBody, OutlineNotClosed, RangeNotDrawn, PairOnOneBody, PoseNotMatching, NoSuchThing, TooFewRows}
use Rattle.std.proofs.Common.{Ok, Err}

-- ---- the pieces
-- a body fixed to the parent named
abbrev fixed : ℕ → Body
fixed p = record { parent = p; joint = Ground }

-- lists, and the places past their ends
abbrev bodies : List Body → Bodies
bodies l = record { coords = 0; count = length l; body = l ++ replicate (15 - length l) no_body }

abbrev extruded : Sweep
extruded = Extruded one_f zero_f

-- a part on a body, with a number of segments
abbrev part : ℕ → ℕ → Sweep → Part
part b n s = record { body = b; segs = n; sweep = s; role = Solid }

abbrev parts : List Part → Parts
parts l = record { count = length l; part = l ++ replicate (32 - length l) no_part }

abbrev along : Point → Point → OutlineSeg
along a b = record { seg = Line a b }

abbrev here : Point
here = record { x = zero_f; y = zero_f }

abbrev there : Point
there = record { x = one_f; y = zero_f }

-- there and back is closed, there and there again is not
abbrev closed : List OutlineSeg
closed = along here there ∷ along there here ∷ []

abbrev unclosed : List OutlineSeg
unclosed = along here there ∷ along here there ∷ []

abbrev outlines : List OutlineSeg → Outlines
outlines l = record { seg = l ++ replicate (384 - length l) no_seg }

abbrev range : ℕ → ℕ → ℕ → SurfaceRef
range p s e = record { part = p; start = s; end = e }

-- a side of one range
abbrev side : SurfaceRef → Surface
side r = record { count = 1; range = r ∷ replicate 3 no_range }

-- no pair, or one
abbrev no_pairs : Pairs
no_pairs = record { count = 0; pair = replicate 16 no_pair }

abbrev one_pair : Surface → Surface → Pairs
one_pair a b = record { count = 1; pair = record { a = a; b = b; geometry = Features } ∷ replicate 15 no_pair }

abbrev tree : List Body → Mechanism
tree l = record { bodies = bodies l; parts = parts []; outlines = outlines []; pairs = no_pairs }

-- two bodies on the ground, two closed parts on the bodies named, and one pair
abbrev touching : ℕ → ℕ → Surface → Surface → Mechanism
touching p q a b = record {
  bodies = bodies (fixed 0 ∷ fixed 0 ∷ []);
  parts = parts (part p 2 extruded ∷ part q 2 extruded ∷ []);
  outlines = outlines (closed ++ closed);
  pairs = one_pair a b;
}

-- one body and two parts, with their outlines
abbrev drawn : Part → Part → List OutlineSeg → Mechanism
drawn p q l = record { bodies = bodies (fixed 0 ∷ []); parts = parts (p ∷ q ∷ []); outlines = outlines l; pairs = no_pairs }

-- ---- bodies
pub record OfBodies : Type 0 where
  -- bodies 1 and 2 hang from bodies that are not below them: the lowest is named
  pub lowest : check_of (tree (fixed 1 ∷ fixed 3 ∷ fixed 0 ∷ [])) ≡ Err (BodyNotPlaced 1)
  -- a body that hangs from itself, and one that hangs from the body before it
  pub own_parent : check_of (tree (fixed 0 ∷ fixed 2 ∷ [])) ≡ Err (BodyNotPlaced 2)
  pub just_below : check_of (tree (fixed 0 ∷ fixed 1 ∷ [])) ≡ Ok tt

pub of-bodies : OfBodies
unfolding check_of limit_passed parts_over pairs_over bodies_checked bodies_lack parts_lack outlines_lack parts_checked pairs_checked any_in fold_in first_in
of-bodies = record { lowest = refl; own_parent = refl; just_below = refl }

-- ---- parts
pub record OfParts : Type 0 where
  -- 7 of part 0 comes before 6 of part 1
  pub part_by_part : check_of (drawn (part 1 2 extruded) (part 2 2 extruded) (unclosed ++ closed)) ≡ Err (OutlineNotClosed 0)
  -- of one part 6 comes before 7
  pub body_first : check_of (drawn (part 2 2 extruded) (part 1 2 extruded) (unclosed ++ closed)) ≡ Err (PartOnNoSuchBody 0)
  pub both_closed : check_of (drawn (part 1 2 extruded) (part 1 2 extruded) (closed ++ closed)) ≡ Ok tt

pub of_parts : OfParts
unfolding check_of limit_passed parts_over pairs_over bodies_checked bodies_lack parts_lack outlines_lack outline_open parts_checked pairs_checked any_in fold_in first_in of_bits to_bits
of_parts = record { part_by_part = refl; body_first = refl; both_closed = refl }

-- ---- ranges: the whole silhouette, and one segment more
abbrev turned : Parts
turned = parts (part 1 3 extruded ∷ part 1 3 (Revolved zero_f) ∷ [])

pub record OfRanges : Type 0 where
  pub whole : range_drawn turned (range 0 0 3) ≡ true
  pub past : range_drawn turned (range 0 0 4) ≡ false
  -- turned about an axis, three segments make four
  pub whole_turned : range_drawn turned (range 1 0 4) ≡ true
  pub past_turned : range_drawn turned (range 1 0 5) ≡ false
  pub empty : range_drawn turned (range 0 1 1) ≡ false
  pub no_part : range_drawn turned (range 2 0 0) ≡ false

pub of-ranges : OfRanges
of-ranges = record { whole = refl; past = refl; whole_turned = refl; past_turned = refl; empty = refl; no_part = refl }

-- ---- pairs
pub record OfPairs : Type 0 where
  -- side A stands on body 1, side B's range passes the silhouette
  pub not_drawn : check_of (touching 1 1 (side (range 0 0 2)) (side (range 1 0 3))) ≡ Err (RangeNotDrawn 0)
  pub on_one_body : check_of (touching 1 1 (side (range 0 0 2)) (side (range 1 0 2))) ≡ Err (PairOnOneBody 0)
  pub on_two_bodies : check_of (touching 1 2 (side (range 0 0 2)) (side (range 1 0 2))) ≡ Ok tt
  -- a side without ranges
  pub no_range : check_of (touching 1 2 (side (range 0 0 2)) no_surface) ≡ Err (RangeNotDrawn 0)

pub of-pairs : OfPairs
unfolding check_of limit_passed parts_over pairs_over bodies_checked bodies_lack parts_lack outlines_lack outline_open parts_checked side_body pairs_checked any_in fold_in first_in of_bits to_bits
of-pairs = record { not_drawn = refl; on_one_body = refl; on_two_bodies = refl; no_range = refl }

-- ---- calls on a description: 3 to 10 come before 11, 11 before 12, 12 before 13
pub record OfCalls : Type 0 where
  pub misplaced : call_checked (tree (fixed 1 ∷ [])) false false false ≡ Err (BodyNotPlaced 1)
  pub other_pose : call_checked (tree (fixed 0 ∷ [])) false false false ≡ Err PoseNotMatching
  pub unknown : call_checked (tree (fixed 0 ∷ [])) true false false ≡ Err NoSuchThing
  pub no_room : call_checked (tree (fixed 0 ∷ [])) true true false ≡ Err TooFewRows
  pub answered : call_checked (tree (fixed 0 ∷ [])) true true true ≡ Ok tt

pub of_calls : OfCalls
unfolding check_of limit_passed parts_over pairs_over bodies_checked bodies_lack parts_lack outlines_lack parts_checked pairs_checked any_in fold_in first_in
of_calls = record { misplaced = refl; other_pose = refl; unknown = refl; no_room = refl; answered = refl }
