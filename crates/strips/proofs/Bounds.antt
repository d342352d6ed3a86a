-- Numbers that a row says are small. Assumes nothing.
use Prim.Native.Nat.{ℕ, ◌≤◌}
use native.Mathlib.Omega.{arith}
use mathlib.Core.Path.{◌≡◌, refl}
use mathlib.Core.List.{List}
use lib.Dec.{ltb}
use lib.ListN.{get_or}
use mathlib.Core.Bool.{Bool, true, false, cond}
use borrow.Author.Tests.{ltb-true}
use Rattle.strips.specs.Strips.{at_most, part_from, facts_from, SmallPart, SmallSide}

at-most_by : (n m : ℕ) (t : Bool) → ltb n m ≡ t → cond t n m ≤ m
at-most_by n m true e = let h = ltb-true n m e in omega arith
at-most_by n m false e = omega arith

pub at-most_small : (n m : ℕ) → at_most n m ≤ m
at-most_small n m = at-most_by n m (ltb n m) refl

pub part_small : (l : List ℕ) → SmallPart (part_from l)
part_small l = record {
  drawn_small = at-most_small (get_or l 1 0) 65535;
  points_few = at-most_small (get_or l 2 0) 752;
  sampled_small = at-most_small (get_or l 3 0) 65535;
  samples_few = at-most_small (get_or l 4 0) 1598;
}

pub side-small : (l : List ℕ) → SmallSide (facts_from l)
side-small l = record {
  face_small = at-most_small (get_or l 1 0) 65535;
  faces_few = at-most_small (get_or l 2 0) 12;
  disc_small = at-most_small (get_or l 3 0) 65535;
  discs_few = at-most_small (get_or l 4 0) 28;
}

pub ruleset small_sides = (side-small)
