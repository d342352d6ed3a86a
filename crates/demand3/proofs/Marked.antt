-- Document 01's marked table, computed from the definitions. Assumes nothing.
use mathlib.Core.Path.{refl}
use lib.Ieee.{add, sub, mul, div, lt, le, eq, neg, is_nan, of_bits, round}
use Rattle.laws.specs.Loops.{any_in, filter_in, fold_in}
use Rattle.ieee.specs.Root.{root_of}
use Rattle.geometry.specs.Geometry.{dir_of}
use Rattle.geometry.specs.Signed.{in_sector, along_of, disc_on_face, center_on_face}
use Rattle.geometry.proofs.Sectors.{equal_holds_nothing}
use Rattle.ieee.specs.Consts.{zero_f, one_f}
use Rattle.showing.specs.Showing.{shown}
use Rattle.governing.specs.Governing.{governing_of}
use Rattle.demand3.specs.Marked.{toward, Marked}

pub marked : Marked
unfolding dir_of root_of in_sector along_of disc_on_face center_on_face shown governing_of any_in filter_in fold_in of_bits round add sub mul div lt le eq neg is_nan
marked = record {
  three_four = refl;
  no_length = refl;
  too_long = refl;
  least_root = refl;
  zero_root = refl;
  half_turn_in = refl;
  half_turn_out = refl;
  no_sweep = λ u. equal_holds_nothing u (toward one_f zero_f);
  center_above = refl;
  center_at_the_end = refl;
  center_past_the_end = refl;
  above = refl;
  at_the_end = refl;
  past_the_end = refl;
  equal_later = refl;
  shallow = refl;
  touching = refl;
  second_governs = refl;
}
