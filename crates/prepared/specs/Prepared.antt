-- The tables of a description, in lent arrays, and what is read over them. Definitions only.
use Rattle.std.specs.Prelude.{ℕ, ◌≡◌, List, Float, length, Ok}
use Rattle.bodies.specs.Check.{and_then}
use Rattle.mechanism.specs.Check.{check_of}
use Rattle.bodies.specs.Pose.{bodies_placed, bodies_posed}
use Rattle.mechanism.specs.Pose.{pose_checked}
use Rattle.mechanism.specs.declared.Mechanism.{Mechanism}
use Rattle.bodies.specs.declared.pose.Pose.{Pose}
use Rattle.sides.specs.Contacts.{mechanism_bound}
use Rattle.overlap.specs.Overlap.{pair_overlap_answer}
use Rattle.overlap.specs.Prepared.{pair_overlap_answer_in}
use Rattle.shown_rows.specs.Rows.{rows_of, grads_of, slips_of, rows_checked}
use Rattle.prepared_rows.specs.Prepared.{all_rows, all_grads, all_slips, bounds_in, prepared_checked}
use Rattle.reading.specs.Reading.{pair_readings, reading_of}
use Rattle.reading.specs.Prepared.{pair_readings_in, read_in, read_checked}
use Rattle.strips.specs.Strips.{TableRows}
use Rattle.tables.specs.Tables.{lent_rows, prepared_over}
use Rattle.drawing.specs.Points.{Agrees}
use Rattle.tables.specs.Tables.{face_table, face_name_table, disc_table, disc_name_table, side_table, center_table, choice_table}
use Rattle.drawing.specs.Points.{drawn_table, sampled_table, part_table}
use Rattle.tables.specs.declared.Arrays.{Arrays}

-- the tables of m stand in the front of t, that of its parts with nothing behind it
pub record Holds (m : Mechanism) (t : TableRows) : Type 0 where
  pub faces : Agrees t.faces (face_table m)
  pub fnames : Agrees t.fnames (face_name_table m)
  pub discs : Agrees t.discs (disc_table m)
  pub dnames : Agrees t.dnames (disc_name_table m)
  pub sides : Agrees t.sides (side_table m)
  pub centers : Agrees t.centers (center_table m)
  pub choices : Agrees t.choices (choice_table m)
  pub drawn : Agrees t.drawn (drawn_table m.parts m.outlines)
  pub sampled : Agrees t.sampled (sampled_table m.parts m.outlines)
  pub parts : t.parts ≡ part_table m.parts m.outlines

-- what is read over t is what the description gives
pub record ReadsAs (m : Mechanism) (t : TableRows) : Type 0 where
  pub rows : (q : Pose) (margin : Float) → all_rows t q margin m.pairs.count ≡ rows_of m q margin
  pub grads : (q : Pose) (margin : Float) → all_grads t m.bodies q margin m.pairs.count ≡ grads_of m q margin
  pub slips : (q : Pose) (margin : Float) → all_slips t m.bodies q margin m.pairs.count ≡ slips_of m q margin
  pub bounds : bounds_in t m.pairs.count ≡ mechanism_bound m
  pub checks : (q : Pose) (w x y z : ℕ) → prepared_checked m.bodies m.pairs.count t q w x y z ≡ rows_checked m q w x y z
  pub pair_overlaps : (q : Pose) (i : ℕ) → pair_overlap_answer_in t m.bodies m.pairs.count q i ≡ pair_overlap_answer m q i
  pub pair_readings : (q : Pose) (places : List (List ℕ)) (values : List (List Float)) (n : ℕ) → pair_readings_in t q places values n m.pairs.count ≡ pair_readings m q places values n
  pub reading : (q : Pose) (margin : Float) (w x y z : ℕ)
      → read_in t (prepared_checked m.bodies m.pairs.count t q w x y z) m.pairs.count q (all_rows t q margin m.pairs.count) ≡ reading_of m q margin w x y z
  pub posed : (entries : List (List Float)) → bodies_posed m.bodies entries ≡ pose_checked m entries
  pub read_checks : (entries : List (List Float)) (w x y z : ℕ)
      → read_checked m.bodies m.pairs.count t entries w x y z ≡ and_then (pose_checked m entries) (rows_checked m (bodies_placed m.bodies entries) w x y z)

-- arrays by their lengths
pub record Lent (a : Arrays) : Type 0 where
  pub faces : length a.faces ≡ 384
  pub fnames : length a.fnames ≡ 384
  pub discs : length a.discs ≡ 896
  pub dnames : length a.dnames ≡ 896
  pub sides : length a.sides ≡ 32
  pub centers : length a.centers ≡ 32
  pub choices : length a.choices ≡ 64
  pub drawn : length a.drawn ≡ 6144
  pub sampled : length a.sampled ≡ 13056
  pub parts : length a.parts ≡ 32

-- after `prepare` of an accepted description, whatever stood in the arrays before, they lend its tables, and what is read over these is what the description gives
abbrev pub PrepareReads : Mechanism → Type 0
PrepareReads m = (a : Arrays) → Lent a → check_of m ≡ Ok tt
    → Holds m (lent_rows (prepared_over (check_of m) a m) m.parts.count) × ReadsAs m (lent_rows (prepared_over (check_of m) a m) m.parts.count)
