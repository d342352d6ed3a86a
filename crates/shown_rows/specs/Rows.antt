-- The rows of a mechanism at a pose (contact/rows.rs: hiding, margin, `push`, `rows`), with their gradients and slips. Definitions only.
use Rattle.std.specs.Prelude.{ℕ, ◌*◌, Bool, true, ◌&&◌, List, map, leb, length, Float, Result, Ok, Err}
use Rattle.std.proofs.lemmas.List.Edits.{sets}
use Rattle.laws.specs.Lists.{flat, list_in}
use Rattle.geometry.specs.Geometry.{vector_of}
use Rattle.bodies.specs.Check.{Checked}
use Rattle.bodies.specs.Pose.{pose_fits}
use Rattle.bodies.specs.declared.Bodies.{Bodies}
use Rattle.bodies.specs.declared.Problem.{Problem}
use Rattle.bodies.specs.declared.pose.Pose.{Pose}
use Rattle.mechanism.specs.Check.{call_checked}
use Rattle.mechanism.specs.Description.{pair_at}
use Rattle.mechanism.specs.Rows.{RowLists, place_row, value_row}
use Rattle.mechanism.specs.declared.Mechanism.{Mechanism}
use Rattle.mechanism.specs.declared.Outlines.{Outlines}
use Rattle.mechanism.specs.declared.Parts.{Parts}
use Rattle.mechanism.specs.declared.pair.ContactPair.{ContactPair}
use Rattle.mechanism.specs.declared.rows.Row.{Row}
use Rattle.sides.specs.Contacts.{pair_features, mechanism_bound}
use Rattle.sides.specs.declared.contacts.PairFeatures.{PairFeatures}
use Rattle.candidates.specs.Candidates.{pair_candidates}
use Rattle.pair_rows.specs.PairRows.{candidate_at, shown_of, row_of, along_of, left_of}

-- ---- rows
unfoldable pub pair_rows : Parts → Outlines → Pose → ContactPair → ℕ → Float → List Row
pair_rows ps o q p pair m = let cs = pair_candidates ps o q p in map (λ i. row_of pair (candidate_at cs i)) (shown_of cs m)

-- ---- gradients and slips
unfoldable pub grad_of : Bodies → Pose → PairFeatures → Row → List Float
grad_of b q f r = along_of b q (vector_of r.normal) r.point f.a.body f.b.body

unfoldable pub slip_of : Bodies → Pose → PairFeatures → Row → List Float
slip_of b q f r = along_of b q (left_of (vector_of r.normal)) r.point f.a.body f.b.body

-- ---- all pairs, in order
abbrev pub pair_numbers : Mechanism → List ℕ
pair_numbers m = list_in (λ i. i) m.pairs.count 0

abbrev pub rows_of_pair : Mechanism → Pose → Float → ℕ → List Row
rows_of_pair m q margin i = pair_rows m.parts m.outlines q (pair_at m.pairs i) i margin

abbrev pub features_of_pair : Mechanism → ℕ → PairFeatures
features_of_pair m i = pair_features m.parts m.outlines (pair_at m.pairs i)

unfoldable pub rows_of : Mechanism → Pose → Float → List Row
rows_of m q margin = flat (rows_of_pair m q margin) (pair_numbers m)

-- the gradients of all rows, one row behind the other, and the slips
abbrev pub grads_of_pair : Mechanism → Pose → Float → ℕ → List Float
grads_of_pair m q margin i = flat (grad_of m.bodies q (features_of_pair m i)) (rows_of_pair m q margin i)

abbrev pub slips_of_pair : Mechanism → Pose → Float → ℕ → List Float
slips_of_pair m q margin i = flat (slip_of m.bodies q (features_of_pair m i)) (rows_of_pair m q margin i)

unfoldable pub grads_of : Mechanism → Pose → Float → List Float
grads_of m q margin = flat (grads_of_pair m q margin) (pair_numbers m)

unfoldable pub slips_of : Mechanism → Pose → Float → List Float
slips_of m q margin = flat (slips_of_pair m q margin) (pair_numbers m)

-- 13: fewer rows than the mechanism's bound, or fewer gradients or slips than the bound times the coordinates
abbrev pub room_for : Mechanism → (places values grad slip : ℕ) → Bool
room_for m places values grad slip =
    let bound = mechanism_bound m in
    let columns = bound * m.bodies.coords in
    (leb bound places && leb bound values) && (leb columns grad && leb columns slip)

abbrev pub rows_checked : Mechanism → Pose → (places values grad slip : ℕ) → Checked
rows_checked m q places values grad slip = call_checked m (pose_fits m.bodies q) true (room_for m places values grad slip)

abbrev pub answer_if : Checked → ℕ → Result ℕ Problem
answer_if (Ok tt) n = Ok n
answer_if (Err p) n = Err p

-- what is written where the call is not refused
abbrev pub if_accepted : {A : Type 0} → Checked → List A → List A → List A
if_accepted (Ok tt) written before = written
if_accepted (Err p) written before = before

-- ---- in lent arrays
-- the refusals of a call that was lent these
abbrev pub rows_asked : Mechanism → Pose → RowLists → Checked
rows_asked m q l = rows_checked m q (length l.places) (length l.values) (length l.grad) (length l.slip)

-- all rows, as they stand in lent arrays
abbrev pub shown_lists : Mechanism → Pose → Float → RowLists
shown_lists m q margin = record {
  places = map place_row (rows_of m q margin);
  values = map value_row (rows_of m q margin);
  grad = grads_of m q margin;
  slip = slips_of m q margin;
}

-- what is written stands in front where the call is not refused; everything else is as before
abbrev pub rows_over : Checked → (written before : RowLists) → RowLists
rows_over (Ok tt) w b = record { places = sets b.places 0 w.places; values = sets b.values 0 w.values; grad = sets b.grad 0 w.grad; slip = sets b.slip 0 w.slip }
rows_over (Err p) w b = b
