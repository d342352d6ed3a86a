-- What the steps of `rows` do: the pairs one behind the other. Definitions only.
use Rattle.std.specs.Prelude.{ℕ, ◌+◌, ◌*◌, ◌<◌, ◌≤◌, ◌≡◌, List, [], length, take, get_or, Float, Ok}
use Rattle.std.proofs.lemmas.List.Edits.{sets}
use Rattle.laws.specs.Lists.{list_in}
use Rattle.laws.specs.Loops.{join_in}
use Rattle.bodies.specs.declared.pose.Pose.{Pose}
use Rattle.mechanism.specs.Check.{check_of}
use Rattle.mechanism.specs.Rows.{RowLists, row_in}
use Rattle.mechanism.specs.declared.Mechanism.{Mechanism}
use Rattle.mechanism.specs.declared.rows.Row.{Row}
use Rattle.sides.specs.Contacts.{pair_bound}
use Rattle.shown_rows.specs.Rows.{rows_of_pair, grads_of_pair, slips_of_pair}
use Rattle.record_rows.specs.declared.PairRecords.{PairRecords}

-- the rows, gradients and slips of the first n pairs
abbrev pub rows_first : Mechanism → Pose → Float → ℕ → List Row
rows_first m q margin n = join_in (rows_of_pair m q margin) n 0

abbrev pub grads_first : Mechanism → Pose → Float → ℕ → List Float
grads_first m q margin n = join_in (grads_of_pair m q margin) n 0

abbrev pub slips_first : Mechanism → Pose → Float → ℕ → List Float
slips_first m q margin n = join_in (slips_of_pair m q margin) n 0

-- four arrays that rows stand in
abbrev pub lists_in : List (List ℕ) → List (List Float) → List Float → List Float → RowLists
lists_in places values grad slip = record { places = places; values = values; grad = grad; slip = slip }

-- row i of two arrays of numbers, and the first n of them
abbrev pub row_at : List (List ℕ) → List (List Float) → ℕ → Row
row_at places values i = row_in (get_or places i []) (get_or values i [])

abbrev pub records_in : List (List ℕ) → List (List Float) → ℕ → List Row
records_in places values n = list_in (row_at places values) n 0

-- the records held
abbrev pub held_in : PairRecords → List Row
held_in p = take p.count p.row

-- there is such a pair, and room for its bound of gradients and slips behind `at` rows
pub record PairRoom (m : Mechanism) (i at grad slip : ℕ) : Type 0 where
  pub accepted : check_of m ≡ Ok tt
  pub there : i < m.pairs.count
  pub grad_room : (at + pair_bound m i) * m.bodies.coords ≤ grad
  pub slip_room : (at + pair_bound m i) * m.bodies.coords ≤ slip

-- the rows of pair i are held, and their gradients and slips stand behind those of `at` rows
pub record PairRead (m : Mechanism) (q : Pose) (margin : Float) (i at : ℕ) (r : PairRecords) (grad₀ grad slip₀ slip : List Float) : Type 0 where
  pub few : r.count ≤ 784
  pub counted : r.count ≡ length (rows_of_pair m q margin i)
  pub held : held_in r ≡ rows_of_pair m q margin i
  pub grads : grad ≡ sets grad₀ (at * m.bodies.coords) (grads_of_pair m q margin i)
  pub slips : slip ≡ sets slip₀ (at * m.bodies.coords) (slips_of_pair m q margin i)
