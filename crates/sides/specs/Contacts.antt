-- `PairFeatures::of` (contact/features.rs) and `with_contacts` (mechanism/mod.rs): the features of every side of an accepted description. Definitions only.
use Rattle.std.specs.Prelude.{ℕ, ◌<◌, Bool, true, false, cond, [], map, take, Result, Ok, Err}
use Rattle.laws.specs.Fill.{filled}
use Rattle.mechanism.specs.Check.{check_of, pair_drawn}
use Rattle.mechanism.specs.Description.{sum_in, pair_at}
use Rattle.mechanism.specs.declared.Mechanism.{Mechanism}
use Rattle.mechanism.specs.declared.Outlines.{Outlines}
use Rattle.mechanism.specs.declared.Pairs.{Pairs}
use Rattle.mechanism.specs.declared.Parts.{Parts}
use Rattle.mechanism.specs.declared.features.Piece.TheVariants as Piece
use Rattle.mechanism.specs.declared.pair.ContactPair.{ContactPair}
use Rattle.mechanism.specs.declared.pair.PairGeometry.{PairGeometry}
use Rattle.mechanism.specs.declared.pair.PairGeometry.TheVariants.{Features, CenterBearing}
use Rattle.sides.specs.Features.{side_from, side_of, no_point}
use Rattle.sides.specs.Bounds.{row_bound, DrawnSide}
use Rattle.sides.specs.declared.contacts.PairFeatures.{PairFeatures}
use Rattle.sides.specs.declared.contacts.Contacts.{Contacts}
use Rattle.bodies.specs.declared.Problem.{Problem}
use Rattle.bodies.specs.Check.{Checked}

-- side B's centre is asked for where it is read
abbrev pub center_of_b : PairGeometry → Bool
center_of_b Features = false
center_of_b CenterBearing = true

unfoldable pub pair_features : Parts → Outlines → ContactPair → PairFeatures
pair_features ps o p = record { a = side_of ps o p.a false; b = side_of ps o p.b (center_of_b p.geometry) }

abbrev pub no_pair_features : PairFeatures
no_pair_features = record { a = side_from 0 [] [] (Piece.Center 0) no_point; b = side_from 0 [] [] (Piece.Center 0) no_point }

-- of any values: none where a side is not drawn
unfoldable pub pair_features_at : Parts → Outlines → ContactPair → PairFeatures
pair_features_at ps o p = cond (pair_drawn ps p) (pair_features ps o p) no_pair_features

-- the features pair by pair
abbrev pub all_contacts : Parts → Outlines → Pairs → Contacts
all_contacts ps o pairs = record { count = pairs.count; pair = filled 16 no_pair_features (map (pair_features ps o) (take pairs.count pairs.pair)) }

-- those, or the first refusal
abbrev pub contacts_if : Checked → Parts → Outlines → Pairs → Result Contacts Problem
contacts_if (Ok tt) ps o pairs = Ok (all_contacts ps o pairs)
contacts_if (Err p) ps o pairs = Err p

unfoldable pub contacts_of : Mechanism → Result Contacts Problem
contacts_of m = contacts_if (check_of m) m.parts m.outlines m.pairs

-- document 01's row bound of a pair of a mechanism, and of the mechanism: the sum of its pairs'
abbrev pub pair_bound : Mechanism → ℕ → ℕ
pair_bound m i =
    let p = pair_at m.pairs i in
    let f = pair_features m.parts m.outlines p in
    row_bound p.geometry f.a f.b

unfoldable pub mechanism_bound : Mechanism → ℕ
mechanism_bound m = sum_in (pair_bound m) m.pairs.count 0

-- what an accepted description is known to be
pub record DrawnPairs (ps : Parts) (pairs : Pairs) : Type 0 where
  pub a : (i : ℕ) → i < pairs.count → DrawnSide ps (pair_at pairs i).a
  pub b : (i : ℕ) → i < pairs.count → DrawnSide ps (pair_at pairs i).b
