-- How many faces and discs the sides of an accepted description have at most, and how many rows its pairs (document 01, "Size of a sheet"). Definitions only.
use Rattle.std.specs.Prelude.{ℕ, ◌+◌, ◌*◌, ◌<◌, ◌≤◌}
use Rattle.mechanism.specs.Description.{pair_at}
use Rattle.mechanism.specs.declared.Mechanism.{Mechanism}
use Rattle.mechanism.specs.declared.pair.PairGeometry.{PairGeometry}
use Rattle.sides.specs.declared.SideFeatures.{SideFeatures}
use Rattle.sides.specs.declared.contacts.PairFeatures.{PairFeatures}
use Rattle.sides.specs.Bounds.{row_bound}
use Rattle.sides.specs.Contacts.{pair_features, mechanism_bound}

-- a side: at most 12 faces and at most 28 discs, and of both together at most 28
pub record FewOnSide (f : SideFeatures) : Type 0 where
  pub faces : f.faces ≤ 12
  pub discs : f.discs ≤ 28
  pub features : f.faces + f.discs ≤ 28

-- a pair: both its sides, and at most 784 rows
pub record FewFeatures (geometry : PairGeometry) (f : PairFeatures) : Type 0 where
  pub a : FewOnSide f.a
  pub b : FewOnSide f.b
  pub rows : row_bound geometry f.a f.b ≤ 784

-- a description: every pair, and at most so many rows for all of them
pub record Sized (m : Mechanism) : Type 0 where
  pub pair : (i : ℕ) → i < m.pairs.count → FewFeatures (pair_at m.pairs i).geometry (pair_features m.parts m.outlines (pair_at m.pairs i))
  pub bound : mechanism_bound m ≤ 784 * m.pairs.count
