-- How many features a side has, and how many rows a pair can give (document 01, "Size of a sheet"). Definitions only.
use Rattle.std.specs.Prelude.{ℕ, ◌+◌, ◌*◌, ◌<◌, ◌≤◌, List, length}
use Rattle.mechanism.specs.Description.{sum_in, part_at, segs_of, range_at, range_length, side_length, silhouette_length}
use Rattle.mechanism.specs.declared.Parts.{Parts}
use Rattle.mechanism.specs.declared.pair.PairGeometry.{PairGeometry}
use Rattle.mechanism.specs.declared.pair.PairGeometry.TheVariants.{Features, CenterBearing}
use Rattle.mechanism.specs.declared.pair.Surface.{Surface}
use Rattle.mechanism.specs.declared.part.SurfaceRef.{SurfaceRef}
use Rattle.sides.specs.declared.SideFeatures.{SideFeatures}
use Rattle.sides.specs.Features.{Run, run_at}

-- the segments of the first k ranges
abbrev pub total : List Run → ℕ → ℕ
total ts k = sum_in (λ j. (run_at ts j).count) k 0

-- every range has a segment, and all of them have twelve at most
pub record Runs (ts : List Run) : Type 0 where
  pub some : (k : ℕ) → k < length ts → 0 < (run_at ts k).count
  pub few : total ts (length ts) ≤ 12
  pub ranges : length ts ≤ 4

-- what refusals 3 and 8 leave of a range and of a side
pub record DrawnRange (ps : Parts) (r : SurfaceRef) : Type 0 where
  pub part : r.part < ps.count
  pub some : r.start < r.end
  pub within : r.end ≤ silhouette_length (part_at ps r.part).sweep (segs_of ps r.part)
  pub few : range_length r ≤ 12

pub record DrawnSide (ps : Parts) (u : Surface) : Type 0 where
  pub some : 0 < u.count
  pub ranges : u.count ≤ 4
  pub drawn : (k : ℕ) → k < u.count → DrawnRange ps (range_at u k)
  pub few : side_length u ≤ 12

-- document 01's row bound of a pair
abbrev pub row_bound : PairGeometry → SideFeatures → SideFeatures → ℕ
row_bound Features a b = a.discs * b.faces + b.discs * a.faces + a.discs * b.discs
row_bound CenterBearing a b = a.faces
