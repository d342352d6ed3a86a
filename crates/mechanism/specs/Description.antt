-- Reading a description: its bodies, parts, outlines and pairs by number. What stands past a list's end is never part of a description; here it has some value, so that
-- every definition is total. Definitions only.
use Rattle.std.specs.Prelude.{ℕ, ◌+◌, ◌-◌, [], get_or}
use Rattle.std.specs.Float.{nan}
use Rattle.laws.specs.Loops.{fold_in}
use Rattle.bodies.specs.Description.{no_point}
use Rattle.geometry.specs.declared.Seg.{Seg}
use Rattle.geometry.specs.declared.Seg.TheVariants.{Line}
use Rattle.mechanism.specs.declared.Parts.{Parts}
use Rattle.mechanism.specs.declared.Outlines.{Outlines}
use Rattle.mechanism.specs.declared.Pairs.{Pairs}
use Rattle.mechanism.specs.declared.part.Part.{Part}
use Rattle.mechanism.specs.declared.part.OutlineSeg.{OutlineSeg}
use Rattle.mechanism.specs.declared.part.Role.TheVariants.{Solid}
use Rattle.mechanism.specs.declared.part.Sweep.{Sweep}
use Rattle.mechanism.specs.declared.part.Sweep.TheVariants.{Extruded, Revolved, Milled, Oval}
use Rattle.mechanism.specs.declared.part.SurfaceRef.{SurfaceRef}
use Rattle.mechanism.specs.declared.pair.Surface.{Surface}
use Rattle.mechanism.specs.declared.pair.ContactPair.{ContactPair}
use Rattle.mechanism.specs.declared.pair.PairGeometry.TheVariants.{Features}

-- ---- what stands past a list's end
abbrev pub no_part : Part
no_part = record { body = 0; segs = 0; sweep = Extruded nan nan; role = Solid }

abbrev pub no_seg : OutlineSeg
no_seg = record { seg = Line no_point no_point }

abbrev pub no_range : SurfaceRef
no_range = record { part = 0; start = 0; end = 0 }

abbrev pub no_surface : Surface
no_surface = record { count = 0; range = [] }

abbrev pub no_pair : ContactPair
no_pair = record { a = no_surface; b = no_surface; geometry = Features }

-- ---- by number
abbrev pub part_at : Parts → ℕ → Part
part_at p i = get_or p.part i no_part

abbrev pub pair_at : Pairs → ℕ → ContactPair
pair_at p i = get_or p.pair i no_pair

abbrev pub range_at : Surface → ℕ → SurfaceRef
range_at u i = get_or u.range i no_range

abbrev pub seg_at : Outlines → ℕ → Seg
seg_at o i = (get_or o.seg i no_seg).seg

-- the sum of the k numbers from j on
abbrev pub sum_in : (ℕ → ℕ) → ℕ → ℕ → ℕ
sum_in f k j = fold_in (λ s i. s + f i) 0 k j

-- ---- outlines: a part's segments start where those of the parts before it end
abbrev pub segs_of : Parts → ℕ → ℕ
segs_of p i = (part_at p i).segs

abbrev pub start_of_part : Parts → ℕ → ℕ
start_of_part p i = sum_in (segs_of p) i 0

-- how many segments a part's silhouette has (contact/mod.rs): those of its outline, or, turned about an axis, of its chain without the last one and of the mirror
abbrev pub turned_length : ℕ → ℕ
turned_length n = (n - 1) + (n - 1)

abbrev pub silhouette_length : Sweep → ℕ → ℕ
silhouette_length (Extruded w a) n = n
silhouette_length (Revolved x) n = turned_length n
silhouette_length (Milled w) n = n
silhouette_length (Oval w) n = n

-- ---- sides
-- how many segments a range counts: past-last less first, or none
abbrev pub range_length : SurfaceRef → ℕ
range_length r = r.end - r.start

abbrev pub side_length : Surface → ℕ
side_length u = sum_in (λ i. range_length (range_at u i)) u.count 0
