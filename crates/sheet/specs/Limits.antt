-- The limits of a sheet: a tally of the lines so far, and the table of limits. Definitions only.
use Rattle.std.specs.Prelude.{ℕ, ◌+◌, ◌-◌, ◌≤◌, Bool, ◌&&◌, leb}
use Rattle.mechanism.specs.declared.part.SurfaceRef.{SurfaceRef}
use Rattle.text.specs.declared.records.Record.{Record}
use Rattle.text.specs.declared.records.Record.TheVariants.{Coords, Joined, Drawn, Edge, Paired, OnA, OnB, Margin, Turned, Malformed}
use Rattle.sheet.specs.declared.limits.Side.{Side}
use Rattle.sheet.specs.declared.limits.Tally.{Tally}

abbrev pub no_side : Side
no_side = record { ranges = 0; segs = 0 }

abbrev pub no_tally : Tally
no_tally = record { coords = 0; bodies = 0; parts = 0; drawn = 0; segs = 0; pairs = 0; a = no_side; b = no_side }

-- a range counts past-last less first, or nothing where that is not above zero
abbrev pub more_side : Side → SurfaceRef → Side
more_side s x = record { ranges = s.ranges + 1; segs = s.segs + (x.end - x.start) }

module _ (t : Tally) where
  abbrev pub with_coords : ℕ → Tally
  with_coords n = record { coords = n; bodies = t.bodies; parts = t.parts; drawn = t.drawn; segs = t.segs; pairs = t.pairs; a = t.a; b = t.b }

  abbrev pub plus_body : Tally
  plus_body = record { coords = t.coords; bodies = t.bodies + 1; parts = t.parts; drawn = t.drawn; segs = t.segs; pairs = t.pairs; a = t.a; b = t.b }

  abbrev pub plus_part : Tally
  plus_part = record { coords = t.coords; bodies = t.bodies; parts = t.parts + 1; drawn = 0; segs = t.segs; pairs = t.pairs; a = t.a; b = t.b }

  abbrev pub plus_seg : Tally
  plus_seg = record { coords = t.coords; bodies = t.bodies; parts = t.parts; drawn = t.drawn + 1; segs = t.segs + 1; pairs = t.pairs; a = t.a; b = t.b }

  abbrev pub plus_pair : Tally
  plus_pair = record { coords = t.coords; bodies = t.bodies; parts = t.parts; drawn = t.drawn; segs = t.segs; pairs = t.pairs + 1; a = no_side; b = no_side }

  abbrev pub plus_a : SurfaceRef → Tally
  plus_a x = record { coords = t.coords; bodies = t.bodies; parts = t.parts; drawn = t.drawn; segs = t.segs; pairs = t.pairs; a = more_side t.a x; b = t.b }

  abbrev pub plus_b : SurfaceRef → Tally
  plus_b x = record { coords = t.coords; bodies = t.bodies; parts = t.parts; drawn = t.drawn; segs = t.segs; pairs = t.pairs; a = t.a; b = more_side t.b x }

-- the tally with one line more
unfoldable pub counted : Tally → Record → Tally
counted t (Coords n) = with_coords t n
counted t (Joined b) = plus_body t
counted t (Drawn b r w) = plus_part t
counted t (Edge g) = plus_seg t
counted t (Paired g) = plus_pair t
counted t (OnA x) = plus_a t x
counted t (OnB x) = plus_b t x
counted t (Margin m) = t
counted t (Turned e) = t
counted t Malformed = t

-- the table of limits: ranges and segments of a side; coordinates, bodies above the ground, parts, segments of a part, of all parts, pairs
abbrev pub side_within : Side → Bool
side_within s = leb s.ranges 4 && leb s.segs 12

unfoldable pub within_limits : Tally → Bool
within_limits t =
    leb t.coords 16 && (leb t.bodies 15 && ((leb t.parts 32 && (leb t.drawn 48 && leb t.segs 384)) && (leb t.pairs 16 && (side_within t.a && side_within t.b))))

-- ---- the same as facts, for the contracts of the code
pub record Bounds (t : Tally) : Type 0 where
  pub coords : t.coords ≤ 16
  pub bodies : t.bodies ≤ 15
  pub parts : t.parts ≤ 32
  pub drawn : t.drawn ≤ 48
  pub segs : t.segs ≤ 384
  pub pairs : t.pairs ≤ 16
  pub a_ranges : t.a.ranges ≤ 4
  pub a_segs : t.a.segs ≤ 12
  pub b_ranges : t.b.ranges ≤ 4
  pub b_segs : t.b.segs ≤ 12

-- a range ends at a whole number of the text
abbrev pub Narrow : Record → Type 0
Narrow (OnA x) = x.end ≤ 65535
Narrow (OnB x) = x.end ≤ 65535
Narrow (Coords n) = Unit {0}
Narrow (Joined b) = Unit {0}
Narrow (Drawn b r w) = Unit {0}
Narrow (Edge g) = Unit {0}
Narrow (Paired g) = Unit {0}
Narrow (Margin m) = Unit {0}
Narrow (Turned e) = Unit {0}
Narrow Malformed = Unit {0}
