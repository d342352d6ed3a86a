-- The description, put together line by line. Definitions only.
use Rattle.std.specs.Prelude.{ℕ, ◌+◌, ◌-◌, ◌<◌, ◌≤◌, cond, List, [], ltb, get_or, set, replicate, Float}
use Rattle.std.specs.Float.{nan}
use Rattle.ieee.specs.Consts.{zero_f}
use Rattle.geometry.specs.declared.Point.{Point}
use Rattle.geometry.specs.declared.Seg.TheVariants.{Line}
use Rattle.bodies.specs.declared.Body.{Body}
use Rattle.bodies.specs.declared.Joint.TheVariants.{Ground}
use Rattle.mechanism.specs.declared.part.Part.{Part}
use Rattle.mechanism.specs.declared.part.Role.{Role}
use Rattle.mechanism.specs.declared.part.Role.TheVariants.{Solid}
use Rattle.mechanism.specs.declared.part.Sweep.{Sweep}
use Rattle.mechanism.specs.declared.part.Sweep.TheVariants.{Extruded, Milled}
use Rattle.mechanism.specs.declared.part.OutlineSeg.{OutlineSeg}
use Rattle.mechanism.specs.declared.part.SurfaceRef.{SurfaceRef}
use Rattle.mechanism.specs.declared.pair.Surface.{Surface}
use Rattle.mechanism.specs.declared.pair.ContactPair.{ContactPair}
use Rattle.mechanism.specs.declared.pair.PairGeometry.{PairGeometry}
use Rattle.mechanism.specs.declared.pair.PairGeometry.TheVariants.{Features}
use Rattle.bodies.specs.declared.pose.Entry.{Entry}
use Rattle.text.specs.declared.records.Record.{Record}
use Rattle.text.specs.declared.records.Record.TheVariants.{Coords, Joined, Drawn, Edge, Paired, OnA, OnB, Margin, Turned, Malformed}
use Rattle.sheet.specs.declared.Entries.{Entries}
use Rattle.sheet.specs.declared.limits.Tally.{Tally}
use Rattle.sheet.specs.declared.draft.Draft.{Draft}

-- ---- blank values: what stands in an array past its count, and in a refused description
abbrev pub no_body : Body
no_body = record { parent = 0; joint = Ground }

abbrev pub no_part : Part
no_part = record { body = 0; segs = 0; sweep = Milled zero_f; role = Solid }

abbrev pub zero_point : Point
zero_point = record { x = zero_f; y = zero_f }

abbrev pub no_seg : OutlineSeg
no_seg = record { seg = Line zero_point zero_point }

abbrev pub no_outlines : List OutlineSeg
no_outlines = replicate 384 no_seg

abbrev pub no_range : SurfaceRef
no_range = record { part = 0; start = 0; end = 0 }

abbrev pub no_surface : Surface
no_surface = record { count = 0; range = replicate 4 no_range }

-- a pair without ranges; the blank one reads features
abbrev pub new_pair : PairGeometry → ContactPair
new_pair g = record { a = no_surface; b = no_surface; geometry = g }

abbrev pub no_entry : Entry
no_entry = record { value = zero_f; sine = zero_f; cosine = zero_f }

abbrev pub no_entries : Entries
no_entries = record { count = 0; entry = replicate 16 no_entry }

unfoldable pub no_draft : Draft
no_draft = record { body = replicate 15 no_body; part = replicate 32 no_part; pair = replicate 16 (new_pair Features); margin = zero_f; entries = no_entries }

-- what `get_or` names for a place past an array's end, of which there is none here
abbrev pub out_part : Part
out_part = record { body = 0; segs = 0; sweep = Extruded nan nan; role = Solid }

abbrev pub out_pair : ContactPair
out_pair = record { a = record { count = 0; range = [] }; b = record { count = 0; range = [] }; geometry = Features }

-- ---- the description with another list
module _ (d : Draft) where
  abbrev pub with_body : List Body → Draft
  with_body l = record { body = l; part = d.part; pair = d.pair; margin = d.margin; entries = d.entries }

  abbrev pub with_part : List Part → Draft
  with_part l = record { body = d.body; part = l; pair = d.pair; margin = d.margin; entries = d.entries }

  abbrev pub with_pair : List ContactPair → Draft
  with_pair l = record { body = d.body; part = d.part; pair = l; margin = d.margin; entries = d.entries }

  abbrev pub with_margin : Float → Draft
  with_margin m = record { body = d.body; part = d.part; pair = d.pair; margin = m; entries = d.entries }

  abbrev pub with_entries : Entries → Draft
  with_entries l = record { body = d.body; part = d.part; pair = d.pair; margin = d.margin; entries = l }

-- ---- each record; n is how many stand before it
-- a part of a P line, which has no segments yet
abbrev pub drawn_part : ℕ → Role → Sweep → Part
drawn_part b r w = record { body = b; segs = 0; sweep = w; role = r }

abbrev pub longer : ℕ → Part → Part
longer k p = record { body = p.body; segs = k; sweep = p.sweep; role = p.role }

abbrev pub grown : Surface → ℕ → SurfaceRef → Surface
grown s n x = record { count = n + 1; range = set s.range n x }

abbrev pub on_a : ℕ → SurfaceRef → ContactPair → ContactPair
on_a m x p = record { a = grown p.a m x; b = p.b; geometry = p.geometry }

abbrev pub on_b : ℕ → SurfaceRef → ContactPair → ContactPair
on_b m x p = record { a = p.a; b = grown p.b m x; geometry = p.geometry }

module _ (d : Draft) (n : ℕ) where
  abbrev pub put_body : Body → Draft
  put_body b = with_body d (set d.body n b)

  abbrev pub put_part : Part → Draft
  put_part p = with_part d (set d.part n p)

  -- the last part now has k segments
  abbrev pub put_seg : ℕ → Draft
  put_seg k = with_part d (set d.part (n - 1) (longer k (get_or d.part (n - 1) out_part)))

  abbrev pub put_pair : ContactPair → Draft
  put_pair p = with_pair d (set d.pair n p)

  -- the last pair has one range more on a side, after m
  abbrev pub put_a : ℕ → SurfaceRef → Draft
  put_a m x = with_pair d (set d.pair (n - 1) (on_a m x (get_or d.pair (n - 1) out_pair)))

  abbrev pub put_b : ℕ → SurfaceRef → Draft
  put_b m x = with_pair d (set d.pair (n - 1) (on_b m x (get_or d.pair (n - 1) out_pair)))

-- sixteen entries are kept, and a count of seventeen stands for any above sixteen
abbrev pub plus_entry : Entries → Entry → Entries
plus_entry l e = cond (ltb l.count 16) (record { count = l.count + 1; entry = set l.entry l.count e }) (record { count = 17; entry = l.entry })

abbrev pub put_entry : Draft → Entry → Draft
put_entry d e = with_entries d (plus_entry d.entries e)

-- a record put into the description; t is the tally before it
unfoldable pub put : Tally → Draft → Record → Draft
put t d (Coords n) = d
put t d (Joined b) = put_body d t.bodies b
put t d (Drawn b r w) = put_part d t.parts (drawn_part b r w)
put t d (Edge g) = put_seg d t.parts (t.drawn + 1)
put t d (Paired g) = put_pair d t.pairs (new_pair g)
put t d (OnA x) = put_a d t.pairs t.a.ranges x
put t d (OnB x) = put_b d t.pairs t.b.ranges x
put t d (Margin m) = with_margin d m
put t d (Turned e) = put_entry d e
put t d Malformed = d

-- the segment of an L or A line; a blank one for any other
abbrev pub edge_of : Record → OutlineSeg
edge_of (Edge g) = record { seg = g }
edge_of (Coords n) = no_seg
edge_of (Joined b) = no_seg
edge_of (Drawn b r w) = no_seg
edge_of (Paired g) = no_seg
edge_of (OnA x) = no_seg
edge_of (OnB x) = no_seg
edge_of (Margin m) = no_seg
edge_of (Turned e) = no_seg
edge_of Malformed = no_seg

-- ---- the record has its place in the arrays: for the contracts of the code
abbrev pub Room : Tally → Record → Type 0
Room t (Joined b) = t.bodies < 15
Room t (Drawn b r w) = t.parts < 32
Room t (Edge g) = (t.parts ≤ 32) × (t.drawn < 48)
Room t (Paired g) = t.pairs < 16
Room t (OnA x) = (t.pairs ≤ 16) × (t.a.ranges < 4)
Room t (OnB x) = (t.pairs ≤ 16) × (t.b.ranges < 4)
Room t (Coords n) = Unit {0}
Room t (Margin m) = Unit {0}
Room t (Turned e) = Unit {0}
Room t Malformed = Unit {0}
