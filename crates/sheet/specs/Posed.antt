-- The pose that the entries of a text give. Definitions only.
use Rattle.std.specs.Prelude.{true, List, [], ◌∷◌, map, eqb, take, Float, Result}
use Rattle.bodies.specs.Pose.{posed_of}
use Rattle.bodies.specs.declared.pose.Entry.{Entry}
use Rattle.bodies.specs.declared.Problem.{Problem}
use Rattle.bodies.specs.declared.pose.Pose.{Pose}
use Rattle.mechanism.specs.Check.{call_checked}
use Rattle.mechanism.specs.declared.Mechanism.{Mechanism}
use Rattle.sheet.specs.declared.Entries.{Entries}

abbrev pub entry_row : Entry → List Float
entry_row e = e.value ∷ e.sine ∷ e.cosine ∷ []

-- those that are counted, as far as there are any
abbrev pub lent_of : Entries → List (List Float)
lent_of e = map entry_row (take e.count e.entry)

-- refused by 3 to 11: there is one entry a coordinate, by the count itself
abbrev pub pose_of : Mechanism → Entries → Result Pose Problem
pose_of m e = posed_of (call_checked m (eqb e.count m.bodies.coords) true true) m.bodies (lent_of e)
