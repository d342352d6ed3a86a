-- The order of lines: M, J, P with its L and A, K with its S, G, T; of a pair's S lines those of side A before those of B. Definitions only.
use Rattle.std.specs.Prelude.{ℕ, Bool, false, ◌&&◌, ◌||◌, leb, eqb}
use Prim.Native.Char.{code}
use Rattle.text.specs.declared.records.Record.{Record}
use Rattle.text.specs.declared.records.Record.TheVariants.{Coords, Joined, Drawn, Edge, Paired, OnA, OnB, Margin, Turned, Malformed}
use Rattle.sheet.specs.declared.grammar.Place.{Place}
use Rattle.sheet.specs.declared.grammar.Standing.{Standing}

-- the stages of a text, by its last line: none yet; M or J; P, L or A; K or S,A; S,B; G or T
abbrev start : ℕ
start = 0

abbrev bodies : ℕ
bodies = 1

abbrev parts : ℕ
parts = 2

abbrev side_a : ℕ
side_a = 3

abbrev side_b : ℕ
side_b = 4

abbrev pose : ℕ
pose = 5

-- a record may follow the stages from low to high, and leads to the next
abbrev pub may : ℕ → ℕ → ℕ → Place
may l h n = record { low = l; high = h; next = n }

-- the grammar; a malformed line may follow none
abbrev pub place_of : Record → Place
place_of (Coords n) = may start start bodies
place_of (Joined b) = may start bodies bodies
place_of (Drawn b r s) = may start parts parts
place_of (Edge g) = may parts parts parts
place_of (Paired g) = may start side_b side_a
place_of (OnA x) = may side_a side_a side_a
place_of (OnB x) = may side_a side_b side_b
place_of (Margin m) = may start side_b pose
place_of (Turned e) = may pose pose pose
place_of Malformed = may bodies start start

-- the letter of a record's kind; A lines are of L's
abbrev pub kind_of : Record → ℕ
kind_of (Coords n) = code "M"
kind_of (Joined b) = code "J"
kind_of (Drawn b r s) = code "P"
kind_of (Edge g) = code "L"
kind_of (Paired g) = code "K"
kind_of (OnA x) = code "S"
kind_of (OnB x) = code "S"
kind_of (Margin m) = code "G"
kind_of (Turned e) = code "T"
kind_of Malformed = 0

-- how far a text has come: its stage, and whether M was read
abbrev pub no_line : Standing
no_line = record { stage = start; headed = false }

abbrev pub after : Standing → Record → Standing
after s r = record { stage = (place_of r).next; headed = s.headed || eqb (kind_of r) (code "M") }

abbrev pub follows : Standing → Record → Bool
follows s r = leb (place_of r).low s.stage && leb s.stage (place_of r).high

-- a text may end after a newline, once M and G were read
abbrev pub may_end : ℕ → Standing → Bool
may_end left s = eqb left 0 && (s.headed && eqb s.stage pose)
