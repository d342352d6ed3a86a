-- The record that a line is, by its fields: the table of forms. Definitions only.
use Rattle.std.specs.Prelude.{ℕ, ◌+◌, cond, List, [], ◌∷◌, eqb, unwrap_or}
use Prim.Native.Char.{code}
use Prim.Native.String.{String}
use Rattle.geometry.specs.Geometry.{dir_of}
use Rattle.geometry.specs.declared.Point.{Point}
use Rattle.geometry.specs.declared.Dir.{Dir}
use Rattle.geometry.specs.declared.Seg.TheVariants.{Line, Arc}
use Rattle.bodies.specs.declared.Joint.{Joint}
use Rattle.bodies.specs.declared.Joint.TheVariants.{Ground, Revolute, Prismatic}
use Rattle.mechanism.specs.declared.part.Role.{Role}
use Rattle.mechanism.specs.declared.part.Role.TheVariants.{Solid, Cut, Lining}
use Rattle.mechanism.specs.declared.part.Sweep.{Sweep}
use Rattle.mechanism.specs.declared.part.Sweep.TheVariants.{Extruded, Revolved, Milled, Oval}
use Rattle.mechanism.specs.declared.part.SurfaceRef.{SurfaceRef}
use Rattle.mechanism.specs.declared.pair.PairGeometry.TheVariants.{Features, CenterBearing}
use Rattle.text.specs.Bytes.{bytes}
use Rattle.text.specs.Fields.{fits_form, number_at, real_at, letter_at}
use Rattle.text.specs.declared.records.Record.{Record}
use Rattle.text.specs.declared.records.Record.TheVariants.{Coords, Joined, Drawn, Edge, Paired, OnA, OnB, Margin, Turned, Malformed}

module _ (fs : List (List ℕ)) where
  abbrev pub point_at : ℕ → Point
  point_at j = record { x = real_at fs j; y = real_at fs (j + 1) }

  -- `Dir::new` of two floats, and the two floats themselves where that is none
  abbrev pub dir_at : ℕ → Dir
  dir_at j = unwrap_or (dir_of (real_at fs j) (real_at fs (j + 1))) (record { x = real_at fs j; y = real_at fs (j + 1) })

  abbrev pub range_at : SurfaceRef
  range_at = record { part = number_at fs 2; start = number_at fs 3; end = number_at fs 4 }

abbrev pub role_of : ℕ → Role
role_of b = cond (eqb b (code "S")) Solid (cond (eqb b (code "C")) Cut Lining)

-- ---- the table of forms
-- n is a whole number, f a float, r a role's letter S, C or L; a capital letter is that letter. Beside a form, the record of the fields that fit it.
pub record Form : Type 0 where
  pub shape : List ℕ
  pub make : List (List ℕ) → Record

abbrev form : String → (List (List ℕ) → Record) → Form
form s m = record { shape = bytes s; make = m }

-- a J line hangs a body, a P line draws a part
abbrev pub body_of : List (List ℕ) → Joint → Record
body_of fs j = Joined (record { parent = number_at fs 2; joint = j })

abbrev pub part_of : List (List ℕ) → Sweep → Record
part_of fs s = Drawn (number_at fs 1) (role_of (letter_at fs 2)) s

abbrev pub ends : List Form
ends =
    form "Gf" (λ fs. Margin (real_at fs 1))
    ∷ form "Tfff" (λ fs. Turned (record { value = real_at fs 1; sine = real_at fs 2; cosine = real_at fs 3 }))
    ∷ []

abbrev pub sides : List Form
sides =
    form "SAnnn" (λ fs. OnA (range_at fs))
    ∷ form "SBnnn" (λ fs. OnB (range_at fs))
    ∷ ends

abbrev pub pairs : List Form
pairs =
    form "KF" (λ fs. Paired Features)
    ∷ form "KC" (λ fs. Paired CenterBearing)
    ∷ sides

abbrev pub outlines : List Form
outlines =
    form "Lffff" (λ fs. Edge (Line (point_at fs 1) (point_at fs 3)))
    ∷ form "Afffffff" (λ fs. Edge (Arc (point_at fs 1) (real_at fs 3) (dir_at fs 4) (dir_at fs 6)))
    ∷ pairs

abbrev pub parts : List Form
parts =
    form "PnrEff" (λ fs. part_of fs (Extruded (real_at fs 4) (real_at fs 5)))
    ∷ form "PnrRf" (λ fs. part_of fs (Revolved (real_at fs 4)))
    ∷ form "PnrMf" (λ fs. part_of fs (Milled (real_at fs 4)))
    ∷ form "PnrOf" (λ fs. part_of fs (Oval (real_at fs 4)))
    ∷ outlines

abbrev pub joints : List Form
joints =
    form "JGn" (λ fs. body_of fs Ground)
    ∷ form "JRnnff" (λ fs. body_of fs (Revolute (point_at fs 4) (number_at fs 3)))
    ∷ form "JPnnffff" (λ fs. body_of fs (Prismatic (point_at fs 4) (dir_at fs 6) (number_at fs 3)))
    ∷ parts

abbrev pub forms : List Form
forms = form "Mn" (λ fs. Coords (number_at fs 1)) ∷ joints

-- the record of the first form that fits
unfoldable pub first_fit : List Form → List (List ℕ) → Record
first_fit [] fs = Malformed
first_fit (x ∷ xs) fs = cond (fits_form x.shape fs) (x.make fs) (first_fit xs fs)

-- the record of a line's fields
abbrev pub record_of : List (List ℕ) → Record
record_of fs = first_fit forms fs
