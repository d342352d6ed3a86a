-- The faces and discs of a side of tables are those of its rows. Assumes nothing.
use Prim.Native.Nat.{ℕ, ◌+◌, ◌<◌, ◌≤◌}
use native.Mathlib.Omega.{arith}
use mathlib.Core.Path.{◌≡◌, sym, ap, ◌∙◌}
use lib.ListN.{length, get_or}
use Rattle.laws.proofs.Fill.{take-filled}
use Rattle.laws.proofs.Lists.{list_get, list_length}
use Rattle.geometry.specs.declared.Point.{Point}
use Rattle.sides.specs.Features.{no_face, no_disc, faces_in, discs_in}
use Rattle.strips.specs.Held.{features_of}
use Rattle.strips.specs.Strips.{TableRows, table_rows, face_at, disc_at, faces_of_side, discs_of_side, features_by}
use Rattle.strips.specs.declared.SideFacts.{SideFacts}
use Rattle.strips.specs.declared.held.TableSide.{TableSide}

-- ---- the features by a row hold the row's faces and discs, where they have room for them
module _ (t : TableRows) (s : SideFacts) (center : Point) where
  pub faces_listed : s.faces ≤ 12 → faces_in (features_by t s center) ≡ faces_of_side t s
  faces_listed h = let e = list_length (face_at t) s.faces s.face in take-filled 12 no_face (faces_of_side t s) (omega arith)

  pub discs_listed : s.discs ≤ 28 → discs_in (features_by t s center) ≡ discs_of_side t s
  discs_listed h = let e = list_length (disc_at t) s.discs s.disc in take-filled 28 no_disc (discs_of_side t s) (omega arith)

-- ---- the same by a side of tables
pub faces_held : (s : TableSide) → faces_in (features_of s) ≡ faces_of_side (table_rows s.tables) s.facts
faces_held s = faces_listed (table_rows s.tables) s.facts s.center s.faces_few

pub discs_held : (s : TableSide) → discs_in (features_of s) ≡ discs_of_side (table_rows s.tables) s.facts
discs_held s = discs_listed (table_rows s.tables) s.facts s.center s.discs_few

pub faces_counted : (s : TableSide) → s.facts.faces ≡ length (faces_in (features_of s))
faces_counted s = sym (ap length (faces_held s) ∙ list_length (face_at (table_rows s.tables)) s.facts.faces s.facts.face)

pub discs_counted : (s : TableSide) → s.facts.discs ≡ length (discs_in (features_of s))
discs_counted s = sym (ap length (discs_held s) ∙ list_length (disc_at (table_rows s.tables)) s.facts.discs s.facts.disc)

pub face_held : (s : TableSide) (i : ℕ) → i < s.facts.faces → face_at (table_rows s.tables) (s.facts.face + i) ≡ get_or (faces_in (features_of s)) i no_face
face_held s i h = sym (ap (λ l. get_or l i no_face) (faces_held s) ∙ list_get (face_at (table_rows s.tables)) no_face s.facts.faces s.facts.face i h)

pub disc_held : (s : TableSide) (i : ℕ) → i < s.facts.discs → disc_at (table_rows s.tables) (s.facts.disc + i) ≡ get_or (discs_in (features_of s)) i no_disc
disc_held s i h = sym (ap (λ l. get_or l i no_disc) (discs_held s) ∙ list_get (disc_at (table_rows s.tables)) no_disc s.facts.discs s.facts.disc i h)
