-- How far side B's drawn faces stand past side A's, over a prepared description. Definitions only.
use Rattle.std.specs.Prelude.{ℕ, Float}
use Rattle.bodies.specs.declared.pose.Pose.{Pose}
use Rattle.strips.specs.Strips.{TableRows, pair_in}
use Rattle.faces.specs.Faces.{sides_overlap}

unfoldable pub face_overlap_in : TableRows → Pose → ℕ → Float
face_overlap_in t q i = sides_overlap (pair_in t i) q
