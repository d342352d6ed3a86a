-- The candidates of a pair at a pose, over a prepared description. Definitions only.
use Rattle.std.specs.Prelude.{ℕ, ◌+◌, ◌*◌, Bool, cond, List, leb, eqb}
use Rattle.bodies.specs.declared.pose.Pose.{Pose}
use Rattle.material.specs.Material.{Material}
use Rattle.drawing.specs.Prepared.{choice_at, material_or}
use Rattle.strips.specs.Strips.{TableRows, side_at, row_a, row_b, row_of_material, pair_in}
use Rattle.proximities.specs.declared.Candidate.{Candidate}
use Rattle.candidates.specs.Candidates.{features_candidates, center_candidates}

-- the material of a side
abbrev pub material_of_side : TableRows → Pose → ℕ → Material
material_of_side t q side = material_or t q (choice_at t (row_of_material side))

unfoldable pub candidates_from : TableRows → Pose → ℕ → List Candidate
candidates_from t q i =
    let f = pair_in t i in
    cond (eqb (side_at t (row_a i)).geometry 0)
    (features_candidates (material_of_side t q (row_a i)) (material_of_side t q (row_b i)) f q)
    (center_candidates (material_of_side t q (row_a i)) f q)

-- the row bound of a pair, and room for so many candidates
abbrev pub bound_in : TableRows → ℕ → ℕ
bound_in t i =
    let a = side_at t (row_a i) in
    let b = side_at t (row_b i) in
    cond (eqb a.geometry 0) (a.discs * b.faces + b.discs * a.faces + a.discs * b.discs) a.faces

abbrev pub room_for_pair : TableRows → ℕ → ℕ → Bool
room_for_pair t i n = leb (bound_in t i) n
