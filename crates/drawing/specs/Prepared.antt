-- Drawn material over a prepared description: its parts and their drawn points in lent arrays. Definitions only.
use Rattle.std.specs.Prelude.{ℕ, Bool, cond, ◌&&◌, List, [], map, leb, length, get_or, replicate}
use Rattle.laws.specs.Lists.{list_in}
use Rattle.laws.specs.Loops.{filter_in}
use Rattle.geometry.specs.declared.Point.{Point}
use Rattle.mechanism.specs.Description.{sum_in}
use Rattle.bodies.specs.Pose.{placement_at, world_of}
use Rattle.bodies.specs.declared.pose.Pose.{Pose}
use Rattle.material.specs.Material.{Material}
use Rattle.strips.specs.Strips.{TableRows, part_at, drawn_at, at_most}
use Rattle.drawing.specs.Drawing.{chosen_as}
use Rattle.drawing.specs.declared.Chosen.{Chosen}

-- how many parts there are; thirty-two at most
abbrev pub parts_in : TableRows → ℕ
parts_in t = at_most (length t.parts) 32

-- how many points a part's polygon has
abbrev pub drawn_in : TableRows → ℕ → ℕ
drawn_in t i = (part_at t i).points

-- how many all parts have
abbrev pub all_drawn : TableRows → ℕ
all_drawn t = sum_in (drawn_in t) (parts_in t) 0

-- what each part is to a side
abbrev pub choice_at : TableRows → ℕ → Chosen
choice_at t i = record { what = get_or t.choices i (replicate 32 0) }

-- a part's polygon, placed with its body
unfoldable pub polygon_in : TableRows → Pose → ℕ → List Point
polygon_in t q i = map (world_of (placement_at q (part_at t i).body)) (list_in (drawn_at t) (drawn_in t i) (part_at t i).drawn)

abbrev pub polygons_in : TableRows → Pose → (ℕ → Bool) → List (List Point)
polygons_in t q p = map (polygon_in t q) (filter_in p (parts_in t) 0)

abbrev pub solids_in : TableRows → Pose → Chosen → List (List Point)
solids_in t q c = polygons_in t q (chosen_as c 1)

abbrev pub cuts_in : TableRows → Pose → Chosen → List (List Point)
cuts_in t q c = polygons_in t q (chosen_as c 2)

unfoldable pub material_in : TableRows → Pose → Chosen → Material
material_in t q c = record { solids = solids_in t q c; cuts = cuts_in t q c }

-- none where the parts have more points than those of any description
abbrev pub material_or : TableRows → Pose → Chosen → Material
material_or t q c = cond (leb (all_drawn t) 6144) (material_in t q c) (record { solids = []; cuts = [] })

-- the arrays have room
abbrev pub room_in : TableRows → ℕ → ℕ → Bool
room_in t points starts = leb (all_drawn t) points && leb 33 starts
