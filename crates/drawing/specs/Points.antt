-- The points of all parts in their bodies' frames, as tables. Definitions only.
use Rattle.std.specs.Prelude.{ℕ, ◌<◌, ◌≡◌, cond, List, [], ◌∷◌, map, length, get_or, Float}
use Rattle.laws.specs.Lists.{list_in, flat}
use Rattle.geometry.specs.declared.Point.{Point}
use Rattle.mechanism.specs.Description.{part_at}
use Rattle.mechanism.specs.declared.Outlines.{Outlines}
use Rattle.mechanism.specs.declared.Parts.{Parts}
use Rattle.silhouette.specs.Silhouette.{silhouette_at}
use Rattle.drawing.specs.Drawing.{is_sampled, drawn_points, row_of}
use Rattle.drawing.specs.Samples.{mouths_of, samples_of}

abbrev pub up_to : ℕ → List ℕ
up_to n = list_in (λ i. i) n 0

-- the rows of t stand in the front of l
abbrev pub Agrees : {A : Type 0} → List (List A) → List (List A) → Type 0
Agrees l t = (i : ℕ) → i < length t → get_or l i [] ≡ get_or t i []

-- ---- points: a part's silhouette as it is drawn, and the points sampled along it, both in its body's frame; only a solid or a lining in the section is sampled
unfoldable pub drawn_of : Parts → Outlines → ℕ → List Point
drawn_of ps o i = flat drawn_points (silhouette_at ps o i)

unfoldable pub sampled_of : Parts → Outlines → ℕ → List Point
sampled_of ps o i = cond (is_sampled (part_at ps i)) (flat (samples_of (mouths_of ps o)) (silhouette_at ps o i)) []

-- those of the first n parts
abbrev pub drawn_up_to : Parts → Outlines → ℕ → List Point
drawn_up_to ps o n = flat (drawn_of ps o) (up_to n)

abbrev pub sampled_up_to : Parts → Outlines → ℕ → List Point
sampled_up_to ps o n = flat (sampled_of ps o) (up_to n)

abbrev pub part_row : Parts → Outlines → ℕ → List ℕ
part_row ps o i = (part_at ps i).body ∷ length (drawn_up_to ps o i) ∷ length (drawn_of ps o i) ∷ length (sampled_up_to ps o i) ∷ length (sampled_of ps o i) ∷ []

abbrev pub drawn_table : Parts → Outlines → List (List Float)
drawn_table ps o = map row_of (drawn_up_to ps o ps.count)

abbrev pub sampled_table : Parts → Outlines → List (List Float)
sampled_table ps o = map row_of (sampled_up_to ps o ps.count)

abbrev pub part_table : Parts → Outlines → List (List ℕ)
part_table ps o = list_in (part_row ps o) ps.count 0
