-- What is read of the tables of points and parts: each part's polygon and samples, and the material of a side. Assumes nothing.
use Prim.Native.Nat.{ℕ, zero, suc, ◌+◌, ◌-◌, ◌<◌, ◌≤◌}
use native.Mathlib.Omega.{arith}
use native.Mathlib.Nat.{zero-add}
use mathlib.Core.Path.{◌≡◌, refl, sym, ap, ap₂, ◌∙◌}
use mathlib.Core.Bool.{Bool, true, false, cond}
use mathlib.Core.List.{List, [], ◌∷◌, ◌++◌, map}
use lib.Dec.{ltb}
use lib.Ieee.{Float}
use lib.ListN.{length, take, drop, get_or, length-map, length-append, get_or-map}
use lib.Seq.{sets, get_or-take, take_at, drop_at}
use borrow.Author.Tests.{ltb-false, le-leb}
use Rattle.laws.specs.Lists.{list_in, flat}
use Rattle.laws.specs.Loops.{filter_in}
use Rattle.laws.proofs.Choice.{cond_yes}
use Rattle.laws.proofs.Lists.{get_d_any, list_get, list_as, list_length}
use Rattle.laws.proofs.Sums.{sum_same, sum-scaled}
use Rattle.laws.proofs.Writing.{sets-taken}
use Rattle.geometry.specs.declared.Point.{Point}
use Rattle.mechanism.specs.Check.{FewParts}
use Rattle.bodies.specs.Description.{no_point}
use Rattle.mechanism.specs.Description.{sum_in, segs_of}
use Rattle.bodies.specs.Pose.{placement_at, world_of}
use Rattle.mechanism.specs.declared.Outlines.{Outlines}
use Rattle.mechanism.specs.declared.Parts.{Parts}
use Rattle.mechanism.specs.declared.pair.Surface.{Surface}
use Rattle.bodies.specs.declared.pose.Pose.{Pose}
use Rattle.silhouette.specs.Silhouette.{silhouette_at}
use Rattle.strips.specs.Strips.{TableRows, at_most, part_from, part_at, point_from, sampled_at}
use Rattle.strips.specs.declared.PartFacts.{PartFacts}
use Rattle.drawing.specs.Drawing.{is_sampled, placed_of, polygon_of, side_material, chosen_as, chosen_material, side_chosen, row_of}
use Rattle.drawing.specs.Prepared.{parts_in, drawn_in, all_drawn, polygon_in, polygons_in, material_in, material_or}
use Rattle.drawing.specs.Samples.{mouths_of, samples_of, part_samples}
use Rattle.drawing.specs.declared.Chosen.{Chosen}
use Rattle.drawing.proofs.Laid.{side-chosen}
use Rattle.drawing.specs.Points.{up_to, Agrees, drawn_of, sampled_of, drawn_up_to, sampled_up_to, part_row, drawn_table, sampled_table, part_table}
use Rattle.drawing.proofs.Puts.{flat-parts, drawn-each, drawn-752, sampled_1598, drawn-start, sampled_start}

-- ---- a table that is written to the front of an array
pub sets-agrees : {A : Type 0} (out t : List (List A)) → length t ≤ length out → Agrees (sets out 0 t) t
sets-agrees {A} out t h i k = sym (get_or-take (length t) (sets out 0 t) i [] k) ∙ ap (λ (l : List (List A)). get_or l i []) (sets-taken t out (length t) refl h)

-- ---- points read back
abbrev point_at : List (List Float) → ℕ → Point
point_at l i = point_from (get_or l i [])

pub point-read : (l : List (List Float)) (ps : List Point) → Agrees l (map row_of ps) → (i : ℕ) → i < length ps → point_at l i ≡ get_or ps i no_point
point-read l ps a i h =
    let m = length-map ps row_of in
    let k : i < length (map row_of ps) = omega (arith, h, m) in
    ap point_from (a i k ∙ get_d_any (map row_of ps) i [] (row_of no_point) k ∙ get_or-map row_of ps i no_point)

-- those of i among those of the first n
module _ (f : ℕ → List Point) (i n : ℕ) (h : i < n) where
  abbrev others : List Point
  others = flat f (list_in (λ k. k) (n - (i + 1)) (i + 1))

  within : length (flat f (up_to i)) + length (f i) ≤ length (flat f (up_to n))
  within =
      let e = ap length (flat-parts f i n h) in
      let a = length-append (flat f (up_to i)) (f i ++ others) in
      let b = length-append (f i) others in
      omega (arith, e, a, b)

  pub points_read : (l : List (List Float)) → Agrees l (map row_of (flat f (up_to n))) → list_in (point_at l) (length (f i)) (length (flat f (up_to i))) ≡ f i
  points_read l a =
      list_as (point_at l) (flat f (up_to n)) no_point (point-read l (flat f (up_to n)) a) (length (f i)) (length (flat f (up_to i))) within
      ∙ ap (take (length (f i))) (ap (drop (length (flat f (up_to i)))) (flat-parts f i n h) ∙ drop_at (flat f (up_to i)) (f i ++ others) (length (flat f (up_to i))) refl)
      ∙ take_at (f i) others (length (f i)) refl

-- ---- a part's row read back
at-most_by : (n m : ℕ) (t : Bool) → ltb n m ≡ t → n ≤ m → cond t n m ≡ n
at-most_by n m true e h = refl
at-most_by n m false e h = let k = ltb-false n m e in omega (arith, h, k)

pub at-most_is : (n m : ℕ) → n ≤ m → at_most n m ≡ n
at-most_is n m h = at-most_by n m (ltb n m) refl h

module _ (ps : Parts) (o : Outlines) where
  abbrev pub facts_of : ℕ → PartFacts
  facts_of i = record {
    body = (Rattle.mechanism.specs.Description.part_at ps i).body;
    drawn = length (drawn_up_to ps o i);
    points = length (drawn_of ps o i);
    sampled = length (sampled_up_to ps o i);
    samples = length (sampled_of ps o i);
  }

  pub table_long : length (part_table ps o) ≡ ps.count
  table_long = list_length (part_row ps o) ps.count 0

  row_at : (i : ℕ) → i < ps.count → get_or (part_table ps o) i [] ≡ part_row ps o i
  row_at i h = list_get (part_row ps o) [] ps.count 0 i h ∙ ap (part_row ps o) (zero-add i)

  -- tables in which those of the parts stand, with nothing behind them
  module _ (few : FewParts ps) (t : TableRows) (stands : t.parts ≡ part_table ps o) where
    pub parts-in : parts_in t ≡ ps.count
    parts-in = ap (λ (l : List (List ℕ)). at_most (length l) 32) stands ∙ ap (λ (n : ℕ). at_most n 32) table_long ∙ at-most_is ps.count 32 few.count

    pub part-read : (i : ℕ) → i < ps.count → part_at t i ≡ facts_of i
    part-read i h =
        let b = (Rattle.mechanism.specs.Description.part_at ps i).body in
        let a = length (drawn_up_to ps o i) in
        let n = length (drawn_of ps o i) in
        let s = length (sampled_up_to ps o i) in
        let m = length (sampled_of ps o i) in
        let d = drawn-start ps o few i h in
        let e = sampled_start ps o few i h in
        ap (λ (l : List (List ℕ)). part_from (get_or l i [])) stands
        ∙ ap part_from (row_at i h)
        ∙ ap₂ (λ (x y : ℕ). made b x y (at_most s 65535) (at_most m 1598)) (at-most_is a 65535 (omega (arith, d))) (at-most_is n 752 (drawn-752 ps o i))
        ∙ ap₂ (λ (x y : ℕ). made b a n x y) (at-most_is s 65535 (omega (arith, e))) (at-most_is m 1598 (sampled_1598 ps o i))
      where
        made : ℕ → ℕ → ℕ → ℕ → ℕ → PartFacts
        made b x y z w = record { body = b; drawn = x; points = y; sampled = z; samples = w }

    pub all-drawn : all_drawn t ≤ 6144
    all-drawn =
        let e = ap (λ (n : ℕ). sum_in (drawn_in t) n 0) parts-in in
        let f = sum_same (drawn_in t) (λ i. length (drawn_of ps o i)) ps.count (λ i h. ap (λ (x : PartFacts). x.points) (part-read i h)) in
        let s = sum-scaled 16 (λ i. length (drawn_of ps o i)) (segs_of ps) (drawn-each ps o) ps.count 0 in
        let k = few.total in
        omega (arith, e, f, s, k)

    -- ---- a part's polygon and its samples
    module _ (q : Pose) (i : ℕ) (h : i < ps.count) where
      pub polygon_read : Agrees t.drawn (drawn_table ps o) → polygon_in t q i ≡ polygon_of ps o q i
      unfolding polygon_in polygon_of drawn_of
      polygon_read a =
          ap (λ (x : PartFacts). map (world_of (placement_at q x.body)) (list_in (point_at t.drawn) x.points x.drawn)) (part-read i h)
          ∙ ap (map (world_of (placed_of ps q i))) (points_read (drawn_of ps o) i ps.count h t.drawn a)

      pub samples_read : Agrees t.sampled (sampled_table ps o) → is_sampled (Rattle.mechanism.specs.Description.part_at ps i) ≡ true
          → map (world_of (placement_at q (part_at t i).body)) (list_in (sampled_at t) (part_at t i).samples (part_at t i).sampled) ≡ part_samples ps o q (mouths_of ps o) i
      unfolding part_samples sampled_of
      samples_read a k =
          ap (λ (x : PartFacts). map (world_of (placement_at q x.body)) (list_in (point_at t.sampled) x.samples x.sampled)) (part-read i h)
          ∙ ap (map (world_of (placed_of ps q i))) (points_read (sampled_of ps o) i ps.count h t.sampled a ∙ cond_yes (flat (samples_of (mouths_of ps o)) (silhouette_at ps o i)) [] k)

-- ---- the material of a side
map-chosen : (f g : ℕ → List Point) (p : ℕ → Bool) (k j : ℕ) → ((i : ℕ) → i < j + k → f i ≡ g i) → map f (filter_in p k j) ≡ map g (filter_in p k j)
unfolding filter_in
map-chosen f g p zero j e = refl
map-chosen f g p (suc k) j e = go (p j) (e j (omega arith)) (map-chosen f g p k (suc j) (λ i h. e i (omega arith)))
  where
    go : (b : Bool) → f j ≡ g j → map f (filter_in p k (suc j)) ≡ map g (filter_in p k (suc j))
        → map f (cond b (j ∷ filter_in p k (suc j)) (filter_in p k (suc j))) ≡ map g (cond b (j ∷ filter_in p k (suc j)) (filter_in p k (suc j)))
    go true x r = ap₂ (λ (y : List Point) (z : List (List Point)). y ∷ z) x r
    go false x r = r

module _ (ps : Parts) (o : Outlines) (few : FewParts ps) (t : TableRows) (stands : t.parts ≡ part_table ps o) (q : Pose) (a : Agrees t.drawn (drawn_table ps o)) where
  polygons_read : (p : ℕ → Bool) → polygons_in t q p ≡ map (polygon_of ps o q) (filter_in p ps.count 0)
  polygons_read p =
      ap (λ (n : ℕ). map (polygon_in t q) (filter_in p n 0)) (parts-in ps o few t stands)
      ∙ map-chosen (polygon_in t q) (polygon_of ps o q) p ps.count 0 (λ i h. polygon_read ps o few t stands q i (omega arith) a)

  pub material_read : (c : Chosen) → material_or t q c ≡ chosen_material ps o q c
  unfolding material_in chosen_material
  material_read c =
      cond_yes _ _ (le-leb (all_drawn t) 6144 (all-drawn ps o few t stands))
      ∙ ap₂ (λ (x y : List (List Point)). record { solids = x; cuts = y }) (polygons_read (chosen_as c 1)) (polygons_read (chosen_as c 2))

  pub side-read : (u : Surface) (cuts : Bool) → material_or t q (side_chosen ps u cuts) ≡ side_material ps o q u cuts
  side-read u cuts = material_read (side_chosen ps u cuts) ∙ side-chosen ps o q u cuts few.count
