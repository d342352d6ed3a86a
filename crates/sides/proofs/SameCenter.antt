-- The centre of a side asks of the outlines the silhouettes of its parts alone, and rows into which they were put give the same. Assumes nothing.
use Prim.Native.Nat.{ℕ, ◌-◌, ◌<◌, ◌≤◌}
use native.Mathlib.Omega.{arith}
use mathlib.Core.Path.{◌≡◌, sym, ap, ap₂, ◌∙◌}
use mathlib.Core.Bool.{Bool, cond}
use mathlib.Core.List.{List}
use lib.Ieee.{Float}
use lib.ListN.{length}
use lib.Seq.{sets}
use Rattle.laws.proofs.Choice.{cond_yes}
use Rattle.geometry.specs.declared.Point.{Point}
use Rattle.geometry.specs.declared.Seg.{Seg}
use Rattle.mechanism.specs.Check.{FewParts}
use Rattle.mechanism.specs.Description.{part_at, start_of_part}
use Rattle.mechanism.specs.Segments.{outlines_in, seg_rows, segs_fit, segs_counted}
use Rattle.mechanism.specs.declared.Outlines.{Outlines}
use Rattle.mechanism.specs.declared.Parts.{Parts}
use Rattle.mechanism.specs.declared.pair.Surface.{Surface}
use Rattle.silhouette.specs.Silhouette.{axis_of, is_part, outline_of, silhouette_from, silhouette_at}
use Rattle.silhouette.proofs.BySegment.{put_same}
use Rattle.silhouette.proofs.Lengths.{is-part, silhouette_at-part}
use Rattle.sides.specs.Bounds.{DrawnSide}
use Rattle.sides.specs.Features.{first_range, last_range, center_of, center_at}

-- the centre by the two silhouettes that it is read from
center_by : (ps : Parts) (o : Outlines) (u : Surface) (wanted : Bool) {a b : List Seg} → a ≡ silhouette_at ps o (first_range u).part → b ≡ silhouette_at ps o (last_range u).part
    → center_of wanted (axis_of (part_at ps (first_range u).part).sweep) a (first_range u) b (last_range u) ≡ center_at ps o u wanted
unfolding center_at
center_by ps o u wanted p q = ap₂ (λ (a b : List Seg). center_of wanted (axis_of (part_at ps (first_range u).part).sweep) a (first_range u) b (last_range u)) p q

pub center_same : (ps : Parts) (o o' : Outlines) → ((i : ℕ) → silhouette_at ps o i ≡ silhouette_at ps o' i) → (u : Surface) (wanted : Bool) → center_at ps o u wanted ≡ center_at ps o' u wanted
unfolding center_at
center_same ps o o' s u wanted = center_by ps o' u wanted (s (first_range u).part) (s (last_range u).part)

-- ---- parts that pass no limit
module _ (ps : Parts) (o : Outlines) (u : Surface) (wanted : Bool) (few : FewParts ps) where
  -- a silhouette from the row in which the part's outline starts
  started : (i : ℕ) {n : ℕ} → i < ps.count → n ≡ cond (is_part ps i) (start_of_part ps i) 0 → silhouette_from o n (part_at ps i) ≡ silhouette_at ps o i
  unfolding outline_of
  started i h e =
      let t = is-part ps i few h in
      ap (λ (n : ℕ). silhouette_from o n (part_at ps i)) (e ∙ cond_yes _ _ t) ∙ sym (silhouette_at-part ps o i t)

  pub center_started : {n m : ℕ} {c : Point} → DrawnSide ps u
      → n ≡ cond (is_part ps (first_range u).part) (start_of_part ps (first_range u).part) 0 → m ≡ cond (is_part ps (last_range u).part) (start_of_part ps (last_range u).part) 0
      → c ≡ center_of wanted (axis_of (part_at ps (first_range u).part).sweep)
      (silhouette_from o n (part_at ps (first_range u).part)) (first_range u) (silhouette_from o m (part_at ps (last_range u).part)) (last_range u)
      → c ≡ center_at ps o u wanted
  center_started d p q e =
      let some = d.some in
      e ∙ center_by ps o u wanted (started (first_range u).part (d.drawn 0 some).part p) (started (last_range u).part (d.drawn (u.count - 1) (omega arith)).part q)

  -- rows into which the counted segments were put
  pub center_put : (l : List (List Float)) {n : ℕ} {rows : List (List Float)} {c : Point} → length o.seg ≡ 384 → length l ≡ 384
      → (n ≡ segs_counted ps) × (n ≤ 384) → rows ≡ cond (segs_fit n (length l)) (sets l 0 (seg_rows o n)) l
      → c ≡ center_at ps (outlines_in rows) u wanted → c ≡ center_at ps o u wanted
  center_put l {rows = rows} long room counted put e = let b = counted.1 in e ∙ center_same ps (outlines_in rows) o (put_same ps o l long counted (omega (arith, b, room)) put) u wanted
