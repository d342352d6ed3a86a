-- The silhouette of a range's part, as it is read. Assumes nothing.
use Prim.Native.Nat.{ℕ, ◌≤◌}
use mathlib.Core.Path.{◌≡◌, sym, ap, subst, ◌∙◌}
use lib.ListN.{length}
use Rattle.mechanism.specs.Check.{FewParts}
use Rattle.mechanism.specs.declared.Parts.{Parts}
use Rattle.mechanism.specs.declared.Outlines.{Outlines}
use Rattle.mechanism.specs.declared.part.SurfaceRef.{SurfaceRef}
use Rattle.silhouette.specs.Silhouette.{segs_in, as_silhouette, silhouette_at}
use Rattle.silhouette.specs.declared.SilhouetteSegs.{SilhouetteSegs}
use Rattle.silhouette.proofs.Lengths.{part_length, part-few}
use Rattle.silhouette.proofs.Walks.{segs_in_lem}
use Rattle.sides.specs.Bounds.{DrawnRange}

module _ (ps : Parts) (o : Outlines) (k : length o.seg ≡ 384) (few : FewParts ps) (r : SurfaceRef) (d : DrawnRange ps r) {s : SilhouetteSegs} (e : s ≡ as_silhouette (silhouette_at ps o r.part)) where
  read_count : s.count ≡ length (silhouette_at ps o r.part)
  read_count = ap (λ (x : SilhouetteSegs). x.count) e

  pub read_within : r.end ≤ s.count
  read_within = subst (λ (n : ℕ). r.end ≤ n) (sym (read_count ∙ part_length ps o r.part k few d.part)) d.within

  pub read_few : s.count ≤ 94
  read_few = subst (λ (n : ℕ). n ≤ 94) (sym read_count) (part-few ps o r.part k few d.part)

  pub read_segs : segs_in s ≡ silhouette_at ps o r.part
  read_segs = ap segs_in e ∙ segs_in_lem (silhouette_at ps o r.part) (part-few ps o r.part k few d.part)
