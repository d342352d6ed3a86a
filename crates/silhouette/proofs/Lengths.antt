-- How many segments an outline and a silhouette have. Assumes nothing.
use Prim.Native.Nat.{ℕ, ◌+◌, ◌-◌, ◌<◌, ◌≤◌}
use native.Mathlib.Omega.{arith}
use mathlib.Core.Path.{◌≡◌, refl, sym, ap, ap₂, subst, ◌∙◌}
use mathlib.Core.Bool.{Bool, true, false, not, cond}
use mathlib.Core.List.{List, [], map, reverse}
use lib.Dec.{ltb}
use lib.Ieee.{Float}
use lib.ListN.{length, take, drop, length-map, length-append, length-reverse, length-set, length-drop}
use lib.Seq.{length-take-le}
use borrow.Author.Tests.{ltb-true, lt-ltb}
use Rattle.laws.proofs.Choice.{cond_yes, and_yes, both, not_yes}
use Rattle.ieee.specs.Num.{plain_zero}
use Rattle.geometry.specs.declared.Seg.{Seg}
use Rattle.mechanism.specs.Check.{parts_over, FewParts}
use Rattle.mechanism.specs.Description.{part_at, segs_of, start_of_part, turned_length, silhouette_length}
use Rattle.mechanism.specs.declared.Parts.{Parts}
use Rattle.mechanism.specs.declared.Outlines.{Outlines}
use Rattle.mechanism.specs.declared.part.Sweep.{Sweep}
use Rattle.mechanism.specs.declared.part.Sweep.TheVariants.{Extruded, Revolved, Milled, Oval}
use Rattle.mechanism.proofs.Checks.{few-parts, parts-few}
use Rattle.silhouette.specs.Silhouette.{seg_of, start_in, changed, chain_of, turned_seg, mirrored, revolved_of, silhouette_of, is_part, outline_of, silhouette_at}

-- the chain has one segment fewer than the outline
pub chain_length : (l : List Seg) → length (chain_of l) ≡ length l - 1
unfolding chain_of
chain_length l =
    length-set (changed start_in 0 (take (length l - 1) l)) (length l - 1 - 1) _ ∙ length-set (take (length l - 1) l) 0 _ ∙ length-take-le (length l - 1) l (omega arith)

revolved_length : (axis : Float) (chain : List Seg) → length (revolved_of axis chain) ≡ length chain + length chain
revolved_length axis chain =
    length-append (map (turned_seg axis) chain) (map (mirrored axis) (reverse chain))
    ∙ ap₂ (λ (a b : ℕ). a + b) (length-map chain (turned_seg axis)) (length-map (reverse chain) (mirrored axis) ∙ length-reverse chain)

pub silhouette_length_lem : (sweep : Sweep) (l : List Seg) → length (silhouette_of sweep l) ≡ silhouette_length sweep (length l)
unfolding silhouette_of
silhouette_length_lem (Extruded w a) l = refl
silhouette_length_lem (Revolved x) l = go (ltb (length l) 2) refl
  where
    go : (b : Bool) → ltb (length l) 2 ≡ b → length (cond b [] (revolved_of (plain_zero x) (chain_of l))) ≡ turned_length (length l)
    go true e = let h = ltb-true (length l) 2 e in omega arith
    go false e = revolved_length (plain_zero x) (chain_of l) ∙ ap (λ (n : ℕ). n + n) (chain_length l)
silhouette_length_lem (Milled w) l = refl
silhouette_length_lem (Oval w) l = refl

length-few : (sweep : Sweep) (n : ℕ) → n ≤ 48 → silhouette_length sweep n ≤ 94
length-few (Extruded w a) n h = omega arith
length-few (Revolved x) n h = omega arith
length-few (Milled w) n h = omega arith
length-few (Oval w) n h = omega arith

pub silhouette_few : (sweep : Sweep) (l : List Seg) → length l ≤ 48 → length (silhouette_of sweep l) ≤ 94
silhouette_few sweep l h = subst (λ (n : ℕ). n ≤ 94) (sym (silhouette_length_lem sweep l)) (length-few sweep (length l) h)

-- the outline of a part has as many segments as the part says
pub outline-length : (ps : Parts) (o : Outlines) → length o.seg ≡ 384 → FewParts ps → (i : ℕ) → i < ps.count → length (outline_of ps o i) ≡ segs_of ps i
unfolding outline_of
outline-length ps o k few i h =
    let a = few.all i h in
    let d = length-drop (start_of_part ps i) o.seg in
    length-map (take (segs_of ps i) (drop (start_of_part ps i) o.seg)) seg_of ∙ length-take-le (segs_of ps i) (drop (start_of_part ps i) o.seg) (omega arith)

-- ---- a number that names a part
pub part_of : (ps : Parts) (i : ℕ) → is_part ps i ≡ true → FewParts ps × (i < ps.count)
part_of ps i e =
    let b = both (not (parts_over ps)) (ltb i ps.count) e in
    (few-parts ps (not_yes (parts_over ps) b.0), ltb-true i ps.count b.1)

pub is-part : (ps : Parts) (i : ℕ) → FewParts ps → i < ps.count → is_part ps i ≡ true
is-part ps i f h = and_yes _ (ap not (parts-few ps f)) ∙ lt-ltb i ps.count h

pub silhouette_at-part : (ps : Parts) (o : Outlines) (i : ℕ) → is_part ps i ≡ true → silhouette_at ps o i ≡ silhouette_of (part_at ps i).sweep (outline_of ps o i)
unfolding silhouette_at
silhouette_at-part ps o i e = cond_yes _ _ e

-- its silhouette, and how many segments it has
pub part_length : (ps : Parts) (o : Outlines) (i : ℕ) → length o.seg ≡ 384 → FewParts ps → i < ps.count → length (silhouette_at ps o i) ≡ silhouette_length (part_at ps i).sweep (segs_of ps i)
part_length ps o i k f h =
    ap length (silhouette_at-part ps o i (is-part ps i f h)) ∙ silhouette_length_lem (part_at ps i).sweep (outline_of ps o i)
    ∙ ap (silhouette_length (part_at ps i).sweep) (outline-length ps o k f i h)

pub part-few : (ps : Parts) (o : Outlines) (i : ℕ) → length o.seg ≡ 384 → FewParts ps → i < ps.count → length (silhouette_at ps o i) ≤ 94
part-few ps o i k f h = subst (λ (n : ℕ). n ≤ 94) (sym (part_length ps o i k f h)) (length-few (part_at ps i).sweep (segs_of ps i) (f.each i h))
