-- Laws of the parts of a side: its ranges one by one, and the parts that are chosen. Assumes nothing.
use Prim.Native.Nat.{ℕ, ◌+◌, ◌-◌, ◌<◌, ◌≤◌}
use native.Mathlib.Omega.{arith}
use native.Mathlib.Nat.{sub-zero}
use mathlib.Core.Path.{◌≡◌, refl, sym, ap, ◌∙◌}
use mathlib.Core.Bool.{Bool, not, ◌&&◌, ◌||◌}
use mathlib.Core.List.{List, ◌∷◌}
use lib.Dec.{eqb}
use lib.ListN.{length, take}
use lib.Seq.{take_all}
use Rattle.laws.specs.Fill.{Filling}
use Rattle.laws.specs.Lists.{list_in, any}
use Rattle.laws.proofs.Fill.{fill_end}
use Rattle.laws.proofs.Lists.{list_turn, list_done, list_as}
use Rattle.mechanism.specs.Description.{no_range, part_at, range_at}
use Rattle.mechanism.specs.declared.Parts.{Parts}
use Rattle.mechanism.specs.declared.pair.Surface.{Surface}
use Rattle.mechanism.specs.declared.part.SurfaceRef.{SurfaceRef}
use Rattle.drawing.specs.Drawing.{is_sampled, is_read_cut, ranges_in, body_of_side, on_side, is_own, has_own, solid_in, cut_in, what_is, side_chosen}

-- the ranges that an array of four holds, by their indexes
pub ranges_list : (p : SurfaceRef → Bool) (u : Surface) (n : ℕ) → length u.range ≡ 4 → (n ≤ 4) × (take n u.range ≡ take u.count u.range)
    → any p (list_in (range_at u) (n - 0) 0) ≡ any p (ranges_in u)
ranges_list p u n k e =
    let h = e.0 in
    ap (λ (m : ℕ). any p (list_in (range_at u) m 0)) (sub-zero n) ∙ ap (any p) (list_as (range_at u) u.range no_range (λ i l. refl) n 0 (omega (arith, k, h)) ∙ e.1)

-- ---- the parts of a side, chosen one by one
module _ (ps : Parts) (u : Surface) (cuts : Bool) where
  abbrev pub what_of : ℕ → ℕ
  what_of i = what_is (solid_in ps u i) (cut_in ps u cuts i)

  pub what_at : (i : ℕ) {t body : ℕ} {own sampled mine cut : Bool}
      → t ≡ what_is (eqb (part_at ps i).body body && (sampled && (not own || mine))) (eqb (part_at ps i).body body && (cut && cuts))
      → body ≡ body_of_side ps u → own ≡ has_own ps u → sampled ≡ is_sampled (part_at ps i) → mine ≡ is_own u i → cut ≡ is_read_cut (part_at ps i) → t ≡ what_of i
  what_at i {t} {body} {own} {sampled} {mine} {cut} e b w s m r =
      e
      ∙ ap (λ (x : ℕ). what_is (eqb (part_at ps i).body x && (sampled && (not own || mine))) (eqb (part_at ps i).body x && (cut && cuts))) b
      ∙ ap (λ (x : Bool). what_is (on_side ps u i && (sampled && (not x || mine))) (on_side ps u i && (cut && cuts))) w
      ∙ ap (λ (x : Bool). what_is (on_side ps u i && (x && (not (has_own ps u) || mine))) (on_side ps u i && (cut && cuts))) s
      ∙ ap (λ (x : Bool). what_is (on_side ps u i && (is_sampled (part_at ps i) && (not (has_own ps u) || x))) (on_side ps u i && (cut && cuts))) m
      ∙ ap (λ (x : Bool). what_is (solid_in ps u i) (on_side ps u i && (x && cuts))) r

  pub what_turn : (i t : ℕ) → i < 32 → t ≡ what_of i → list_in what_of (32 - i) i ≡ t ∷ list_in what_of (32 - (i + 1)) (i + 1)
  what_turn i t h e = list_turn what_of 32 i h ∙ ap (λ (x : ℕ). x ∷ list_in what_of (32 - (i + 1)) (i + 1)) (sym e)

  pub what_done : {l : List ℕ} {i : ℕ} → 32 ≤ i → Filling 32 (list_in what_of 32 0) l i (list_in what_of (32 - i) i) → record { what = l } ≡ side_chosen ps u cuts
  unfolding side_chosen
  what_done {l} {i} h f =
      let k = f.long in
      ap (λ (m : List ℕ). record { what = m }) (sym (take_all i l (omega (arith, k, h))) ∙ fill_end (list_done what_of 32 i h) f)
