-- Where the outlines of parts start. Assumes nothing.
use Prim.Native.Nat.{ℕ, ◌+◌, ◌-◌, ◌<◌, ◌≤◌, min}
use native.Mathlib.Nat.{zero-add, min-eq_left}
use native.Mathlib.Omega.{arith}
use mathlib.Core.Path.{◌≡◌, sym, ap, ap₂, ◌∙◌}
use mathlib.Core.List.{List, ◌∷◌}
use lib.ListN.{get_or}
use lib.Seq.{take_all}
use Rattle.laws.specs.Fill.{Filling}
use Rattle.laws.specs.Lists.{list_in}
use Rattle.laws.proofs.Fill.{fill_end}
use Rattle.laws.proofs.Lists.{list_turn, list_done, list_get}
use Rattle.laws.proofs.Sums.{sum-none, sum_more, sum_same}
use Rattle.mechanism.specs.Check.{FewParts}
use Rattle.mechanism.specs.Description.{segs_of, start_of_part}
use Rattle.mechanism.specs.declared.Parts.{Parts}
use Rattle.drawing.specs.Drawing.{start_within, part_starts}

module _ (ps : Parts) where
  pub starts_first : 0 ≡ start_within ps 0
  starts_first = sym (sum-none (λ k. min (segs_of ps k) 48) 0)

  -- one part further
  pub starts_more : (i : ℕ) {at m : ℕ} → at ≡ start_within ps i → m ≡ min (segs_of ps i) 48 → at + m ≡ start_within ps (i + 1)
  starts_more i e k = ap₂ (λ (n m : ℕ). n + m) e k ∙ sym (sum_more (λ j. min (segs_of ps j) 48) i)

  pub starts_turn : (i at : ℕ) → i < 32 → at ≡ start_within ps i → list_in (start_within ps) (32 - i) i ≡ at ∷ list_in (start_within ps) (32 - (i + 1)) (i + 1)
  starts_turn i at h e = list_turn (start_within ps) 32 i h ∙ ap (λ (x : ℕ). x ∷ list_in (start_within ps) (32 - (i + 1)) (i + 1)) (sym e)

  pub starts_done : {l : List ℕ} {i : ℕ} → 32 ≤ i → Filling 32 (part_starts ps) l i (list_in (start_within ps) (32 - i) i) → l ≡ part_starts ps
  starts_done {l} {i} h f = let k = f.long in sym (take_all i l (omega (arith, k, h))) ∙ fill_end (list_done (start_within ps) 32 i h) f

  -- THE LAW: of a part that there is, where no limit is passed, it is where the outline starts
  pub part-starts : FewParts ps → (i : ℕ) → i < ps.count → {l : List ℕ} → l ≡ part_starts ps → get_or l i 0 ≡ start_of_part ps i
  part-starts few i h e =
      let n = few.count in
      ap (λ (l : List ℕ). get_or l i 0) e ∙ list_get (start_within ps) 0 32 0 i (omega (arith, n, h)) ∙ ap (start_within ps) (zero-add i)
      ∙ sum_same (λ k. min (segs_of ps k) 48) (segs_of ps) i (λ j k. min-eq_left (few.each j (omega (arith, k, h))))
